use Rattle.std.proofs.Common.{◌≡◌, ℕ, ◌+◌, ◌-◌, ◌<◌, ◌++◌, [], ◌∷◌, List, length, map, take, slice_get, slice_index_or, Some, Ok, Err, refl, sym, ◌∙◌, ap, subst, arith}
use Rattle.std.proofs.lemmas.Option.{slice_get-get_or}
use Rattle.std.proofs.lemmas.List.{take_all}
use Rattle.keepers.specs.Claims.{Tells}
use Rattle.schedule_rules.proofs.VerdictReasons.{take_one_more}
use Rattle.reverse_runner.specs.Desks.{KeepersAre}
use Rattle.reverse_runner.specs.KeepersSeen.{told_by, calls_to, HaveRoom}
use Rattle.reverse_runner.specs.declared.fault.RunFault.TheVariants.{Visitor}
use Rattle.reverse_console.specs.declared.order.Order.{Order}
use Rattle.reverse_console.specs.declared.order.Order.TheVariants.{Back}
use Rattle.reverse_console.specs.Answer.{IsOrder}
use Rattle.reverse_console.specs.ConsoleState.{source_of}
use Rattle.reverse_runner.specs.Rooms.{rooms_by}
use Rattle.reverse_runner.proofs.Rooms.{still_roomy}
use Rattle.reverse_runner.proofs.KeeperCalls.{are_err, are_ok, are_still}
use Rattle.reverse_console.specs.Marks.{MarkPlan, span}
use Rattle.reverse_console.specs.ScriptAnswers.{moment, AreAnswered, AreWritten, AreAnswers, BreaksOffIn}
use Rattle.reverse_console.proofs.OrderCosts.{both_ways}
use Rattle.reverse_console.proofs.KeeperCalls.{are_after}
use Rattle.reverse_console.proofs.MarkGets.{at_ok}
use Rattle.reverse_console.proofs.Scripts.{tells_none, tells_more, answered_more, answered_there, breaks_of, missed_there, took_there, stands_there, goes_then, in_run, breaks_in_run, same_err}
use Rattle.reverse_console.proofs.script.answer_all.Goals as goal

pub loop-at-init : goal.loop-at-init
loop-at-init g c = record {
  lasts = c.requires.lasts;
  goes = record { machine = refl; plan = refl; store = refl; journal = refl };
  same = λ k. refl;
  are = are_still g.K.Storage _ tt c.args.keepers.now.items;
  still = refl;
  written = record { answers = []; text = []; are = (refl, refl, refl); written = tells_none (g.O.Sink.told c.args.out.now) };
}

pub answer_line-requires : goal.answer_line-requires
answer_line-requires g c =
    let so_far = c.loop-at.invariant in
    let at = c.loop-at.at in
    let orders = c.args.orders.now in
    let order = slice_index_or orders at (Back 0) in
    let counts = map g.K.Storage.slot_count c.loop-at.keepers.items in
    let O : MarkPlan → Type 0 = λ p. IsOrder p.count order in
    let H : MarkPlan → Type 0 = λ p. HaveRoom (span p) p.slots counts in
    let plan = c.args.console.now.plan in
    record {
      lasts = so_far.lasts;
      order = subst O (sym so_far.goes.plan) (c.requires.orders at order (slice_get-get_or orders at (Back 0) (omega arith)));
      room = subst H (sym so_far.goes.plan) (subst (HaveRoom (span plan) plan.slots) (sym so_far.are.slots) c.requires.room);
    }

pub loop-at-preserved : goal.loop-at-preserved
loop-at-preserved g c =
    let keeper = g.K.Storage in
    let sink = g.O.Sink in
    let so_far = c.loop-at.invariant in
    let old = c.args.console.now in
    let mid = c.loop-at.console in
    let new = c.answer_line.new.console in
    let told = told_by keeper c.args.keepers.now.items in
    let told' = told_by keeper c.loop-at.keepers.items in
    let at = c.loop-at.at in
    let orders = c.args.orders.now in
    let order = slice_index_or orders at (Back 0) in
    let within : at < length orders = omega arith in
    let there : slice_get orders at ≡ Some order = slice_get-get_or orders at (Back 0) within in
    let from = source_of old told in
    let m0 = moment old c.args.steps.now (calls_to keeper c.args.keepers.now.items) (sink.call_count c.args.out.now) in
    let m1 = moment mid c.loop-at.steps (calls_to keeper c.loop-at.keepers.items) (sink.call_count c.loop-at.out) in
    let m2 = moment new c.answer_line.new.steps (calls_to keeper c.answer_line.new.keepers.items) (sink.call_count c.answer_line.new.out) in
    let one = at_ok c.answer_line.result _ c.in_default.is c.answer_line.ensures.answered in
    let here = answered_there old mid told told' so_far.goes so_far.same order one.0 one.1.0 m1 m2 one.1.1.0 in
    let w = so_far.written in
    let are = answered_more from (take at orders) w.answers w.text m0 m1 m2 order one.0 one.1.0 w.are here in
    let L : List Order → Type 0 = λ l. AreAnswered from l (w.answers ++ one.0 ∷ []) (w.text ++ one.1.0) m0 m2 in
    let T : ℕ → Type 0 = λ k. k < length old.plan.slots in
    let S : MarkPlan → Type 0 = λ p. KeepersAre {A = Unit} keeper (λ k. k < length p.slots) (Ok tt) c.loop-at.keepers.items c.answer_line.new.keepers.items in
    let done = subst S so_far.goes.plan (are_ok keeper _ c.answer_line.result _ tt _ _ c.in_default.is c.answer_line.ensures.leaves.keepers.are) in
    record {
      lasts = at_ok c.answer_line.result _ c.in_default.is c.answer_line.ensures.leaves.leaves.lasts;
      goes = goes_then old mid new so_far.goes c.answer_line.ensures.leaves.leaves.goes_on;
      same = λ k. c.answer_line.ensures.leaves.keepers.same k ∙ so_far.same k;
      are = are_after {B = Unit} keeper T (Ok tt) _ _ _ so_far.are done;
      still = c.answer_line.ensures.faults.quiet (λ e. both_ways c.answer_line.result Visitor c.in_default.is e) ∙ so_far.still;
      written = record {
        answers = w.answers ++ one.0 ∷ [];
        text = w.text ++ one.1.0;
        are = subst L (sym (take_one_more orders at order there)) are;
        written = tells_more w.text one.1.0 (sink.told c.args.out.now) (sink.told c.loop-at.out) (sink.told c.answer_line.new.out) w.written one.1.1.1;
      };
    }

pub returns-in-Err-clause-answers : goal.returns-in-Err-clause-answers
returns-in-Err-clause-answers g c =
    let keeper = g.K.Storage in
    let sink = g.O.Sink in
    let so_far = c.loop-at.invariant in
    let old = c.args.console.now in
    let mid = c.loop-at.console in
    let told = told_by keeper c.args.keepers.now.items in
    let told' = told_by keeper c.loop-at.keepers.items in
    let at = c.loop-at.at in
    let orders = c.args.orders.now in
    let order = slice_index_or orders at (Back 0) in
    let within : at < length orders = omega arith in
    let there : slice_get orders at ≡ Some order = slice_get-get_or orders at (Back 0) within in
    let from = source_of old told in
    let m0 = moment old c.args.steps.now (calls_to keeper c.args.keepers.now.items) (sink.call_count c.args.out.now) in
    let calls1 = calls_to keeper c.loop-at.keepers.items in
    let calls2 = calls_to keeper c.answer_line.new.keepers.items in
    let m1 = moment mid c.loop-at.steps calls1 (sink.call_count c.loop-at.out) in
    let fault = c.in-Err.fault in
    let back : at ≡ at + 1 - 1 = omega arith in
    let G : ℕ → Type 0 = λ i. slice_get orders i ≡ Some order in
    let w = so_far.written in
    let L : ℕ → Type 0 = λ i. AreAnswered from (take i orders) w.answers w.text m0 m1 in
    let m2 = moment c.answer_line.new.console c.answer_line.new.steps calls2 (sink.call_count c.answer_line.new.out) in
    let b = breaks_of from order fault w.text m1 m2 (sink.told c.args.out.now) (sink.told c.loop-at.out) (sink.told c.answer_line.new.out) w.written
    (λ e. missed_there old mid told told' so_far.goes so_far.same order m1 m2 (sink.told c.loop-at.out) (sink.told c.answer_line.new.out) (c.answer_line.ensures.leaves.missed (c.in-Err.is ∙ ap Err e)))
    (λ never. c.in-Err.ensures.leaves.unwritten (λ e. never (same_err _ fault Visitor refl e)))
    (λ e. c.answer_line.ensures.leaves.spared.not_ended (c.in-Err.is ∙ ap Err e))
    (took_there old mid told told' so_far.goes so_far.same mid.place order fault c.loop-at.steps c.answer_line.new.steps calls1 calls2 c.in-Err.ensures.leaves.took_until) in
    record {
      written = tt;
      broken_off = record {
        from_one = omega arith;
        order = order;
        there = subst G back there;
        answers = w.answers;
        text = w.text;
        mid = m1;
        are = subst L back w.are;
        stays = c.in-Err.ensures.leaves.leaves.stays;
        breaks = b;
      };
    }

pub returns-in-Err-clause-in_run : goal.returns-in-Err-clause-in_run
returns-in-Err-clause-in_run g c first is stands =
    let keeper = g.K.Storage in
    let sink = g.O.Sink in
    let so_far = c.loop-at.invariant in
    let old = c.args.console.now in
    let mid = c.loop-at.console in
    let told = told_by keeper c.args.keepers.now.items in
    let told' = told_by keeper c.loop-at.keepers.items in
    let at = c.loop-at.at in
    let orders = c.args.orders.now in
    let order = slice_index_or orders at (Back 0) in
    let within : at < length orders = omega arith in
    let there : slice_get orders at ≡ Some order = slice_get-get_or orders at (Back 0) within in
    let from = source_of old told in
    let m0 = moment old c.args.steps.now (calls_to keeper c.args.keepers.now.items) (sink.call_count c.args.out.now) in
    let m1 = moment mid c.loop-at.steps (calls_to keeper c.loop-at.keepers.items) (sink.call_count c.loop-at.out) in
    let fault = c.in-Err.fault in
    let back : at ≡ at + 1 - 1 = omega arith in
    let G : ℕ → Type 0 = λ i. slice_get orders i ≡ Some order in
    let w = so_far.written in
    let states = c.sees_its_run.ensures.states first told is stands in
    let sees = c.sees_its_run.ensures.answers first told is stands in
    let r = in_run first from states sees (take at orders) w.answers w.text m0 m1 w.are in
    let calls1 = calls_to keeper c.loop-at.keepers.items in
    let calls2 = calls_to keeper c.answer_line.new.keepers.items in
    let m2 = moment c.answer_line.new.console c.answer_line.new.steps calls2 (sink.call_count c.answer_line.new.out) in
    let b = breaks_of from order fault w.text m1 m2 (sink.told c.args.out.now) (sink.told c.loop-at.out) (sink.told c.answer_line.new.out) w.written
    (λ e. missed_there old mid told told' so_far.goes so_far.same order m1 m2 (sink.told c.loop-at.out) (sink.told c.answer_line.new.out) (c.answer_line.ensures.leaves.missed (c.in-Err.is ∙ ap Err e)))
    (λ never. c.in-Err.ensures.leaves.unwritten (λ e. never (same_err _ fault Visitor refl e)))
    (λ e. c.answer_line.ensures.leaves.spared.not_ended (c.in-Err.is ∙ ap Err e))
    (took_there old mid told told' so_far.goes so_far.same mid.place order fault c.loop-at.steps c.answer_line.new.steps calls1 calls2 c.in-Err.ensures.leaves.took_until) in
    let L : ℕ → Type 0 = λ i. AreAnswers first old.journal old.plan.count old.place (take i orders) w.answers mid.place in
    let E : ℕ → Type 0 = λ p. AreAnswers first old.journal old.plan.count old.place (take (at + 1 - 1) orders) w.answers p in
    let B : ℕ → Type 0 = λ p. BreaksOffIn first old.journal old.plan.count p order fault w.answers (sink.told c.args.out.now) (sink.told c.answer_line.new.out) in
    let here = sym c.in-Err.ensures.leaves.leaves.stays in
    record {
      written = tt;
      broken_off = record {
        from_one = omega arith;
        order = order;
        there = subst G back there;
        answers = w.answers;
        are = subst E here (subst L back r.0);
        breaks = subst B here (breaks_in_run first from states sees order fault w.text m1 m2 w.answers (sink.told c.args.out.now) (sink.told c.answer_line.new.out) r.1 b);
      };
    }

pub returns-in-Err-clause-stands : goal.returns-in-Err-clause-stands
returns-in-Err-clause-stands g c first stands =
    let keeper = g.K.Storage in
    let so_far = c.loop-at.invariant in
    let old = c.args.console.now in
    let told = told_by keeper c.args.keepers.now.items in
    stands_there old c.answer_line.new.console told (told_by keeper c.answer_line.new.keepers.items) (goes_then old c.loop-at.console c.answer_line.new.console so_far.goes c.answer_line.ensures.leaves.leaves.goes_on)
    (λ k. c.answer_line.ensures.leaves.keepers.same k ∙ so_far.same k) first stands

pub returns-in-Err-clause-goes_on : goal.returns-in-Err-clause-goes_on
returns-in-Err-clause-goes_on g c = goes_then c.args.console.now c.loop-at.console c.answer_line.new.console c.loop-at.invariant.goes c.answer_line.ensures.leaves.leaves.goes_on

pub returns-in-Err-clause-spared : goal.returns-in-Err-clause-spared
returns-in-Err-clause-spared g c =
    let keeper = g.K.Storage in
    let so_far = c.loop-at.invariant in
    let old = c.args.console.now in
    let mid = c.loop-at.console in
    let rooms = rooms_by g.K.Storage in
    let plan = ap (λ (p : MarkPlan). p.slots) so_far.goes.plan in
    record {
      not_ended = λ e. c.answer_line.ensures.leaves.spared.not_ended (c.in-Err.is ∙ e);
      undamaged = λ first is stands k put got e.
          let here = stands_there c.args.console.now c.loop-at.console (told_by keeper c.args.keepers.now.items) (told_by keeper c.loop-at.keepers.items) so_far.goes so_far.same first stands in
          c.answer_line.ensures.leaves.spared.undamaged first is here k put got (c.in-Err.is ∙ e);
      roomy = λ has e.
          let here = still_roomy old.work mid.work old.plan.slots mid.plan.slots (rooms c.args.keepers.now.items) (rooms c.loop-at.keepers.items) so_far.goes.machine plan so_far.are.rooms has in
          c.answer_line.ensures.leaves.spared.roomy here (c.in-Err.is ∙ e);
    }

pub returns-in-Err-clause-keepers : goal.returns-in-Err-clause-keepers
returns-in-Err-clause-keepers g c =
    let keeper = g.K.Storage in
    let so_far = c.loop-at.invariant in
    let T : ℕ → Type 0 = λ k. k < length c.args.console.now.plan.slots in
    let S : MarkPlan → Type 0 = λ p. KeepersAre keeper (λ k. k < length p.slots) c.answer_line.result c.loop-at.keepers.items c.answer_line.new.keepers.items in
    record {
      same = λ k. c.answer_line.ensures.leaves.keepers.same k ∙ c.loop-at.invariant.same k;
      are =
          are_err keeper T c.answer_line.result (Err c.in-Err.fault) c.in-Err.fault c.in-Err.fault _ _ c.in-Err.is refl refl
          (are_after keeper T c.answer_line.result _ _ _ so_far.are (subst S so_far.goes.plan c.answer_line.ensures.leaves.keepers.are));
    }

pub returns-clause-keepers : goal.returns-clause-keepers
returns-clause-keepers g c = record {
  same = c.loop-at.invariant.same;
  are = c.loop-at.invariant.are;
}

pub returns-in-Err-clause-faults : goal.returns-in-Err-clause-faults
returns-in-Err-clause-faults g c = record {
  cause = λ e.
      let rose = c.answer_line.ensures.faults.cause (c.in-Err.is ∙ e) in
      omega (arith, rose, c.loop-at.invariant.still);
  quiet = λ never. c.answer_line.ensures.faults.quiet (λ e. never (sym c.in-Err.is ∙ e)) ∙ c.loop-at.invariant.still;
  later = omega (arith, c.answer_line.ensures.faults.later, c.loop-at.invariant.still);
}

pub returns-clause-in_run : goal.returns-clause-in_run
returns-clause-in_run g c first is stands =
    let keeper = g.K.Storage in
    let sink = g.O.Sink in
    let so_far = c.loop-at.invariant in
    let old = c.args.console.now in
    let told = told_by keeper c.args.keepers.now.items in
    let at = c.loop-at.at in
    let orders = c.args.orders.now in
    let m0 = moment old c.args.steps.now (calls_to keeper c.args.keepers.now.items) (sink.call_count c.args.out.now) in
    let m1 = moment c.loop-at.console c.loop-at.steps (calls_to keeper c.loop-at.keepers.items) (sink.call_count c.loop-at.out) in
    let w = so_far.written in
    let all : take at orders ≡ orders = take_all at orders (omega arith) in
    let T : List ℕ → Type 0 = λ t. Tells (sink.told c.args.out.now) (sink.told c.loop-at.out) (λ x y. y ≡ x ++ t) in
    record {
      written =
          let r = in_run first (source_of old told) (c.sees_its_run.ensures.states first told is stands) (c.sees_its_run.ensures.answers first told is stands) (take at orders) w.answers w.text m0 m1 w.are in
          let L : List Order → Type 0 = λ l. AreAnswers first old.journal old.plan.count old.place l w.answers c.loop-at.console.place in
          record { answers = w.answers; are = subst L all r.0; written = subst T r.1 w.written };
      broken_off = tt;
    }

pub returns-clause-stands : goal.returns-clause-stands
returns-clause-stands g c first stands =
    let keeper = g.K.Storage in
    let so_far = c.loop-at.invariant in
    stands_there c.args.console.now c.loop-at.console (told_by keeper c.args.keepers.now.items) (told_by keeper c.loop-at.keepers.items) so_far.goes so_far.same first stands

pub returns-clause-answers : goal.returns-clause-answers
returns-clause-answers g c =
    let keeper = g.K.Storage in
    let sink = g.O.Sink in
    let so_far = c.loop-at.invariant in
    let old = c.args.console.now in
    let told = told_by keeper c.args.keepers.now.items in
    let at = c.loop-at.at in
    let orders = c.args.orders.now in
    let m0 = moment old c.args.steps.now (calls_to keeper c.args.keepers.now.items) (sink.call_count c.args.out.now) in
    let m1 = moment c.loop-at.console c.loop-at.steps (calls_to keeper c.loop-at.keepers.items) (sink.call_count c.loop-at.out) in
    let all : take at orders ≡ orders = take_all at orders (omega arith) in
    let W : List Order → Type 0 = λ l. AreWritten (source_of old told) l m0 m1 (sink.told c.args.out.now) (sink.told c.loop-at.out) in
    record {
      written = subst W all so_far.written;
      broken_off = tt;
    }

pub returns-clause-spared : goal.returns-clause-spared
returns-clause-spared g c = record {
  not_ended = λ e. absurd cc;
  undamaged = λ first is stands k put got e. absurd cc;
  roomy = λ has e. absurd cc;
}

pub returns-clause-faults : goal.returns-clause-faults
returns-clause-faults g c = record {
  cause = λ e. absurd cc;
  quiet = λ ne. c.loop-at.invariant.still;
  later = (let still = c.loop-at.invariant.still in omega (arith, still));
}
