use Rattle.std.specs.Prelude.{OnOk}
use Rattle.std.proofs.Common.{◌≡◌, ℕ, ◌≤◌, ◌<◌, ◌^◌, inr, List, length, map, Some, Result, Ok, Err, IfErr, refl, sym, ◌∙◌, ap, subst, arith, slice_get}
use Rattle.keepers.specs.Counts.{Rose}
use Rattle.level_book.specs.BookCosts.{slots_of}
use Rattle.reverse_runner.specs.KeepersSeen.{by_number, told_by, calls_to, HaveRoom}
use Rattle.reverse_runner.specs.declared.fault.RunFault.TheVariants as fault_is
use Rattle.reverse_console.specs.declared.order.Order.{Order}
use Rattle.reverse_console.specs.declared.script.Stop.{Stop}
use Rattle.reverse_console.specs.Answer.{IsOrder}
use Rattle.reverse_console.specs.ConsoleState.{ConsoleState, plan_of, source_of}
use Rattle.reverse_console.specs.Marks.{MarkPlan, span, mark_level}
use Rattle.reverse_console.specs.Refusals.{IsOfPutting}
use Rattle.reverse_console.specs.MarksOfRun.{Stands, MarksTell}
use Rattle.reverse_runner.specs.Rooms.{rooms_by}
use Rattle.reverse_runner.proofs.Rooms.{still_roomy}
use Rattle.reverse_console.specs.Causes.{fault_of}
use Rattle.reverse_console.proofs.Scripts.{if_ok_at, same_err, still_by}
use Rattle.endings.specs.declared.outcome.Outcome.{Outcome}
use Rattle.endings.specs.Outcomes.{done}
use Rattle.endings.specs.Endings.{status_of}
use Rattle.reversal.specs.Job.{console}
use Rattle.reversal.specs.Moment.{moment}
use Rattle.reversal.specs.CommandConsole.{IsOfMarks}
use Rattle.reversal.specs.JobModel.{Does, Works, moves, fault_ending}
use Rattle.reversal.proofs.MemoryFaults.{is_memory}
use Rattle.reversal.proofs.ConsoleProgress.{marks_refused, all_answered, order_refused}
use Rattle.reverse_runner.proofs.KeeperCalls.{past_others}
use Rattle.reversal.proofs.console.ConsoleRun.answer_orders.Goals as goal

-- a result is one of both
by_result : {T E : Type 0} (r : Result T E) (C : Type 0) → ((x : T) → r ≡ Ok x → C) → ((e : E) → r ≡ Err e → C) → C
by_result (Ok x) C ok err = ok x refl
by_result (Err e) C ok err = err e refl

-- what is said of each
said_ok : {T E : Type 0} (P : Type 0) (r : Result T E) (x : T) → r ≡ Ok x → OnOk r P → P
said_ok {T} {E} P r x is h = let Q : Result T E → Type 0 = λ s. OnOk s P in subst Q is h

said_err : {T E : Type 0} (P : E → Type 0) (r : Result T E) (e : E) → r ≡ Err e → IfErr r P → P e
said_err {T} {E} P r e is h = let Q : Result T E → Type 0 = λ s. IfErr s P in subst Q is h

not_ended : (r : Result (Unit {0}) Stop) → (fault_of r ≡ Err fault_is.Ended → ⊥) → IfErr r (λ stop. stop.fault ≡ fault_is.Ended → ⊥)
not_ended (Ok x) h = tt
not_ended (Err stop) h = λ e. h (ap Err e)

pub script_ending-requires : goal.script_ending-requires
script_ending-requires g c = not_ended c.answer_all.result c.answer_all.ensures.spared.not_ended

pub answer_all-requires : goal.answer_all-requires
answer_all-requires g c =
    let P : MarkPlan → Type 0 = λ q. HaveRoom (span q) q.slots (map g.K.Storage.slot_count c.args.keepers.now.items) in
    let R : List ℕ → Type 0 = λ l. HaveRoom (span c.in-Ok.console.plan) c.in-Ok.console.plan.slots l in
    record {
      lasts = c.in-Ok.ensures.begun.3;
      few = subst (λ (l : List Order). length l < 2 ^ 32) (sym c.deref.ensures.value) c.requires.can_be_done.few;
      orders = λ i order there.
          (let Q : MarkPlan → Type 0 = λ q. IsOrder q.count order in
          let S : List Order → Type 0 = λ l. slice_get l i ≡ Some order in
          subst Q (sym c.in-Ok.ensures.begun.0) (c.requires.can_be_done.orders i order (subst S c.deref.ensures.value there)));
      room = subst R (sym c.begin.ensures.kept.slots) (subst P (sym c.in-Ok.ensures.begun.0) c.requires.room);
    }

pub returns-in-Err : goal.returns-in-Err
returns-in-Err g c =
    let m = c.args.self in
    let fault = c.in-Err.fault in
    let p : MarkPlan = plan_of m.run in
    let a = moment g.O.Sink g.K.Storage c.args.out.now c.args.keepers.now.items c.args.counter.now in
    let b = moment g.O.Sink g.K.Storage c.args.out.now c.begin.new.keepers.items c.begin.new.steps in
    let E : Outcome → Type 0 = λ e. Works (moves m) e a b in
    record {
      works = inr (subst E (sym c.fault_ending.ensures)
          (marks_refused m.run.start m.run.journal p m.orders.items a b refl refl c.begin.ensures.puts.counted_at_most.0 c.begin.ensures.puts.counted_at_most.1 c.begin.ensures.puts.called_at_most refl fault c.in-Err.ensures.puts.putting
          (λ k e. (c.begin.ensures.kept.cause k (c.in-Err.is ∙ ap Err e)).1)
          (λ j never. c.begin.ensures.kept.quiet j (λ e. never (same_err c.begin.result fault (fault_is.Keeper j) c.in-Err.is e)))
          (λ k e. c.begin.ensures.puts.put_until k (c.in-Err.is ∙ ap Err e))));
      others = (record { slots_same = c.begin.ensures.kept.slots; places_same = c.begin.ensures.kept.places }, past_others g.K.Storage _ _ _ _ c.begin.ensures.kept);
      roomy = λ has e.
          (let wants = is_memory 0 fault (λ q. absurd (subst (IsOfPutting (plan_of c.args.self.run)) q c.in-Err.ensures.puts.putting)) (sym (ap status_of c.fault_ending.ensures) ∙ e) in
          let none = c.begin.ensures.roomy has (c.in-Err.is ∙ ap Err wants) in
          (c.fault_ending.ensures ∙ ap (fault_ending 0) wants, refl, none.0, none.1));
    }

pub returns : goal.returns
returns g c =
    let m = c.args.self in
    let made = c.in-Ok.console in
    let r = c.answer_all.result in
    let p : MarkPlan = plan_of m.run in
    let told = told_by g.K.Storage c.begin.new.keepers.items in
    let from = source_of made told in
    let a = moment g.O.Sink g.K.Storage c.args.out.now c.args.keepers.now.items c.args.counter.now in
    let b = moment g.O.Sink g.K.Storage c.answer_all.new.out c.answer_all.new.keepers.items c.answer_all.new.steps in
    let is : IsOfMarks m.run.start m.run.journal p b.images from = record { plan = c.in-Ok.ensures.begun.0; journal = c.in-Ok.ensures.begun.1; told = λ k. sym (c.answer_all.ensures.keepers.same k); marks = c.in-Ok.ensures.marks } in
    let stands = λ (tells : MarksTell p a.images). if_ok_at (λ (x : ConsoleState). Stands m.run.start x told) c.begin.result made c.in-Ok.is (c.begin.ensures.stands tells) in
    let states = λ (tells : MarksTell p a.images). c.sees_its_run.ensures.states m.run.start told c.is_machine_state.ensures (stands tells) in
    let sees = λ (tells : MarksTell p a.images). c.sees_its_run.ensures.answers m.run.start told c.is_machine_state.ensures (stands tells) in
    let f = g.K.Storage.fault_count in
    let before = c.begin.new.keepers.items in
    let after = c.answer_all.new.keepers.items in
    let quiet = λ (j : ℕ). c.begin.ensures.kept.quiet j (λ e. absurd (cc (c.in-Ok.is, e))) in
    let E : Outcome → Type 0 = λ e. Works (moves m) e a b in
    let J : Outcome → List Order → Type 0 = λ e l. Works (console m.run.start m.run.journal p l) e a b in
    let are = c.answer_all.ensures.keepers.are in
    let S : MarkPlan → Type 0 = λ q. (k : ℕ) → length q.slots ≤ k → slice_get after k ≡ slice_get before k in
    let others = subst S c.in-Ok.ensures.begun.0 (past_others g.K.Storage _ _ _ _ are) in
    by_result r (Does g.O.Sink g.K.Storage (moves m) c.script_ending.result c.args.out.now c.answer_all.new.out c.args.keepers.now c.answer_all.new.keepers c.args.counter.now c.answer_all.new.steps)
    (λ x ok.
    let over = ap fault_of ok in
    let ended : c.script_ending.result ≡ done = said_ok _ r x ok c.script_ending.ensures.done in
    record {
      works = inr (subst E (sym ended) (subst (J done) c.deref.ensures.value
          (all_answered m.run.start m.run.journal p c.deref.result.now from a b made.place c.answer_all.new.console.place c.begin.new.steps (calls_to g.K.Storage before)
          is c.in-Ok.ensures.begun.2 c.in-Ok.ensures.puts.counted c.in-Ok.ensures.puts.called states sees (said_ok _ r x ok c.answer_all.ensures.answers.written)
          (record { sink = c.answer_all.ensures.faults.quiet (λ e. absurd (cc (over, e))); keepers = λ k. still_by g.K.Storage _ r x _ _ ok are k ∙ quiet k }))));
      others = (record { slots_same = are.slots ∙ c.begin.ensures.kept.slots; places_same = are.places ∙ c.begin.ensures.kept.places }, λ k past. others k past ∙ past_others g.K.Storage _ _ _ _ c.begin.ensures.kept k past);
      roomy = λ has e. (let zero : 0 ≡ 17 = sym (ap status_of ended) ∙ e in absurd (omega (arith, zero)));
    })
    (λ stop err.
    let refused = ap fault_of err in
    let ended : c.script_ending.result ≡ fault_ending stop.order stop.fault = said_err _ r stop err c.script_ending.ensures.refused in
    record {
      works = inr (subst E (sym ended) (subst (J (fault_ending stop.order stop.fault)) c.deref.ensures.value
          (order_refused m.run.start m.run.journal p c.deref.result.now from a b made.place c.answer_all.new.console.place c.begin.new.steps (calls_to g.K.Storage before)
          is c.in-Ok.ensures.begun.2 c.in-Ok.ensures.puts.counted c.in-Ok.ensures.puts.called states sees stop.order stop.fault (said_err _ r stop err c.answer_all.ensures.answers.broken_off)
          (λ e. c.answer_all.ensures.spared.not_ended (refused ∙ ap Err e))
          (λ k e. (let rose = (are.cause k (refused ∙ ap Err e)).1 in let N : ℕ → Type 0 = λ n. Rose n (by_number 0 f after k) in subst N (quiet k) rose))
          (λ j never. are.quiet j (λ e. never (same_err (fault_of r) stop.fault (fault_is.Keeper j) refused e)) ∙ quiet j)
          (λ e. c.answer_all.ensures.faults.cause (refused ∙ ap Err e))
          (λ never. c.answer_all.ensures.faults.quiet (λ e. never (same_err (fault_of r) stop.fault fault_is.Visitor refused e)))
          (λ tells k put got e.
          let here = stands (λ i known. tells (mark_level p i) (c.the_marks_have_levels.ensures m.run.book m.run.count c.requires.can_be_done.slots i known)) in
          c.answer_all.ensures.spared.undamaged m.run.start c.is_machine_state.ensures here k put got (refused ∙ ap Err e)))));
      others = (record { slots_same = are.slots ∙ c.begin.ensures.kept.slots; places_same = are.places ∙ c.begin.ensures.kept.places }, λ k past. others k past ∙ past_others g.K.Storage _ _ _ _ c.begin.ensures.kept k past);
      roomy = λ has e.
          (let wants = is_memory stop.order stop.fault (λ q. c.answer_all.ensures.spared.not_ended (refused ∙ ap Err q)) (sym (ap status_of ended) ∙ e) in
          let plan = ap (λ (q : MarkPlan). q.slots) c.in-Ok.ensures.begun.0 in
          let here = still_roomy m.run.start made.work (slots_of m.run.book) made.plan.slots (rooms_by g.K.Storage c.args.keepers.now.items) (rooms_by g.K.Storage before) c.in-Ok.ensures.marks.machine plan c.begin.ensures.kept.rooms has in
          absurd (c.answer_all.ensures.spared.roomy here (refused ∙ ap Err wants)));
    })
