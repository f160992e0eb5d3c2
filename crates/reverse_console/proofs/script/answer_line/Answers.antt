use Rattle.std.proofs.Common.{◌≡◌, ℕ, ◌++◌, List, Option, codes, refl, sym, ◌∙◌, ap, subst, arith}
use Rattle.std.proofs.lemmas.Result.{err_from_is_err_and}
use Rattle.keepers.specs.Counts.{raised}
use Rattle.keepers.specs.Claims.{Tells, AddsPrefix}
use Rattle.reverse_runner.specs.KeepersSeen.{told_by, calls_to}
use Rattle.reverse_runner.specs.declared.fault.RunFault.TheVariants.{Visitor}
use Rattle.reverse_console.specs.ConsoleState.{source_of}
use Rattle.reverse_console.specs.Costs.{effort_of, Takes}
use Rattle.reverse_console.specs.ScriptAnswers.{IsTextOf, place_after}
use Rattle.reverse_runner.proofs.KeeperCalls.{are_ok}
use Rattle.reverse_console.proofs.OrderCosts.{both_ways}
use Rattle.reverse_console.proofs.OrderEffects.{spared_missed, faults_err, faults_ok, order_err, order_ok}
use Rattle.reverse_console.proofs.KeeperCalls.{are_missed}
use Rattle.reverse_console.proofs.Scripts.{found_is, shown_some, shown_none, if_ok_at}
use Rattle.reverse_console.proofs.script.answer_line.Goals as goal

pub returns-then-found-clause-answered : goal.returns-then-found-clause-answered
returns-then-found-clause-answered g c =
    let sink = g.O.Sink in
    let src = source_of c.args.console.now (told_by g.K.Storage c.args.keepers.now.items) in
    let h = if_ok_at _ c.show.result c.in_ok-found.found c.in_ok-found.was c.show.ensures.shown in
    let s = shown_some src h.answer c.in_ok-found.found (sink.call_count c.args.out.now) (sink.call_count c.show.new.out) (sink.told c.args.out.now) (sink.told c.show.new.out) h.shown c.if-found.true in
    let is = found_is src h.answer c.in_ok-found.found c.args.console.now.place c.show.new.console.place (sink.call_count c.args.out.now) (sink.call_count c.show.new.out) (sink.told c.args.out.now) (sink.told c.show.new.out) h.shown h.place in
    let E : Option ℕ → Type 0 = λ a. Takes src.plan (effort_of src.plan c.args.console.now.place c.args.order.now a) c.args.steps.now c.show.new.steps (calls_to g.K.Storage c.args.keepers.now.items) (calls_to g.K.Storage c.show.new.keepers.items) in
    let takes = subst E is h.takes in
    (h.answer, (s.text, (record { seen = h.seen; place = h.place; says = s.says; takes = takes; wrote = s.wrote }, s.told)))

pub returns-in-Ok-clause-answered : goal.returns-in-Ok-clause-answered
returns-in-Ok-clause-answered g c =
    let sink = g.O.Sink in
    let src = source_of c.args.console.now (told_by g.K.Storage c.args.keepers.now.items) in
    let h = if_ok_at _ c.show.result c.in_ok-found.found c.in_ok-found.was c.show.ensures.shown in
    let none = shown_none src h.answer c.in_ok-found.found (sink.call_count c.args.out.now) (sink.call_count c.show.new.out) (sink.told c.args.out.now) (sink.told c.show.new.out) h.shown c.if-found.false in
    let is = found_is src h.answer c.in_ok-found.found c.args.console.now.place c.show.new.console.place (sink.call_count c.args.out.now) (sink.call_count c.show.new.out) (sink.told c.args.out.now) (sink.told c.show.new.out) h.shown h.place in
    let E : Option ℕ → Type 0 = λ a. Takes src.plan (effort_of src.plan c.args.console.now.place c.args.order.now a) c.args.steps.now c.show.new.steps (calls_to g.K.Storage c.args.keepers.now.items) (calls_to g.K.Storage c.show.new.keepers.items) in
    let takes = subst E is h.takes in
    let A : Option (List ℕ) → Type 0 = λ o. Tells o (sink.told c.write.new.self) (λ x y. y ≡ x ++ codes "none\n") in
    let T : Option ℕ → Type 0 = λ a. IsTextOf src a (codes "none\n") in (
      h.answer,
      (
        codes "none\n",
        (
          record { seen = h.seen; place = h.place; says = subst T (sym none.0) (λ i. codes "none\n"); takes = takes; wrote = c.write.ensures.calls ∙ ap (λ (n : ℕ). raised n 1) none.1 },
          subst A none.2 c.in-Ok.ensures.ok,
        ),
      ),
    )

pub returns-in_err-found-clause-leaves : goal.returns-in_err-found-clause-leaves
returns-in_err-found-clause-leaves g c =
    let p = err_from_is_err_and c.from_residual.result c.from_residual.ensures.1 in
    order_err g.K.Storage c.args.order.now c.show.result c.from_residual.result _ _ _ _ _ _ _ _ _ _ c.in_err-found.was p.1 p.2 c.show.ensures.leaves

pub returns-then-found-clause-leaves : goal.returns-then-found-clause-leaves
returns-then-found-clause-leaves g c = order_ok g.K.Storage c.args.order.now c.show.result _ tt _ _ _ _ _ _ _ _ c.in_ok-found.was c.show.ensures.leaves.leaves c.show.ensures.leaves.keepers

pub returns-in-Ok-clause-leaves : goal.returns-in-Ok-clause-leaves
returns-in-Ok-clause-leaves g c = order_ok g.K.Storage c.args.order.now c.show.result _ tt _ _ _ _ _ _ _ _ c.in_ok-found.was c.show.ensures.leaves.leaves c.show.ensures.leaves.keepers

pub returns-in-Err-clause-leaves : goal.returns-in-Err-clause-leaves
returns-in-Err-clause-leaves g c =
    let sink = g.O.Sink in
    let left = c.show.ensures.leaves in
    let src = source_of c.args.console.now (told_by g.K.Storage c.args.keepers.now.items) in
    let h = if_ok_at _ c.show.result c.in_ok-found.found c.in_ok-found.was c.show.ensures.shown in
    let none = shown_none src h.answer c.in_ok-found.found (sink.call_count c.args.out.now) (sink.call_count c.show.new.out) (sink.told c.args.out.now) (sink.told c.show.new.out) h.shown c.if-found.false in
    let is = found_is src h.answer c.in_ok-found.found c.args.console.now.place c.show.new.console.place (sink.call_count c.args.out.now) (sink.call_count c.show.new.out) (sink.told c.args.out.now) (sink.told c.show.new.out) h.shown h.place in
    let E : Option ℕ → Type 0 = λ a. Takes src.plan (effort_of src.plan c.args.console.now.place c.args.order.now a) c.args.steps.now c.show.new.steps (calls_to g.K.Storage c.args.keepers.now.items) (calls_to g.K.Storage c.show.new.keepers.items) in
    let A : Option (List ℕ) → Type 0 = λ o. Tells o (sink.told c.write.new.self) (AddsPrefix (codes "none\n")) in
    let T : Option ℕ → Type 0 = λ a. IsTextOf src a (codes "none\n") in
    record {
      missed = λ _. record {
        answer = h.answer;
        piece = codes "none\n";
        seen = h.seen;
        says = subst T (sym none.0) (λ i. codes "none\n");
        wrote = c.write.ensures.calls ∙ ap (λ (n : ℕ). raised n 1) none.1;
        part = subst A none.2 c.in-Err.ensures.refused;
        takes = subst E is h.takes;
      };
      unwritten = λ never. absurd (never refl);
      took_until = tt;
      leaves = record { goes_on = left.leaves.goes_on; lasts = tt; stays = h.place ∙ ap (place_after c.args.console.now.place) none.0 };
      spared = spared_missed g.K.Storage _ _;
      keepers = record { same = left.keepers.same; are = are_missed g.K.Storage _ _ _ (are_ok g.K.Storage _ c.show.result _ tt _ _ c.in_ok-found.was left.keepers.are) };
    }

pub returns-in_err-found-clause-faults : goal.returns-in_err-found-clause-faults
returns-in_err-found-clause-faults g c =
    let p = err_from_is_err_and c.from_residual.result c.from_residual.ensures.1 in
    faults_err g.O.Sink.fault_count c.show.result c.from_residual.result _ _ _ _ c.in_err-found.was p.1 p.2 c.show.ensures.faults

pub returns-then-found-clause-faults : goal.returns-then-found-clause-faults
returns-then-found-clause-faults g c = faults_ok g.O.Sink.fault_count c.show.result _ tt _ _ c.in_ok-found.was c.show.ensures.faults

pub returns-in-Ok-clause-faults : goal.returns-in-Ok-clause-faults
returns-in-Ok-clause-faults g c =
    let before = c.show.ensures.faults.quiet (λ e. both_ways c.show.result Visitor c.in_ok-found.was e) in
    record { cause = λ e. absurd cc; quiet = λ ne. c.in-Ok.ensures.quiet ∙ before; later = (let later = c.write.ensures.later in omega (arith, before, later)) }

pub returns-in-Err-clause-faults : goal.returns-in-Err-clause-faults
returns-in-Err-clause-faults g c =
    let before = c.show.ensures.faults.quiet (λ e. both_ways c.show.result Visitor c.in_ok-found.was e) in
    let rose = c.in-Err.ensures.cause in
    let later = c.write.ensures.later in
    record { cause = λ e. omega (arith, rose, before); quiet = λ ne. absurd (ne refl); later = omega (arith, before, later) }
