use Rattle.std.proofs.Common.{◌≡◌, ◌≤◌, ◌*◌, ℕ, refl, sym, subst, List, length, None, arith}
use Rattle.plan_types.specs.declared.action.Action.{Action}
use Rattle.level_book.specs.BookCosts.{slots_of}
use Rattle.revolve_gen.specs.RevolveList.{revolve_list}
use Rattle.endings.specs.declared.outcome.Outcome.{Outcome}
use Rattle.reversal.specs.Job.{perform}
use Rattle.endings.specs.Outcomes.{bad_book}
use Rattle.requests.specs.Request.{says_raw, stack_pages, unit_count}
use Rattle.reversal.specs.Table.{Keep, refuse, accept}
use Rattle.reversal.specs.InputMeaning.{HasBookFault, DecidesOver, in_units, IsStartOf, AreItemsOf}
use Rattle.reversal.specs.JobModel.{IsRefusal, IsUnbegun, text_of}
use Rattle.level_book.specs.Valid.{Valid}
use Rattle.level_book.specs.BookFaults.{IsBookText}
use Rattle.requests.specs.InputOutcome.{contents_of}
use Rattle.reversal.proofs.RevolvePlan.{plan_valid, plan_few}
use Rattle.reversal.proofs.DecisionLaws.{IsUnplanned, plan_refuses, over_by_book, over_by_keepers, over_behind_keepers, over_by_beginning, over_accepted}
use Rattle.reversal.proofs.Decisions.{by_error}
use Rattle.reversal.proofs.planning.decide_made.Goals as goal

pub returns-in_err-book-clause-decided : goal.returns-in_err-book-clause-decided
returns-in_err-book-clause-decided c =
    let texts = contents_of c.args.loaded.now in
    by_error _ _ c.from_residual.result _ c.from_residual.ensures.1 (λ e gives.
    let same : c.in_err-book.field-0.0 ≡ e = cc in
    let P : Outcome → Type 0 = λ x. IsRefusal (HasBookFault texts.book) bad_book x in
    over_by_book perform c.args.options.now c.args.steps texts.program texts.journal texts.book None c.args.counts.now e (subst P same (subst (λ (t : List ℕ). IsRefusal (HasBookFault t) bad_book c.in_err-book.field-0.0) c.deref.ensures.value c.in_err-book.ensures.refused)))

pub returns-in_err-keep-clause-decided : goal.returns-in_err-keep-clause-decided
returns-in_err-keep-clause-decided c =
    let texts = contents_of c.args.loaded.now in
    by_error _ _ c.from_residual-in_err-keep.result _ c.from_residual-in_err-keep.ensures.1 (λ e gives.
    let same : c.in_err-keep.field-0.0 ≡ e = cc in
    let P : Outcome → Type 0 = λ x. Keep c.args.steps (slots_of c.in_ok-book.book) c.args.counts.now (refuse x) ⊥ in
    over_by_keepers perform c.args.options.now c.args.steps texts.program texts.journal texts.book None c.args.counts.now e c.in_ok-book.book (subst (λ (t : List ℕ). IsBookText t c.in_ok-book.book) c.deref.ensures.value c.in_ok-book.ensures.found) (subst P same c.in_err-keep.ensures.refused))

pub returns-in_err-revolve-clause-decided : goal.returns-in_err-revolve-clause-decided
returns-in_err-revolve-clause-decided c =
    let texts = contents_of c.args.loaded.now in
    by_error _ _ c.from_residual-in_err-revolve.result _ c.from_residual-in_err-revolve.ensures.1 (λ e gives.
    let same : c.in_err-revolve.field-0.0 ≡ e = cc in
    let P : Outcome → Type 0 = λ x. IsUnplanned c.args.steps c.in_ok-book.book x in
    over_behind_keepers perform c.args.options.now c.args.steps texts.program texts.journal texts.book None c.args.counts.now e c.in_ok-book.book (subst (λ (t : List ℕ). IsBookText t c.in_ok-book.book) c.deref.ensures.value c.in_ok-book.ensures.found) c.in_ok-keep.ensures.room (plan_refuses c.args.steps c.in_ok-book.book e _ (subst P same c.in_err-revolve.ensures.refused)))

pub returns-in_err-start-clause-decided : goal.returns-in_err-start-clause-decided
returns-in_err-start-clause-decided c =
    let texts = contents_of c.args.loaded.now in
    by_error _ _ c.from_residual-in_err-start.result _ c.from_residual-in_err-start.ensures.1 (λ e gives.
    let same : c.in_err-start.field-0.0 ≡ e = cc in
    let P : Outcome → Type 0 = λ x. IsUnbegun c.args.options.now c.deref-2.result.now (text_of c.take.result) x in
    over_by_beginning perform c.args.options.now c.args.steps texts.program texts.journal texts.book None c.args.counts.now e c.in_ok-book.book (subst (λ (t : List ℕ). IsBookText t c.in_ok-book.book) c.deref.ensures.value c.in_ok-book.ensures.found) c.in_ok-keep.ensures.room c.in_ok-revolve.ensures.plan (subst (λ (t : List ℕ). IsUnbegun c.args.options.now t texts.journal e) c.deref-2.ensures.value (subst (λ t. IsUnbegun c.args.options.now c.deref-2.result.now (text_of t) e) c.take.ensures.value (subst P same c.in_err-start.ensures.refused))))

pub returns-clause-decided : goal.returns-clause-decided
returns-clause-decided c =
    let texts = contents_of c.args.loaded.now in
    let o = c.args.options.now in
    let D : ℕ → List Action → Type 0 = λ unit l. DecidesOver perform o c.args.steps texts.program texts.journal texts.book None c.args.counts.now
    (accept (perform (in_units unit c.in_ok-start.start c.in_ok-start.journal c.args.steps (slots_of c.in_ok-book.book) l))) in
    let b = c.in_ok-book.book in
    let F : List Action → Type 0 = λ l. length l ≤ 16777216 in
    let V : List Action → Type 0 = λ l. Valid c.args.steps (slots_of b) l in
    let same = c.unit_of.ensures in
    let I : ℕ → Type 0 = λ unit. unit * c.args.steps ≤ 1000000 in
    record {
      accepted = subst (λ unit. D unit c.in_ok-revolve.revolve) (sym c.unit_of.ensures) (subst (D (unit_count o)) (sym c.in_ok-revolve.ensures.list)
          (over_accepted perform o c.args.steps texts.program texts.journal texts.book None c.args.counts.now c.in_ok-book.book c.in_ok-start.start c.in_ok-start.journal (revolve_list c.args.steps c.in_ok-book.book)
          (subst (λ (t : List ℕ). IsBookText t c.in_ok-book.book) c.deref.ensures.value c.in_ok-book.ensures.found) c.in_ok-keep.ensures.room c.in_ok-revolve.ensures.plan (subst (λ (t : List ℕ). IsStartOf (says_raw c.args.options.now) (stack_pages c.args.options.now) t c.in_ok-start.start) c.deref-2.ensures.value c.in_ok-start.ensures.start) (subst (λ t. AreItemsOf (text_of t) c.in_ok-start.journal) c.take.ensures.value c.in_ok-start.ensures.items) refl));
      can_be_done = record {
        steps = c.requires.run.steps;
        unit = (omega (arith, same, c.requires.run.unit.0), omega (arith, same, c.requires.run.unit.1));
        instructions = subst I (sym same) c.requires.run.instructions;
        few = subst F (sym c.in_ok-revolve.ensures.list) (plan_few c.args.steps b c.requires.run.steps c.in_ok-revolve.ensures.plan);
        valid = subst V (sym c.in_ok-revolve.ensures.list) (plan_valid c.args.steps b c.in_ok-revolve.ensures.plan);
      };
      room = c.in_ok-keep.ensures.room;
      refused = tt;
    }
