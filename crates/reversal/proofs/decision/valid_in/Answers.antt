use Rattle.std.proofs.Common.{◌≡◌, List, subst}
use Rattle.plan_types.specs.declared.action.Action.{Action}
use Rattle.level_book.specs.BookCosts.{slots_of, names_of}
use Rattle.level_book.specs.Valid.{Valid}
use Rattle.action_text.specs.Faults.{HasFirstFault}
use Rattle.endings.specs.declared.outcome.Outcome.{Outcome}
use Rattle.endings.specs.Outcomes.{bad_book, bad_text}
use Rattle.reversal.specs.InputMeaning.{HasBookFault}
use Rattle.reversal.specs.JobModel.{IsRefusal, IsUnjudged}
use Rattle.reversal.proofs.DecisionLaws.{IsBroken, on_error, unjudged_by_book, unjudged_by_text, unjudged_by_rules}
use Rattle.reversal.proofs.decision.valid_in.Goals as goal

pub returns-in_err-book-clause-refused : goal.returns-in_err-book-clause-refused
returns-in_err-book-clause-refused c =
    on_error c.from_residual.result _ (IsUnjudged c.args.steps c.args.book.now c.args.schedule.now) c.from_residual.ensures.1 (λ e gives.
    let same : c.in_err-book.field-0.0 ≡ e = cc in
    let P : Outcome → Type 0 = λ x. IsRefusal (HasBookFault c.args.book.now) bad_book x in
    unjudged_by_book c.args.steps c.args.book.now c.args.schedule.now e (subst P same c.in_err-book.ensures.refused))

pub returns-in_err-list-clause-refused : goal.returns-in_err-list-clause-refused
returns-in_err-list-clause-refused c =
    on_error c.from_residual-in_err-list.result _ (IsUnjudged c.args.steps c.args.book.now c.args.schedule.now) c.from_residual-in_err-list.ensures.1 (λ e gives.
    let same : c.in_err-list.field-0.0 ≡ e = cc in
    let P : Outcome → Type 0 = λ x. IsRefusal (HasFirstFault (names_of c.in_ok-book.book) c.args.schedule.now) bad_text x in
    unjudged_by_text c.args.steps c.args.book.now c.args.schedule.now e c.in_ok-book.book c.in_ok-book.ensures.found (subst P same c.in_err-list.ensures.refused))

pub returns-in_err-judge-clause-refused : goal.returns-in_err-judge-clause-refused
returns-in_err-judge-clause-refused c =
    on_error c.from_residual-in_err-judge.result _ (IsUnjudged c.args.steps c.args.book.now c.args.schedule.now) c.from_residual-in_err-judge.ensures.1 (λ e gives.
    let same : c.in_err-judge.field-0.0 ≡ e = cc in
    let slots = slots_of c.in_ok-book.book in
    let L : List Action → Type 0 = λ l. IsBroken c.args.steps slots l c.in_err-judge.field-0.0 in
    let P : Outcome → Type 0 = λ x. IsBroken c.args.steps slots c.in_ok-list.list.items x in
    unjudged_by_rules c.args.steps c.args.book.now c.args.schedule.now e c.in_ok-book.book c.in_ok-list.list.items c.in_ok-book.ensures.found c.in_ok-list.ensures.found
    (subst P same (subst L c.deref.ensures.value c.in_err-judge.ensures.broken)))

pub returns-clause-valid : goal.returns-clause-valid
returns-clause-valid c =
    let L : List Action → Type 0 = λ l. Valid c.args.steps (slots_of c.in_ok-book.book) l in
    subst L c.deref.ensures.value c.in_ok-judge.ensures.valid
