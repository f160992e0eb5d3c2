use Rattle.std.proofs.Common.{◌≡◌, subst}
use Rattle.endings.specs.declared.outcome.Outcome.{Outcome}
use Rattle.endings.specs.Outcomes.{bad_program, bad_journal}
use Rattle.requests.specs.Request.{says_raw, stack_pages}
use Rattle.reversal.specs.InputMeaning.{HasProgramFault, HasJournalFault}
use Rattle.reversal.specs.JobModel.{IsRefusal, IsUnbegun, text_of}
use Rattle.reversal.proofs.DecisionLaws.{on_error, unbegun_by_program, unbegun_by_journal}
use Rattle.reversal.proofs.decision.beginning_of.Goals as goal

pub returns-in_err-start-clause-refused : goal.returns-in_err-start-clause-refused
returns-in_err-start-clause-refused c =
    let o = c.args.options.now in
    on_error c.from_residual.result _ (IsUnbegun o c.args.program.now (text_of c.args.journal)) c.from_residual.ensures.1 (λ e gives.
    let same : c.in_err-start.field-0.0 ≡ e = cc in
    let P : Outcome → Type 0 = λ x. IsRefusal (HasProgramFault (says_raw o) (stack_pages o) c.args.program.now) bad_program x in
    unbegun_by_program o c.args.program.now (text_of c.args.journal) e (subst P same c.in_err-start.ensures.refused))

pub returns-in_err-journal-clause-refused : goal.returns-in_err-journal-clause-refused
returns-in_err-journal-clause-refused c =
    let o = c.args.options.now in
    on_error c.from_residual-in_err-journal.result _ (IsUnbegun o c.args.program.now (text_of c.args.journal)) c.from_residual-in_err-journal.ensures.1 (λ e gives.
    let same : c.in_err-journal.field-0.0 ≡ e = cc in
    let P : Outcome → Type 0 = λ x. IsRefusal (HasJournalFault (text_of c.args.journal)) bad_journal x in
    unbegun_by_journal o c.args.program.now (text_of c.args.journal) e c.in_ok-start.start c.in_ok-start.ensures.found (subst P same c.in_err-journal.ensures.refused))
