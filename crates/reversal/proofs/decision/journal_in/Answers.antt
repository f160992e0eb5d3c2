use Rattle.input_journal.specs.RecordedInput.{text_of}
use Rattle.reversal.proofs.DecisionLaws.{on_error}
use Rattle.reversal.proofs.Refusals.{journal_refused}
use Rattle.reversal.proofs.decision.journal_in.Goals as goal

pub returns-in_err-read_recorded-clause-refused : goal.returns-in_err-read_recorded-clause-refused
returns-in_err-read_recorded-clause-refused c =
    on_error c.from_residual.result _ _ c.from_residual.ensures.1 (λ e gives. journal_refused (text_of c.args.bytes) c.in_err-read_recorded.field-0.0 e c.in_err-read_recorded.ensures.refused gives)
