use Rattle.std.proofs.Common.{sym, subst}
use Rattle.std.proofs.lemmas.Result.{err_from_is_err_and}
use Rattle.input_journal.specs.Faults.{FirstFault}
use Rattle.input_journal.proofs.reading.read_journal.Goals as goal

pub returns-in_err-parts-clause-refused : goal.returns-in_err-parts-clause-refused
returns-in_err-parts-clause-refused c =
    let p = err_from_is_err_and c.from_residual.result c.from_residual.ensures.1 in
    rw (p.1, p.2) (λ ne. subst (λ bs. FirstFault bs c.in_err-parts.field-0.0) c.as_slice.ensures.value (c.in_err-parts.ensures.refused ne))

pub returns-in_err-parts-clause-first : goal.returns-in_err-parts-clause-first
returns-in_err-parts-clause-first c fault is =
    let p = err_from_is_err_and c.from_residual.result c.from_residual.ensures.1 in
    rw (p.1, p.2) (c.in_err-parts.ensures.first fault (subst (λ bs. FirstFault bs fault) (sym c.as_slice.ensures.value) is))

pub returns-clause-first : goal.returns-clause-first
returns-clause-first c fault is = c.in_ok-parts.ensures.first fault (subst (λ bs. FirstFault bs fault) (sym c.as_slice.ensures.value) is)
