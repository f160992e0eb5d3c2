use Rattle.std.proofs.Common.{[]}
use Rattle.std.proofs.lemmas.Result.{err_from_is_err_and}
use Rattle.cert_text.proofs.reading.threshold.Goals as goal

pub returns-in_err-threshold : goal.returns-in_err-threshold
returns-in_err-threshold c =
    let p = err_from_is_err_and c.from_residual.result c.from_residual.ensures.1 in
    rw (p.1, p.2) (c.in_err-threshold.ensures [])
