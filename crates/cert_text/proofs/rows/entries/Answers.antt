use Rattle.std.proofs.Common.{arith, length}
use Rattle.std.proofs.lemmas.Result.{err_from_is_err_and}
use Rattle.cert_text.proofs.ReaderSteps.{entry_wrong, entries_end}
use Rattle.cert_text.proofs.rows.entries.Goals as goal

pub returns-in_err-row : goal.returns-in_err-row
returns-in_err-row c =
    let p = err_from_is_err_and c.from_residual.result c.from_residual.ensures.1 in
    rw (p.1, p.2) (entry_wrong c.loop-i.i (length c.args.row.now) c.args.words.now c.loop-i.words _ _ (omega arith) c.loop-i.invariant.goes c.in_err-row.ensures)

pub returns : goal.returns
returns c = entries_end c.finish.result c.loop-i.i c.loop-i.row (length c.args.row.now) c.args.words.now c.loop-i.words (omega arith) (omega arith) c.loop-i.invariant c.finish.ensures
