use Rattle.std.proofs.Common.{arith, length}
use Rattle.std.proofs.lemmas.Result.{err_from_is_err_and}
use Rattle.cert_text.proofs.ReadRows.{level_done, level_wrong, level_wrong_later, no_level, level_more, levels_wrong}
use Rattle.cert_text.proofs.nested.read_levels.Goals as goal

pub loop-k-init : goal.loop-k-init
loop-k-init c = no_level c.args.tables.now c.args.reader.now

pub loop-k-preserved : goal.loop-k-preserved
loop-k-preserved c =
    let s = c.loop-k.tables in let t = c.read_rows.new.tables in let u = c.read_rows-in-loop-k.new.tables in
    let x = c.loop-k.reader in let y = c.read_rows.new.reader in let z = c.read_rows-in-loop-k.new.reader in
    let first = c.in_ok-read_rows.ensures in let second = c.in_ok-read_rows-2.ensures in
    let done = level_done c.loop-k.k s t u x y z first.0 first.1 first.2 second.0 second.1 second.2 in
    level_more c.loop-k.k c.args.tables.now s u c.args.reader.now x z c.loop-k.invariant done.0 done.1 done.2

pub returns-in_err-read_rows : goal.returns-in_err-read_rows
returns-in_err-read_rows c =
    let p = err_from_is_err_and c.from_residual.result c.from_residual.ensures.1 in
    rw (p.1, p.2) (levels_wrong c.loop-k.k (length c.args.tables.now.rooms) c.args.tables.now c.loop-k.tables c.args.reader.now c.loop-k.reader c.in_err-read_rows.field-0.0 (omega arith) c.loop-k.invariant
    (level_wrong c.loop-k.k c.loop-k.tables c.loop-k.reader c.in_err-read_rows.field-0.0 c.in_err-read_rows.ensures))

pub returns-in_err-read_rows-2 : goal.returns-in_err-read_rows-2
returns-in_err-read_rows-2 c =
    let p = err_from_is_err_and c.from_residual-in_err-read_rows-2.result c.from_residual-in_err-read_rows-2.ensures.1 in
    rw (p.1, p.2) (levels_wrong c.loop-k.k (length c.args.tables.now.rooms) c.args.tables.now c.loop-k.tables c.args.reader.now c.loop-k.reader c.in_err-read_rows-2.field-0.0 (omega arith) c.loop-k.invariant
    (level_wrong_later c.loop-k.k c.loop-k.tables c.read_rows.new.tables c.loop-k.reader c.read_rows.new.reader c.in_err-read_rows-2.field-0.0 c.in_ok-read_rows.ensures.0 c.in_ok-read_rows.ensures.2 c.in_err-read_rows-2.ensures))
