use Rattle.std.proofs.Common.{length, arith}
use Rattle.std.specs.List.{range_with_len, flat_map}
use Rattle.keepers.specs.LineWrites.{seen, StopsIn}
use Rattle.keepers.proofs.LineSequences.{err_always, none_added}
use Rattle.cert_text.specs.WordLines.{level_lines}
use Rattle.cert_text.specs.LineWrites.{writes}
use Rattle.cert_text.proofs.RowWrites.{levels_more, levels_stopped}
use Rattle.cert_text.proofs.printing_rows.print_levels.Goals as goal

pub loop-k-init : goal.loop-k-init
loop-k-init g c = none_added (seen g.O.Sink c.args.out.now)

pub loop-k-preserved : goal.loop-k-preserved
loop-k-preserved g c =
    let look = seen g.O.Sink in
    levels_more c.args.tables.now c.loop-k.k (look c.args.out.now) (look c.loop-k.out) (look c.print_level.new.out) c.loop-k.invariant c.in_ok-print_level.ensures.ok

pub returns-in_err-print_level-clause-stopped : goal.returns-in_err-print_level-clause-stopped
returns-in_err-print_level-clause-stopped g c =
    let look = seen g.O.Sink in
    let t = c.args.tables.now in
    let a = look c.args.out.now in let b = look c.loop-k.out in let d = look c.print_level.new.out in
    err_always c.from_residual.result (StopsIn (writes (flat_map (level_lines t) (range_with_len 0 (length t.rooms)))) a d)
    (levels_stopped t c.loop-k.k (length t.rooms) a b d (omega arith) c.loop-k.invariant c.in_err-print_level.ensures.stopped)
