use Rattle.std.proofs.Common.{arith}
use Rattle.segment_sweep.proofs.MarkExtension.{no_more}
use Rattle.segment_sweep.proofs.worker.worker.Goals as goal

pub overflow_cast-from : goal.overflow_cast-from
overflow_cast-from g c =
    let query = c.requires.query in
    let stand = query.stand in
    let below = no_more c.args.segment c.args.marks.now.width c.args.marks.now.count stand.wide (stand.within c.args.segment c.requires.segment) in
    record { fits = omega (arith, below, query.same_count, query.few) }
