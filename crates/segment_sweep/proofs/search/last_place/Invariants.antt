use Rattle.std.proofs.Common.{◌+◌, ◌*◌, min}
use Rattle.segment_sweep.specs.SegmentResults.{Covers}
use Rattle.segment_sweep.proofs.search.last_place.Given as goal

abbrev pub invariant-loop-answer : goal.invariant-loop-answer
invariant-loop-answer g l =
    let query = g.K.Sought.query in
    Covers query 0 (min (l.answer-index * l.width) (query.count + 1)) l.last
