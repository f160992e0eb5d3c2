use Rattle.std.proofs.Common.{Ok, None}
use Rattle.segment_sweep.proofs.SegmentCovers.{covers_next, segment_of}
use Rattle.segment_sweep.proofs.search.last_place.Goals as goal

pub loop-answer-preserved : goal.loop-answer-preserved
loop-answer-preserved g c =
    let q = g.K.Sought.query in
    let i = c.loop-answer.answer-index in
    covers_next q c.args.width i c.loop-answer.last c.in-Ok.place c.later-last.result c.loop-answer.invariant
    (segment_of q c.args.width i _ c.in-Ok.place c.in-Ok.is (c.requires.each i (Ok None) c.loop-answer-test.true)) (c.later-last.ensures q)
