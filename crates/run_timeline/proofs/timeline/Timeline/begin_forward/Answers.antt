use Rattle.std.proofs.Common.{subst}
use Rattle.run_timeline.specs.Moves.{EndsForward, CameForward}
use Rattle.run_timeline.specs.MoveParts.{MatchPart}
use Rattle.run_timeline.specs.TimelineState.{TimelineState}
use Rattle.run_timeline.proofs.timeline.Timeline.begin_forward.Goals as goal

pub returns-clause-ends : goal.returns-clause-ends
returns-clause-ends g c =
    let st = c.args.stops.now in
    let end = c.begin_forward.new.self.place in
    subst (λ (x : TimelineState). MatchPart c.begin_forward.result (EndsForward x.run st x.place end) (CameForward x.run st x.place end)) c.self.view_is c.begin_forward.ensures.ends
