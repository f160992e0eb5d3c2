use Rattle.std.proofs.Common.{◌<◌, subst, ℕ}
use Rattle.run_timeline.specs.Moves.{EndsForward, CameForward}
use Rattle.run_timeline.specs.MoveParts.{MatchPart}
use Rattle.run_timeline.specs.TimelineState.{TimelineState}
use Rattle.run_timeline.proofs.timeline.Timeline.look_forward.Goals as goal

pub returns-clause-ends : goal.returns-clause-ends
returns-clause-ends g c =
    let st = c.args.stops.now in
    let end = c.look_forward.new.self.place in
    subst (λ (x : TimelineState). (p : ℕ) → p < x.place → CameForward x.run st p x.place → MatchPart c.look_forward.result (EndsForward x.run st p end) (CameForward x.run st p end))
    c.self.view_is c.look_forward.ensures.ends
