use Rattle.std.proofs.Common.{◌≤◌, ℕ, subst}
use Rattle.std.specs.Prelude.{MatchOption, Some}
use Rattle.run_timeline.specs.Moves.{CameBackward, EndsBackward}
use Rattle.run_timeline.specs.TimelineState.{TimelineState}
use Rattle.run_timeline.proofs.MoveEnds.{found_near, goes_back, place_before}
use Rattle.run_timeline.proofs.timeline.Timeline.look_back.Goals as goal

pub returns-clause-near : goal.returns-clause-near
returns-clause-near g c =
    let w = c.self.inside.walk in
    let look = c.look_before in
    let few = look.ensures.few in
    found_near w.run c.args.stops.now look.result.0 c.args.end few.0 look.result.1 few.1.0 (look.ensures.last few.0 few.1.0)

pub returns-clause-ends : goal.returns-clause-ends
returns-clause-ends g c =
    let w = c.self.inside.walk in
    let st = c.args.stops.now in
    let look = c.look_before in
    let few = look.ensures.few in
    subst (λ (x : TimelineState). (p : ℕ) → p ≤ x.reached → CameBackward x.run st p c.args.end → MatchOption look.result.1 (CameBackward x.run st p look.result.0) (λ found. EndsBackward x.run st p found.0 (Some found.1)))
    c.self.view_is
    (λ p reached came. goes_back w.run st p look.result.0 c.args.end few.0 look.result.1 (place_before w.run p w.reached reached c.are_places.ensures.places) few.1.0 (look.ensures.last few.0 few.1.0) came)
