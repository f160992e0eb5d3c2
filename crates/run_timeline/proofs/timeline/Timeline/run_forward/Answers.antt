use Rattle.std.proofs.Common.{subst}
use Rattle.run_timeline.specs.Moves.{EndsForward}
use Rattle.run_timeline.specs.TimelineState.{TimelineState}
use Rattle.run_timeline.proofs.timeline.Timeline.run_forward.Goals as goal

pub returns-clause-ends : goal.returns-clause-ends
returns-clause-ends g c = subst (λ (x : TimelineState). EndsForward x.run c.args.stops.now x.place c.run_forward.new.self.place c.run_forward.result) c.self.view_is c.run_forward.ensures.ends
