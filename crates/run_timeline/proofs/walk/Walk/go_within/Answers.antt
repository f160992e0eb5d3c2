use Rattle.std.proofs.Common.{ap, arith}
use Rattle.run_timeline.specs.WalkState.{WalkState}
use Rattle.run_timeline.proofs.Walks.{went_on}
use Rattle.run_timeline.proofs.walk.Walk.go_within.Goals as goal

pub invariant_of-self : goal.invariant_of-self
invariant_of-self g c =
    let here = ap (λ (x : WalkState). x.place) c.self.view_is in
    let reached = ap (λ (x : WalkState). x.reached) c.self.view_is in
    went_on c.self.inside c.advance.new.state c.args.place c.self.invariant (omega (arith, here, c.requires.behind)) (omega (arith, reached, c.requires.known)) c.advance.ensures.states
