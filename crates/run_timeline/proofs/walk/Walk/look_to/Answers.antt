use Rattle.std.proofs.Common.{◌≡◌, ◌+◌, ◌-◌, ap, subst, arith}
use Rattle.run_timeline.specs.Moves.{state}
use Rattle.run_timeline.specs.WalkState.{WalkState}
use Rattle.run_timeline.specs.StepObservations.{seen, IsLastSeen}
use Rattle.run_timeline.proofs.Walks.{went_on, last_there}
use Rattle.run_timeline.proofs.walk.Walk.look_to.Goals as goal

pub invariant_of-self : goal.invariant_of-self
invariant_of-self g c =
    let here = ap (λ (x : WalkState). x.place) c.self.view_is in
    let reached = ap (λ (x : WalkState). x.reached) c.self.view_is in
    went_on c.self.inside c.look_back-last.new.work c.args.end c.self.invariant (omega (arith, here, c.requires.behind)) (omega (arith, reached, c.requires.known)) c.look_back-last.ensures.state

pub returns-clause-last : goal.returns-clause-last
returns-clause-last g c n is =
    let w = c.self.inside in
    let here : w.place ≡ c.args.self.now.place = ap (λ (x : WalkState). x.place) c.self.view_is in
    subst (λ (x : WalkState). IsLastSeen (λ k. seen c.args.stops.now x.run.journal (x.place + k) (state x.run (x.place + k))) n c.look_back-last.result) c.self.view_is
    (last_there c.args.stops.now w n (c.args.end - w.place) c.look_back-last.result c.self.invariant (omega (arith, here, is)) c.look_back-last.ensures.last)
