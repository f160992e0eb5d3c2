use Rattle.std.proofs.Common.{◌≡◌, ℕ, ◌+◌, ◌-◌, ◌≤◌, ◌<◌, length, refl, subst, arith}
use Rattle.rv_machine.specs.MachineState.{MachineState}
use Rattle.run_timeline.specs.Moves.{state}
use Rattle.run_timeline.specs.WalkState.{WalkState, IsFew}
use Rattle.std.proofs.lemmas.Bool.{ltb-true}
use Rattle.rv_machine.specs.Watchers.{Ends, GoesOn}
use Rattle.run_timeline.specs.StepObservations.{is_hit}
use Rattle.run_timeline.proofs.RunMarks.{few_between}
use Rattle.run_timeline.proofs.Walks.{room_for, steps_from, arrived, goes_on_there}
use Rattle.run_timeline.proofs.walk.Walk.look_towards.Goals as goal

pub pass-requires-clause-pages : goal.pass-requires-clause-pages
pass-requires-clause-pages g c = room_for c.self.inside c.look_forward-taken.result c.look_forward-taken.new.work c.self.invariant c.look_forward-taken.ensures.state

pub invariant_of-self : goal.invariant_of-self
invariant_of-self g c =
    let w = c.self.inside in
    let taken = c.look_forward-taken.result in
    arrived w c.pass.new.self c.look_forward-taken.new.work taken c.max-self-inside.result c.self.invariant c.look_forward-taken.ensures.state (λ k l. (c.look_forward-taken.ensures.before k l).0)
    (omega (arith, c.self.invariant.known, c.self.invariant.within, c.look_forward-taken.ensures.within, c.end_after-end.ensures)) c.max-self-inside.ensures c.pass.ensures.marks c.pass.ensures.spans

pub returns-clause-before : goal.returns-clause-before
returns-clause-before g c =
    let w = c.self.inside in
    subst (λ (x : WalkState). (k : ℕ) → x.place ≤ k → k < w.place + c.look_forward-taken.result → GoesOn (is_hit c.args.stops.now) x.run.journal (state x.run k)) c.self.view_is
    (λ k low high. goes_on_there c.args.stops.now w c.look_forward-taken.result k c.self.invariant c.look_forward-taken.ensures.before low high)

pub returns-clause-ends : goal.returns-clause-ends
returns-clause-ends g c less =
    let w = c.self.inside in
    let went = steps_from w c.look_forward-taken.result c.look_forward-taken.new.work c.self.invariant c.look_forward-taken.ensures.state in
    subst (λ (x : WalkState). Ends (is_hit c.args.stops.now) x.run.journal (state x.run (w.place + c.look_forward-taken.result))) c.self.view_is
    (subst (λ (s : MachineState). Ends (is_hit c.args.stops.now) w.journal s) went (c.look_forward-taken.ensures.end (ltb-true c.look_forward-taken.result (c.end_after-end.result - w.place) less)))

pub returns-clause-few : goal.returns-clause-few
returns-clause-few g c =
    let w = c.self.inside in
    let n : ℕ = c.look_forward-taken.result in
    subst (λ (x : WalkState). (k : ℕ) × ((w.place + n ≡ x.place + k) × IsFew x k)) c.self.view_is
    (n, (refl, few_between n w.marks.distance (length w.marks.marks.items) w.reached (omega (arith, c.look_forward-taken.ensures.within, c.end_after-end.ensures.near, c.end_after-end.ensures.further)) c.self.invariant.spans.near))
