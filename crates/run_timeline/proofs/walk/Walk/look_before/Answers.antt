use Rattle.std.proofs.Common.{◌≡◌, ℕ, ◌+◌, sym, ap, subst, arith}
use Rattle.run_timeline.specs.Moves.{Run, state}
use Rattle.run_timeline.specs.WalkState.{WalkState}
use Rattle.run_timeline.specs.StepObservations.{seen, IsLastSeen}
use Rattle.run_timeline.proofs.walk.Walk.look_before.Goals as goal

pub returns-clause-last : goal.returns-clause-last
returns-clause-last g c n is =
    let there = c.go_to_mark.new.self in
    let st = c.args.stops.now in
    let from = c.place-from.result in
    let at : from ≡ there.place = c.place-from.ensures.value in
    subst (λ (r : Run). IsLastSeen (λ k. seen st r.journal (from + k) (state r (from + k))) n c.look_to.result) (ap (λ (x : WalkState). x.run) c.go_to_mark.ensures.stays)
    (subst (λ (p : ℕ). IsLastSeen (λ k. seen st there.run.journal (p + k) (state there.run (p + k))) n c.look_to.result) (sym at) (c.look_to.ensures.last n (omega (arith, at, is))))
