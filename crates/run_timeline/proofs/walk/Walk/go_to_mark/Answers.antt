use Rattle.std.proofs.Common.{◌≡◌, ℕ, ◌+◌, ◌-◌, ◌*◌, ◌≤◌, ◌<◌, max, length, ap, subst, arith}
use Rattle.rv_machine.specs.States.{state_number}
use Rattle.run_timeline.specs.RunMarks.{next_mark}
use Rattle.run_timeline.specs.WalkState.{WalkState}
use Rattle.run_timeline.proofs.RunMarks.{few_between}
use Rattle.run_timeline.proofs.Walks.{can_give, given}
use Rattle.run_timeline.proofs.walk.Walk.go_to_mark.Goals as goal

pub give-requires : goal.give-requires
give-requires c =
    let w = c.self.inside in
    can_give w c.last_to-at.result.0.now c.last_to-at.result.1 c.self.invariant c.is_machine_state.ensures c.is_recorded.ensures (c.last_to-at.ensures.mark (state_number w.first w.journal) c.self.invariant.marks)

pub invariant_of-self : goal.invariant_of-self
invariant_of-self c =
    let w = c.self.inside in
    let mark = c.last_to-at.ensures.mark (state_number w.first w.journal) c.self.invariant.marks in
    given w c.last_to-at.result.0.now c.last_to-at.result.1 c.give.new.state c.self.invariant c.is_machine_state.ensures c.is_recorded.ensures mark (omega (arith, c.last_to-at.ensures.last, c.self.invariant.spans.last)) c.give.ensures

pub returns-clause-few : goal.returns-clause-few
returns-clause-few c =
    let w = c.self.inside in
    let at : ℕ = c.last_to-at.result.1 in
    let n : ℕ = c.args.place - at in
    let reached : w.reached ≡ c.args.self.now.reached = ap (λ (x : WalkState). x.reached) c.self.view_is in
    let before : w.reached < next_mark w.marks = c.self.invariant.spans.before in
    let near : n < w.marks.distance = c.last_to-at.ensures.near (omega (arith, before, reached, c.requires)) in
    let behind : at ≤ c.args.place = c.last_to-at.ensures.at_most in
    subst (λ (x : WalkState). (k : ℕ) × ((c.args.place ≡ at + k) × ((k + 1) * x.room ≤ max x.room (2 * x.reached)))) c.self.view_is
    (n, (omega (arith, behind), few_between (n + 1) w.marks.distance (length w.marks.marks.items) w.reached (omega (arith, near)) c.self.invariant.spans.near))
