use Rattle.std.proofs.Common.{◌≡◌, ℕ, ◌+◌, ◌-◌, ◌≤◌, ◌<◌, length, ap, subst, arith}
use Rattle.run_timeline.specs.RunMarks.{next_mark}
use Rattle.run_timeline.specs.WalkState.{WalkState, IsFew}
use Rattle.std.proofs.lemmas.Bool.{leb-true}
use Rattle.run_timeline.proofs.RunMarks.{few_between}
use Rattle.run_timeline.proofs.walk.Walk.is_near.Goals as goal

pub returns-clause-few : goal.returns-clause-few
returns-clause-few c near =
    let w = c.self.inside in
    let at : ℕ = c.last_to.result.1 in
    let n : ℕ = c.args.place - w.place in
    let reached : w.reached ≡ c.args.self.now.reached = ap (λ (x : WalkState). x.reached) c.self.view_is in
    let before : w.reached < next_mark w.marks = c.self.invariant.spans.before in
    let close : c.args.place - at < w.marks.distance = c.last_to.ensures.near (omega (arith, before, reached, c.requires)) in
    let less : at ≤ w.place = leb-true at w.place near in
    let order : w.place ≤ c.args.place = omega arith in
    subst (λ (x : WalkState). (k : ℕ) × ((c.args.place ≡ x.place + k) × IsFew x k)) c.self.view_is
    (n, (omega (arith, order), few_between n w.marks.distance (length w.marks.marks.items) w.reached (omega (arith, close, less)) c.self.invariant.spans.near))
