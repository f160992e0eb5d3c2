use Rattle.std.proofs.Common.{◌≡◌, ℕ, ◌+◌, ◌-◌, ◌*◌, ap, arith}
use Rattle.run_timeline.proofs.marks.Marks.end_after.Goals as goal

pub returns-clause-at_most : goal.returns-clause-at_most
returns-clause-at_most c =
    let m = c.args.self.now in
    let last : ℕ = m.count - 1 in
    let all : last + 1 ≡ m.count = omega arith in
    let next : (last + 1) * m.distance ≡ m.count * m.distance = ap (λ (k : ℕ). k * m.distance) all in
    omega (arith, next, c.last_to-mark.ensures.last, c.min.ensures)
