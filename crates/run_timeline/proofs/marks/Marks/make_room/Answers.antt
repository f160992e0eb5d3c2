use Rattle.std.proofs.Common.{◌≡◌, ◌*◌, ℕ, length, ap, arith}
use Rattle.run_timeline.proofs.marks.Marks.make_room.Goals as goal

pub returns-then-self-len-clause-near : goal.returns-then-self-len-clause-near
returns-then-self-len-clause-near c =
    let m = c.args.self.now in
    let long = length m.marks.items in
    let twice : c.thin.new.self.distance * long ≡ 2 * m.distance * long = ap (λ (d : ℕ). d * long) c.thin.ensures.distance in
    let all : m.count ≡ long = omega arith in
    let next : m.count * m.distance ≡ long * m.distance = ap (λ (k : ℕ). k * m.distance) all in
    omega (arith, twice, next)
