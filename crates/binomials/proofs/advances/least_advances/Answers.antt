use Rattle.std.proofs.Common.{ℕ, ◌-◌, ◌*◌, ◌<◌, arith, mul-lt-mul_of_pos_right}
use Rattle.binomials.proofs.LeastAdvances.{with_slot, advances_greatest}
use Rattle.binomials.proofs.advances.least_advances.Goals as goal

pub returns-clause-value : goal.returns-clause-value
returns-clause-value c =
    let climb = c.climb_to-climb in
    let s = with_slot c.args.l c.args.c c.requires.some c.requires.slots in
    omega (arith, climb.ensures.below, (advances_greatest c.args.l c.args.c s).0 climb.result.repeats climb.ensures.repeated)

pub returns-clause-few : goal.returns-clause-few
returns-clause-few c = fewer c.climb_to-climb.result.repeats c.args.l c.climb_to-climb.result.below c.climb_to-climb.ensures.few
  where
    fewer : (r l b : ℕ) → r < l → r * l - b < l * l
    fewer r l b h = let some : 0 < l = omega arith in omega (arith, mul-lt-mul_of_pos_right {m = r} {n = l} {k = l} h some)
