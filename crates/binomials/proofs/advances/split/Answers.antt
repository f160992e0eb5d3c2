use Rattle.std.proofs.Common.{ℕ, ◌≡◌, ◌-◌, ◌≤◌, ◌<◌, max, sym, subst, arith}
use Rattle.binomials.specs.Advances.{split}
use Rattle.binomials.specs.ClimbState.{IsClimb}
use Rattle.binomials.specs.declared.climb.Climb.{Climb}
use Rattle.binomials.specs.Laws.{IsSplit}
use Rattle.binomials.proofs.LeastAdvances.{with_slot, split_is, split_least}
use Rattle.binomials.proofs.advances.split.Goals as goal

-- the value at which the code arrives
arrived : (l c : ℕ) (k : Climb) (at : ℕ) → 1 ≤ c → 2 ≤ l → IsClimb l c k → at ≡ max k.earlier (max (l - (k.reached - k.before)) 1) → (at ≡ split l c) × (at < l) × IsSplit l c at
arrived l c k at some two is e =
    let value : at ≡ split l c = omega (arith, split_is l c k.repeats k.reached k.before k.earlier some two is.repeated is.reached is.before is.earlier) in
    let within = subst (IsSplit l c) (sym value) (split_least l c (with_slot l c (omega arith) some) two).0 in
    (value, within.shorter, within)

pub overflow_cast-result : goal.overflow_cast-result
overflow_cast-result c =
    omega (arith, (arrived c.args.l c.args.c c.climb_to-climb.result c.max.result c.requires.slots c.requires.some c.climb_to-climb.ensures (omega arith)).1)

pub returns-clause-value : goal.returns-clause-value
returns-clause-value c =
    (arrived c.args.l c.args.c c.climb_to-climb.result c.max.result c.requires.slots c.requires.some c.climb_to-climb.ensures (omega arith)).0

pub returns-clause-within : goal.returns-clause-within
returns-clause-within c =
    (arrived c.args.l c.args.c c.climb_to-climb.result c.max.result c.requires.slots c.requires.some c.climb_to-climb.ensures (omega arith)).2
