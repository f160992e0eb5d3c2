-- The number of a certificate, without great binomial numbers.
use Rattle.std.proofs.Common.{◌≡◌, ℕ, suc, ◌+◌, ◌-◌, ◌*◌, ◌/◌, ◌<◌, ◌≤◌, Option, None, Some, inl, inr, refl, ap, arith}
use Rattle.std.specs.Prelude.{SomeIff}
use Rattle.std.proofs.lemmas.Bool.{cases_lt}
use Rattle.std.proofs.Math.Nat.{mul-le-mul_left}
use Rattle.binomials.specs.Binomials.{beta_before}
use Rattle.binomials.specs.Advances.{repeats, least_advances}
use Rattle.binomials.proofs.Monotonicity.{beta_before_slots}
use Rattle.binomials.proofs.Ratio.{beta_before_one, beta_before_two}
use Rattle.binomials.proofs.LeastAdvances.{with_slot, repeats_found, advances_greatest}
use Rattle.bound_cert.specs.Acceptance.{IsNumberOf, IsNegative}
use Rattle.bound_cert.specs.Verdicts.{FindsNumber}

-- the number is a difference, or it is negative
pub found : (steps c k most less : ℕ) (number : Option ℕ) → most ≡ steps + k * steps → less ≡ beta_before (c + 1) k → SomeIff number (less ≤ most) (most - less) → FindsNumber steps c k number
found steps c k most less None all is not_within = elim (cases_lt most less) [ inl above ↦ omega (arith, all, is, above) | inr within ↦ absurd (not_within within) ]
found steps c k most less (Some n) all is some = omega (arith, all, is, some.0, some.1)

-- N + k · N, as it is worked out
pub all_at : (steps k n m : ℕ) → n ≡ steps → m ≡ k → n * (m + 1) ≡ steps + k * steps
all_at steps k n m n_is m_is =
    let same : n * (m + 1) ≡ steps * (k + 1) = λ i. n_is i * (m_is i + 1) in
    omega (arith, same)

-- without slots β(1, k - 1) is k
pub none_there : (c k : ℕ) → c ≡ 0 → k ≡ beta_before (c + 1) k
none_there c k none = let at : beta_before (c + 1) k ≡ beta_before 1 k = ap (λ (d : ℕ). beta_before (d + 1) k) none in omega (arith, at, beta_before_one k)

half : (k : ℕ) → k * suc k / 2 ≡ beta_before 2 k
half k = beta_before_two k (suc k) refl

-- with a slot, and more than twice as many repeats as steps, the number is negative
pub many : (steps c k : ℕ) → 1 ≤ c → 2 * steps < k → IsNegative steps c k
many steps c k some high =
    let more : 2 * steps + 1 ≤ k = omega arith in
    omega (arith, half k, beta_before_slots 2 (c + 1) k (omega arith), mul-le-mul_left (suc k) more)

-- the number at the repeats of the steps
pub at_repeats : (steps c : ℕ) → 1 ≤ steps → 1 ≤ c → IsNumberOf steps c (repeats steps c) (steps + least_advances steps c)
at_repeats steps c some slots =
    let stretch = with_slot steps c some slots in
    let greatest = (advances_greatest steps c stretch).0 (repeats steps c) (repeats_found steps c stretch) in
    omega (arith, greatest)
