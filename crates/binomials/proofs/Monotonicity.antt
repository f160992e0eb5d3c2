-- The binomial numbers rise.
use Rattle.std.proofs.Common.{◌≡◌, ℕ, zero, suc, ◌+◌, ◌<◌, ◌≤◌, refl, ap, inl, inr, arith}
use Rattle.std.proofs.lemmas.Bool.{cases_lt}
use Rattle.binomials.specs.Binomials.{beta, beta_before}

pub beta_zero : (c : ℕ) → beta c 0 ≡ 1
beta_zero zero = refl
beta_zero (suc c) = refl

pub beta_pos : (c k : ℕ) → 1 ≤ beta c k
beta_pos zero k = omega arith
beta_pos (suc c) zero = omega arith
beta_pos (suc c) (suc k) = omega (arith, beta_pos c (suc k))

pub beta_one : (k : ℕ) → beta 1 k ≡ suc k
beta_one zero = refl
beta_one (suc k) = omega (arith, beta_one k)

-- with a slot there are more than k
pub beta_above : (c k : ℕ) → k < beta (suc c) k
beta_above c zero = omega arith
beta_above c (suc k) = omega (arith, beta_above c k, beta_pos c (suc k))

pub beta_before_law : (c k : ℕ) → beta_before (suc c) (suc k) ≡ beta_before c (suc k) + beta_before (suc c) k
beta_before_law c zero = omega (arith, beta_zero c)
beta_before_law c (suc k) = refl

pub beta_before_more : (c k : ℕ) → beta_before c k ≤ beta_before (suc c) k
beta_before_more c zero = omega arith
beta_before_more c (suc k) = omega (arith, beta_before_law c k)

-- one time more, and no fewer steps
pub beta_before_next : (c k : ℕ) → beta_before c k ≤ beta_before c (suc k)
beta_before_next c zero = omega arith
beta_before_next zero (suc k) = omega arith
beta_before_next (suc c) (suc k) = omega arith

pub beta_before_up : (c j k : ℕ) → j ≤ k → beta_before c j ≤ beta_before c k
beta_before_up c j zero h = let e : j ≡ 0 = omega arith in omega (arith, ap (beta_before c) e)
beta_before_up c j (suc k) h = elim (cases_lt j (suc k)) [
  | inl lt ↦ omega (arith, beta_before_up c j k (omega arith), beta_before_next c k)
  | inr ge ↦ let e : j ≡ suc k = omega arith in omega (arith, ap (beta_before c) e)
]

-- more slots, and no fewer steps
pub beta_before_slots : (c d k : ℕ) → c ≤ d → beta_before c k ≤ beta_before d k
beta_before_slots c zero k h = let e : c ≡ 0 = omega arith in omega (arith, ap (λ c. beta_before c k) e)
beta_before_slots c (suc d) k h = elim (cases_lt c (suc d)) [
  | inl lt ↦ omega (arith, beta_before_slots c d k (omega arith), beta_before_more d k)
  | inr ge ↦ let e : c ≡ suc d = omega arith in omega (arith, ap (λ c. beta_before c k) e)
]
