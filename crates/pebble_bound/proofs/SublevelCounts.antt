-- Counts of the numbers below n at which a function is below k.
use Rattle.std.proofs.Common.{◌≡◌, ℕ, zero, suc, ◌+◌, ◌<◌, ◌≤◌, Bool, true, cond, nat_lt, refl, ap, inl, inr, arith}
use Rattle.std.proofs.lemmas.Bool.{cases_lt}
use Rattle.std.proofs.lemmas.Bool.Decides.{nat_tests}
use Rattle.pebble_bound.specs.Crossings.{passing}

-- how many numbers i below n have a value x i below k
abbrev pub few : (ℕ → ℕ) → ℕ → ℕ → ℕ
few x k zero = 0
few x k (suc n) = few x k n + cond (nat_lt (x n) k) 1 0

abbrev pub one_if : Bool → ℕ
one_if b = cond b 1 0

pub few_zero : (x : ℕ → ℕ) (n : ℕ) → few x 0 n ≡ 0
few_zero x zero = refl
few_zero x (suc n) = let rest = few_zero x n in grind (arith, nat_tests, rest)

-- one number more
one_more : (a b k l : ℕ) → (a < k → b < l) → cond (nat_lt a k) 1 0 ≤ cond (nat_lt b l) 1 0
one_more a b k l h = grind (arith, nat_tests)

one_at_most : (a k : ℕ) → cond (nat_lt a k) 1 0 ≤ 1
one_at_most a k = grind (arith, nat_tests)

pub few_next : (x : ℕ → ℕ) (k n : ℕ) → few x k (suc n) ≤ few x k n + 1
few_next x k n = omega (arith, one_at_most (x n) k)

-- where y is below l wherever x is below k, between a and b, there are no fewer of y
pub few_between : (x y : ℕ → ℕ) (k l a b : ℕ) → a ≤ b → ((i : ℕ) → a ≤ i → i < b → x i < k → y i < l) → few x k b + few y l a ≤ few y l b + few x k a
few_between x y k l a zero h f = elim (cases_lt 0 a) [
  | inl lt ↦ omega arith
  | inr ge ↦ let P : a ≡ 0 = omega arith in omega (arith, ap (few x k) P, ap (few y l) P)
]
few_between x y k l a (suc b) h f = elim (cases_lt b a) [
  | inl lt ↦ let P : a ≡ suc b = omega arith in omega (arith, ap (few x k) P, ap (few y l) P)
  | inr ge ↦
      let rest = few_between x y k l a b ge (λ i from to. f i from (omega arith)) in
      omega (arith, one_more (x b) (y b) k l (f b ge (omega arith)), rest)
]

pub passing_next : (test : ℕ → Bool) (n : ℕ) → test n ≡ true → passing test (suc n) ≡ passing test n + 1
passing_next test n h = ap (λ b. passing test n + cond b 1 0) h

pub passing_more : (test : ℕ → Bool) (a b : ℕ) → a ≤ b → passing test a ≤ passing test b
passing_more test a zero h = let e : a ≡ 0 = omega arith in omega (arith, ap (passing test) e)
passing_more test a (suc b) h = elim (cases_lt a (suc b)) [
  | inl lt ↦ omega (arith, passing_more test a b (omega arith))
  | inr ge ↦ let e : a ≡ suc b = omega arith in omega (arith, ap (passing test) e)
]
