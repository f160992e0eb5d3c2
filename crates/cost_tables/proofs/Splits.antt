-- The least split, and a level's numbers.
use Rattle.std.proofs.Common.{◌≡◌, ◌⊎◌, ℕ, zero, suc, ◌+◌, ◌-◌, ◌*◌, ◌<◌, ◌≤◌, ◌^◌, min, cond, sym, ap, ◌∙◌, subst, arith, inl, inr}
use Rattle.std.proofs.Math.Nat.{mul-le-mul}
use Rattle.std.proofs.lemmas.Bool.{cases_lt, lt-ltb, le-ltb}
use Rattle.level_book.specs.UnderTable.{IsAtMost, sum_of, Entry, number, never}
use Rattle.cost_tables.specs.Entries.{never_in_memory, entry, least_split}
use Rattle.cost_tables.specs.Levels.{IsLevel}

pub min_cases : (a b : ℕ) → (min a b ≡ a) ⊎ (min a b ≡ b)
min_cases a b = elim (cases_lt a b) [ inl h ↦ inl (omega arith) | inr h ↦ inr (omega arith) ]

pub entry_number : (n : ℕ) → n < never_in_memory → entry n ≡ number n
entry_number n h = ap (λ b. cond b (number n) never) (lt-ltb n never_in_memory h)

pub entry_never : (n : ℕ) → never_in_memory ≤ n → entry n ≡ never
entry_never n h = ap (λ b. cond b (number n) never) (le-ltb n never_in_memory h)

pub at_most_trans : (a b c : Entry) → IsAtMost a b → IsAtMost b c → IsAtMost a c
at_most_trans a b never h k = tt
at_most_trans a never (number z) h k = absurd k
at_most_trans never (number y) (number z) h k = absurd h
at_most_trans (number x) (number y) (number z) h k = omega arith

pub sum_at_most : (a b : Entry) (n x y z : ℕ) → IsAtMost a (number x) → IsAtMost b (number y) → n + x + y ≤ z → IsAtMost (sum_of n a b) (number z)
sum_at_most never b n x y z h k le = absurd h
sum_at_most (number p) never n x y z h k le = absurd k
sum_at_most (number p) (number q) n x y z h k le = omega arith

-- entries of numbers
pub entry_mono : (a b : ℕ) → a ≤ b → IsAtMost (entry a) (entry b)
entry_mono a b le =
    elim (cases_lt b never_in_memory) [
      | inl h ↦ subst (λ e. IsAtMost (entry a) e) (sym (entry_number b h)) (subst (λ e. IsAtMost e (number b)) (sym (entry_number a (omega arith))) le)
      | inr h ↦ subst (λ e. IsAtMost (entry a) e) (sym (entry_never b h)) tt
    ]

pub entry_at_most : (a b : ℕ) → a ≤ b → a < never_in_memory → IsAtMost (entry a) (number b)
entry_at_most a b le h = subst (λ e. IsAtMost e (number b)) (sym (entry_number a h)) le

-- a is_number that is at most a sum
pub entry_sum : (x n a b : ℕ) → x ≤ n + a + b → x < never_in_memory → IsAtMost (entry x) (sum_of n (entry a) (entry b))
entry_sum x n a b le small =
    elim (cases_lt a never_in_memory) [
      | inl h ↦ elim (cases_lt b never_in_memory) [
        | inl k ↦ subst (λ e. IsAtMost (entry x) (sum_of n e (entry b))) (sym (entry_number a h))
            (subst (λ e. IsAtMost (entry x) (sum_of n (number a) e)) (sym (entry_number b k)) (entry_at_most x (n + a + b) le small))
        | inr k ↦ subst (λ e. IsAtMost (entry x) (sum_of n e (entry b))) (sym (entry_number a h))
            (subst (λ e. IsAtMost (entry x) (sum_of n (number a) e)) (sym (entry_never b k)) tt)
      ]
      | inr h ↦ subst (λ e. IsAtMost (entry x) (sum_of n e (entry b))) (sym (entry_never a h)) tt
    ]

-- the least split is at most each split, and is Never or one of them
pub split_never : (forward : ℕ) (fresh held : ℕ → ℕ) (r n : ℕ) → least_split forward fresh held r n ≤ never_in_memory
split_never forward fresh held r zero = omega arith
split_never forward fresh held r (suc n) = let rest = split_never forward fresh held r n in omega arith

pub split_least : (forward : ℕ) (fresh held : ℕ → ℕ) (r n i : ℕ) → i < n → least_split forward fresh held r n ≤ (i + 1) * forward + fresh (r - (i + 1)) + held i
split_least forward fresh held r zero i h = absurd (omega arith)
split_least forward fresh held r (suc n) i h =
    elim (cases_lt i n) [
      | inl lt ↦ let rest = split_least forward fresh held r n i lt in omega arith
      | inr ge ↦ let e : n ≡ i = omega arith in
          let P : ℕ → Type 0 = λ x. min (least_split forward fresh held r n) ((n + 1) * forward + fresh (r - (n + 1)) + held n) ≤ (x + 1) * forward + fresh (r - (x + 1)) + held x in
          subst P e (omega arith)
    ]

pub split_attained : (forward : ℕ) (fresh held : ℕ → ℕ) (r n : ℕ) → least_split forward fresh held r n < never_in_memory →
    (i : ℕ) × (i < n) × (least_split forward fresh held r n ≡ (i + 1) * forward + fresh (r - (i + 1)) + held i)
split_attained forward fresh held r zero h = absurd (omega arith)
split_attained forward fresh held r (suc n) h =
    elim (min_cases (least_split forward fresh held r n) ((n + 1) * forward + fresh (r - (n + 1)) + held n)) [
      | inl e ↦ let rest = split_attained forward fresh held r n (omega arith) in (rest.0, omega arith, e ∙ rest.2)
      | inr e ↦ (n, omega arith, e)
    ]

pub step_costs : (n forward : ℕ) → n ≤ 8192 → forward < 2 ^ 32 → n * forward ≤ 2 ^ 45
step_costs n forward few cheap = let product : n * forward ≤ 8192 * 2 ^ 32 = mul-le-mul {n₁ = n} {m₁ = forward} {n₂ = 8192} {m₂ = 2 ^ 32} few (omega arith) in omega arith

pub min_step : (least cost x y : ℕ) → least ≡ x → cost ≡ y → (z : ℕ) → ((z ≡ cost) × (cost < least)) ⊎ ((z ≡ least) × (least ≤ cost)) → z ≡ min x y
min_step least cost x y e f z (inl h) = omega (arith, h.0, h.1)
min_step least cost x y e f z (inr h) = omega (arith, h.0, h.1)

-- what the costs and the base of a level are within
pub record IsSmall (steps room forward write read : ℕ) (base : ℕ → ℕ) : Type 0 where
  pub few : steps ≤ 8192
  pub cheap_steps : forward < 2 ^ 32
  pub cheap_write : write < 2 ^ 32
  pub cheap_read : read < 2 ^ 32
  pub low : base 0 < 2 ^ 33

module _ (steps room forward write read : ℕ) (base : ℕ → ℕ) (fresh held : ℕ → ℕ → ℕ) (small : IsSmall steps room forward write read base) (is : IsLevel steps room forward write read base fresh held) where
  pub first_fresh : (m : ℕ) → 0 < steps → m ≤ room → fresh 0 m ≤ base 0
  first_fresh zero some le = let e = is.none_free 0 some in omega arith
  first_fresh (suc m) some le = let e = is.some_free 0 m some (omega arith) in omega arith

  pub held_within : (r m : ℕ) → r < steps → m < room → held r m ≤ (r + 1) * 2 ^ 46
  held_within zero m lt le = let e = is.is_held 0 m lt le in omega arith
  held_within (suc r) m lt le =
      let e = is.is_held (suc r) m lt le in
      let before = held_within r m (omega arith) le in
      let first = first_fresh m (omega arith) (omega arith) in
      let least = split_least forward (λ q. fresh q m) (λ q. held q m) (suc r) (suc r) r (omega arith) in
      let steps_cost = step_costs (r + 1) forward (omega arith) small.cheap_steps in
      let same : fresh (suc r - (r + 1)) m ≡ fresh 0 m = ap (λ q. fresh q m) (omega arith) in
      omega arith

  pub held_small : (r m : ℕ) → r < steps → m < room → held r m < never_in_memory
  held_small r m lt le = let within = held_within r m lt le in omega arith

  pub fresh_small : (r m : ℕ) → r < steps → m < room → fresh r (suc m) < never_in_memory
  fresh_small zero m lt le = let e = is.some_free 0 m lt le in omega arith
  fresh_small (suc r) m lt le =
      let e = is.some_free (suc r) m lt le in
      let before = held_within r m (omega arith) le in
      let first = first_fresh m (omega arith) (omega arith) in
      let least = split_least forward (λ q. fresh q m) (λ q. held q m) (suc r) (suc r) r (omega arith) in
      let steps_cost = step_costs (r + 1) forward (omega arith) small.cheap_steps in
      let same : fresh (suc r - (r + 1)) m ≡ fresh 0 m = ap (λ q. fresh q m) (omega arith) in
      omega arith
