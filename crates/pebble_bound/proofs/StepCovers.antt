-- What the steps below `end` are covered by: places at increasing positions, each with a stretch of steps above it.
use Rattle.std.proofs.Common.{◌≡◌, ◌⊎◌, ℕ, zero, suc, ◌+◌, ◌<◌, ◌≤◌, Bool, true, ap, inl, inr, arith}
use Rattle.std.proofs.lemmas.Bool.{cases_lt}
use Rattle.binomials.specs.Binomials.{beta_before}
use Rattle.binomials.proofs.Monotonicity.{beta_pos, beta_before_law, beta_before_more}
use Rattle.pebble_bound.specs.Crossings.{passing}
use Rattle.pebble_bound.proofs.SublevelCounts.{few, few_zero, few_next, few_between, passing_next, passing_more}

-- The steps from q up to `end` are covered with c slots. P says which positions are occupied, x how often each step is still
-- crossed. Either the place at q does all of them, with c slots beside it. Or the place at p goes on to r, and does the
-- steps from there with the other slots; the place at q does those below r, with c slots beside it.
pub data Covers (P : ℕ → Type 0) (x : ℕ → ℕ) (end : ℕ) : ℕ → ℕ → Type 0 where
  alone : (c q : ℕ) → q < end → ((k : ℕ) → few x k end ≤ beta_before c k + few x k q) → Covers P x end c q
  with_next : (c q p r : ℕ) → q < p → p ≤ r → r < end → P p →
      ((k : ℕ) → few x k p + few x (suc k) r ≤ beta_before (suc c) k + few x k q + few x (suc k) p) →
      Covers P x end c r → Covers P x end (suc c) q

-- one slot more does no harm
pub one_slot_more : (P : ℕ → Type 0) (x : ℕ → ℕ) (end c q : ℕ) → Covers P x end c q → Covers P x end (suc c) q
one_slot_more P x end c q (alone _ _ h f) = alone (suc c) q h (λ k. omega (arith, f k, beta_before_more c k))
one_slot_more P x end _ q (with_next c _ p r hp hr he at f rest) =
    with_next (suc c) q p r hp hr he at (λ k. omega (arith, f k, beta_before_more (suc c) k)) (one_slot_more P x end c r rest)

-- more crossings, and more occupied positions above q, do no harm
pub more_crossed : (P Q : ℕ → Type 0) (x y : ℕ → ℕ) (end c q : ℕ) → ((i : ℕ) → q < i → Q i → P i) → ((i : ℕ) → q ≤ i → y i ≤ x i) →
    Covers Q y end c q → Covers P x end c q
more_crossed P Q x y end c q occupied more (alone _ _ h f) =
    alone c q h (λ k. let fewer = few_between x y k k q end (omega arith) (λ i from to b. let m = more i from in omega arith) in omega (arith, f k, fewer))
more_crossed P Q x y end _ q occupied more (with_next c _ p r hp hr he at f rest) =
    with_next c q p r hp hr he (occupied p hp at)
    (λ k.
    let low = few_between x y k k q p (omega arith) (λ i from to b. let m = more i from in omega arith) in
    let high = few_between x y (suc k) (suc k) p r hr (λ i from to b. let m = more i (omega arith) in omega arith) in
    omega (arith, f k, low, high))
    (more_crossed P Q x y end c r (λ i above. occupied i (omega arith)) (λ i above. more i (omega arith)) rest)

-- where each step from q to r is crossed once more, the place at r isn't needed
pub merged : (P : ℕ → Type 0) (x : ℕ → ℕ) (end c q r : ℕ) → q < r → ((k : ℕ) → few x (suc k) r ≤ beta_before (suc c) k + few x (suc k) q) →
    Covers P x end c r → Covers P x end (suc c) q
merged P x end c q r h low (alone _ _ he f) = alone (suc c) q (omega arith) (elim [
  | zero ↦ omega (arith, few_zero x end)
  | suc k ↦ omega (arith, f (suc k), low k, beta_before_law c k)
])
merged P x end _ q r h low (with_next c _ p s hp hs he at f rest) =
    with_next (suc c) q p s (omega arith) hs he at
    (elim [
      | zero ↦ omega (arith, f 0, few_zero x p, few_zero x q, few_zero x r)
      | suc k ↦ omega (arith, f (suc k), low k, beta_before_law (suc c) k)
    ])
    (one_slot_more P x end c s rest)

-- A place goes from `from` on to `to`. The steps between are crossed once more before, and whatever is occupied after was
-- occupied before, but for `to`.
pub advanced : (P Q : ℕ → Type 0) (x y : ℕ → ℕ) (end from to c q : ℕ) → from < to → P from → ((i : ℕ) → Q i → P i ⊎ (i ≡ to)) →
    ((i : ℕ) → y i ≤ x i) → ((i : ℕ) → from ≤ i → i < to → y i < x i) → Covers Q y end c q → Covers P x end c q
advanced P Q x y end from to c q h here occupied more once (alone _ _ he f) =
    alone c q he (λ k. let fewer = few_between x y k k q end (omega arith) (λ i _ _ b. let m = more i in omega arith) in omega (arith, f k, fewer))
advanced P Q x y end from to _ q h here occupied more once (with_next c _ p r hp hr he at f rest) = elim (occupied p at) [
  | inl before ↦ with_next c q p r hp hr he before
      (λ k.
      let low = few_between x y k k q p (omega arith) (λ i _ _ b. let m = more i in omega arith) in
      let high = few_between x y (suc k) (suc k) p r hr (λ i _ _ b. let m = more i in omega arith) in
      omega (arith, f k, low, high))
      (advanced P Q x y end from to c r h here occupied more once rest)
  | inr there ↦
      let later : Covers P x end c r = more_crossed P Q x y end c r (λ i above o. elim (occupied i o) [ inl before ↦ before | inr e ↦ absurd (omega arith) ]) (λ i _. more i) rest in
      elim (cases_lt q from) [
        | inl below ↦ with_next c q from r below (omega arith) he here
            (λ k.
            let low = few_between x y k k q from (omega arith) (λ i _ _ b. let m = more i in omega arith) in
            let middle = few_between x y (suc k) k from to (omega arith) (λ i a u b. let m = once i a u in omega arith) in
            let high = few_between x y (suc k) (suc k) to r (omega arith) (λ i _ _ b. let m = more i in omega arith) in
            omega (arith, f k, low, middle, high, ap (few y k) there, ap (few y (suc k)) there))
            later
        | inr above ↦ merged P x end c q r (omega arith)
            (λ k.
            let middle = few_between x y (suc k) k q to (omega arith) (λ i a u b. let m = once i (omega arith) u in omega arith) in
            let high = few_between x y (suc k) (suc k) to r (omega arith) (λ i _ _ b. let m = more i in omega arith) in
            omega (arith, f k, middle, high, ap (few y k) there, ap (few y (suc k)) there))
            later
      ]
]

-- the last place takes one step more, where another place is left for that step
one_step_more : (P : ℕ → Type 0) (x : ℕ → ℕ) (end c q : ℕ) → 0 < c → P end → q < end → ((k : ℕ) → few x k end ≤ beta_before c k + few x k q) →
    Covers P x (suc end) c q
one_step_more P x end zero q room here h f = absurd (omega arith)
one_step_more P x end (suc c) q room here h f =
    with_next c q end end h (omega arith) (omega arith) here (λ k. omega (arith, f k))
    (alone c end (omega arith) (elim [
      | zero ↦ omega (arith, few_zero x end, few_zero x (suc end))
      | suc k ↦ omega (arith, few_next x (suc k) end, beta_pos c k)
    ]))

-- Step `end` is taped from the place that stands at it. There are places enough for it: those at the positions below, which
-- are held, are no more than the slots.
pub one_taped : (P Q : ℕ → Type 0) (held : ℕ → Bool) (x : ℕ → ℕ) (end c q : ℕ) → P end → ((i : ℕ) → i < end → Q i → P i) → ((i : ℕ) → i < end → Q i → held i ≡ true) →
    passing held end < c + passing held (suc q) → Covers Q x end c q → Covers P x (suc end) c q
one_taped P Q held x end c q here occupied is_held room (alone _ _ h f) =
    one_step_more P x end c q (omega (arith, passing_more held (suc q) end h)) here h f
one_taped P Q held x end _ q here occupied is_held room (with_next c _ p r hp hr he at f rest) =
    with_next c q p r hp hr (omega arith) (occupied p (omega arith) at) f
    (one_taped P Q held x end c r here occupied is_held
    (omega (arith, room, passing_more held (suc q) p hp, passing_next held p (is_held p (omega arith) at), passing_more held (suc p) (suc r) (omega arith)))
    rest)
