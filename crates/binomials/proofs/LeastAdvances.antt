-- t(l, c) is the greatest of k·l - beta_before (c + 1) k over all k, and so the least over all splits.
use Rattle.std.proofs.Common.{◌≡◌, ℕ, zero, suc, ◌+◌, ◌-◌, ◌*◌, ◌<◌, ◌≤◌, max, nat_le, true, false, cond, refl, sym, ◌∙◌, ap, subst, inl, inr, arith, add-one}
use Rattle.std.proofs.lemmas.Bool.{cases_lt}
use Rattle.std.proofs.lemmas.Bool.Decides.{nat_tests}
use Rattle.binomials.specs.Binomials.{beta, beta_before}
use Rattle.binomials.specs.Advances.{IsRepeats, first_repeats, repeats, least_advances, split}
use Rattle.binomials.specs.Laws.{IsStretch, IsSplit, RepeatsAreBetween, AdvancesAreGreatest, SplitIsLeast}
use Rattle.binomials.proofs.Monotonicity.{beta_zero, beta_pos, beta_above, beta_before_law, beta_before_more, beta_before_next, beta_before_up}

-- with a slot every stretch of some steps can be reversed
pub with_slot : (l c : ℕ) → 1 ≤ l → 1 ≤ c → IsStretch l c
with_slot l c some slots = record { some = some; slots = λ e. absurd (omega arith) }

-- further down and further up than where the steps are reached there is no more
down : (l c k m : ℕ) → m ≤ k → beta_before c k ≤ l → m * l + beta_before (suc c) k ≤ k * l + beta_before (suc c) m
down l c zero m h low = let e : m ≡ 0 = omega arith in omega (arith, ap (beta_before (suc c)) e, ap (λ m. m * l) e)
down l c (suc k) m h low = elim (cases_lt m (suc k)) [
  | inl lt ↦ omega (arith, down l c k m (omega arith) (omega (arith, beta_before_next c k)), beta_before_law c k)
  | inr ge ↦ let e : m ≡ suc k = omega arith in omega (arith, ap (beta_before (suc c)) e, ap (λ m. m * l) e)
]

up : (l c k m : ℕ) → k ≤ m → l ≤ beta_before c (suc k) → m * l + beta_before (suc c) k ≤ k * l + beta_before (suc c) m
up l c k zero h high = let e : k ≡ 0 = omega arith in omega (arith, ap (beta_before (suc c)) e, ap (λ m. m * l) e)
up l c k (suc m) h high = elim (cases_lt k (suc m)) [
  | inl lt ↦ omega (arith, up l c k m (omega arith) high, beta_before_law c m, beta_before_up c (suc k) (suc m) (omega arith))
  | inr ge ↦ let e : k ≡ suc m = omega arith in omega (arith, ap (beta_before (suc c)) e, ap (λ m. m * l) e)
]

best : (l c k m : ℕ) → beta_before c k ≤ l → l ≤ beta_before c (suc k) → m * l + beta_before (suc c) k ≤ k * l + beta_before (suc c) m
best l c k m low high = elim (cases_lt m k) [
  | inl lt ↦ down l c k m (omega arith) low
  | inr ge ↦ up l c k m ge high
]

-- the search finds the number of repeats
found : (l c more r : ℕ) → beta_before c r < l → l ≤ beta c (r + more) → IsRepeats l c (first_repeats l c more r)
found l c zero r low high = record { above = low; within = omega (arith, high, ap (beta c) (same r)) }
  where
    same : (r : ℕ) → r + 0 ≡ r
    same r = omega arith
found l c (suc more) r low high = elim (nat_le l (beta c r)) as (λ b. nat_le l (beta c r) ≡ b → IsRepeats l c (cond b r (first_repeats l c more (suc r)))) [
  | true ↦ λ e. record { above = low; within = grind (arith, nat_tests) }
  | false ↦ λ e. found l c more (suc r) (grind (arith, nat_tests)) (omega (arith, high, ap (beta c) (along r more)))
] refl
  where
    along : (r more : ℕ) → r + suc more ≡ suc r + more
    along r more = omega arith

reachable : (l c : ℕ) → IsStretch l c → l ≤ beta c (0 + l)
reachable l zero s = omega (arith, s.slots refl)
reachable l (suc c) s = let e : 0 + l ≡ l = omega arith in omega (arith, beta_above c l, ap (beta (suc c)) e)

pub repeats_found : (l c : ℕ) → IsStretch l c → IsRepeats l c (repeats l c)
unfolding repeats
repeats_found l c s = found l c l 0 s.some (reachable l c s)

pub one_repeats : (l c r q : ℕ) → IsRepeats l c r → IsRepeats l c q → r ≡ q
one_repeats l c r q h g = elim (cases_lt r q) [
  | inl lt ↦ absurd (omega (arith, beta_before_up c (suc r) q lt, h.within, g.above))
  | inr ge ↦ elim (cases_lt q r) [
    | inl lt ↦ absurd (omega (arith, beta_before_up c (suc q) r lt, g.within, h.above))
    | inr le ↦ omega arith
  ]
]

-- t(l, c) by each number that reaches l from both sides
least_advances_by : (l c k : ℕ) → IsStretch l c → beta_before c k ≤ l → l ≤ beta_before c (suc k) → least_advances l c + beta_before (suc c) k ≡ k * l
unfolding least_advances
least_advances_by l c k s low high =
    let r = repeats l c in
    let is = repeats_found l c s in
    let e : beta_before (c + 1) r ≡ beta_before (suc c) r = ap (λ c. beta_before c r) (add-one c) in
    let one = best l c k r low high in
    let other = best l c r k (omega (arith, is.above)) is.within in
    let none = best l c r 0 (omega (arith, is.above)) is.within in
    omega (arith, e, one, other, none)

least_advances_above : (l c k : ℕ) → IsStretch l c → k * l ≤ least_advances l c + beta_before (suc c) k
unfolding least_advances
least_advances_above l c k s =
    let r = repeats l c in
    let is = repeats_found l c s in
    let e : beta_before (c + 1) r ≡ beta_before (suc c) r = ap (λ c. beta_before c r) (add-one c) in
    let other = best l c r k (omega (arith, is.above)) is.within in
    omega (arith, e, other)

pub repeats_between : (l c : ℕ) → RepeatsAreBetween l c
repeats_between l c s = (repeats_found l c s, λ r. one_repeats l c (repeats l c) r (repeats_found l c s))

pub advances_greatest : (l c : ℕ) → AdvancesAreGreatest l c
advances_greatest l c s = (
  λ r is. omega (arith, least_advances_by l c r s (omega (arith, is.above)) is.within, next r),
  λ k. omega (arith, least_advances_above l c k s, next k),
)
  where
    next : (k : ℕ) → beta_before (c + 1) k ≡ beta_before (suc c) k
    next k = ap (λ c. beta_before c k) (add-one c)

-- where the split is, with c = d + 1 slots and q + 1 repeats
record Between (l d q j : ℕ) : Type 0 where
  low : beta_before (suc d) q ≤ j
  high : j ≤ beta_before (suc d) (suc q)
  rest_low : beta_before d (suc q) ≤ l - j
  rest_high : l - j ≤ beta_before d (suc (suc q))

between : (l d q j : ℕ) → IsRepeats l (suc d) (suc q) → j ≡ max 1 (max (beta_before (suc d) q) (l - beta d (suc q))) → Between l d q j
between l d q j is e =
    let law = beta_before_law d q in
    let less = beta_before_more d (suc q) in
    let rises = beta_before_next (suc d) q in
    let falls = beta_before_next d (suc q) in
    let some = beta_pos (suc d) q in
    record {
      low = omega arith;
      high = omega (arith, e, is.within, rises, some);
      rest_low = omega (arith, e, is.above, law, less, falls);
      rest_high = omega (arith, e);
    }

sum_of : (l c q j m t u v : ℕ) → l ≡ j + m → t + beta_before (suc c) (suc q) ≡ suc q * l → u + beta_before c (suc q) ≡ suc q * m → v + beta_before (suc c) q ≡ q * j → t ≡ j + u + v
sum_of l c q j m t u v e f g h = omega (arith, ap (λ n. q * n) e, beta_before_law c q)

-- the sum where a stretch is split is no less, whichever number is taken for its repeats
sum_from : (l c q j m t u v : ℕ) → l ≡ j + m → t + beta_before (suc c) (suc q) ≡ suc q * l → suc q * m ≤ u + beta_before c (suc q) → q * j ≤ v + beta_before (suc c) q → t ≤ j + u + v
sum_from l c q j m t u v e f g h = omega (arith, ap (λ n. q * n) e, beta_before_law c q)

fewer : (d : ℕ) → suc d - 1 ≡ d
fewer d = omega arith

split_between : (l d q : ℕ) → IsStretch l (suc d) → IsRepeats l (suc d) (suc q) → split l (suc d) ≡ max 1 (max (beta_before (suc d) q) (l - beta d (suc q)))
unfolding split
split_between l d q s is =
    let e = one_repeats l (suc d) (repeats l (suc d)) (suc q) (repeats_found l (suc d) s) is in
    ap (λ r. max 1 (max (beta_before (suc d) (r - 1)) (l - beta (suc d - 1) r))) e
    ∙ ap (λ d'. max 1 (max (beta_before (suc d) (suc q - 1)) (l - beta d' (suc q)))) (fewer d)
    ∙ ap (λ p. max 1 (max (beta_before (suc d) p) (l - beta d (suc q)))) (fewer q)

sum_split : (l d q j : ℕ) → IsStretch l (suc d) → IsRepeats l (suc d) (suc q) → 1 ≤ j → Between l d q j → IsSplit l (suc d) j
sum_split l d q j s is some at =
    let shorter : j < l = omega (arith, at.rest_low, beta_pos d q) in
    let before = with_slot j (suc d) some (omega arith) in
    let after : IsStretch (l - j) d = record { some = omega arith; slots = λ e. omega (arith, at.rest_high, ap (λ d. beta d (suc q)) e) } in
    record {
      before = before;
      after = subst (IsStretch (l - j)) (sym (fewer d)) after;
      shorter = shorter;
      sum =
          sum_of l (suc d) q j (l - j) (least_advances l (suc d)) (least_advances (l - j) (suc d - 1)) (least_advances j (suc d)) (omega arith)
          (least_advances_by l (suc d) (suc q) s (omega (arith, is.above)) is.within)
          (omega (arith, ap (least_advances (l - j)) (fewer d), least_advances_by (l - j) d (suc q) after at.rest_low at.rest_high))
          (least_advances_by j (suc d) q before at.low at.high);
    }

least_by : (l d q j : ℕ) → IsStretch l (suc d) → IsRepeats l (suc d) (suc q) → 1 ≤ j → j < l → IsStretch (l - j) (suc d - 1) →
    least_advances l (suc d) ≤ j + least_advances (l - j) (suc d - 1) + least_advances j (suc d)
least_by l d q j s is some short rest =
    let after : IsStretch (l - j) d = subst (IsStretch (l - j)) (fewer d) rest in
    sum_from l (suc d) q j (l - j) (least_advances l (suc d)) (least_advances (l - j) (suc d - 1)) (least_advances j (suc d)) (omega arith)
    (least_advances_by l (suc d) (suc q) s (omega (arith, is.above)) is.within)
    (omega (arith, ap (least_advances (l - j)) (fewer d), least_advances_above (l - j) d (suc q) after))
    (least_advances_above j (suc d) q (with_slot j (suc d) some (omega arith)))

by_repeats : (l d r : ℕ) → IsStretch l (suc d) → 2 ≤ l → IsRepeats l (suc d) r →
    IsSplit l (suc d) (split l (suc d)) × ((j : ℕ) → 1 ≤ j → j < l → IsStretch (l - j) (suc d - 1) → least_advances l (suc d) ≤ j + least_advances (l - j) (suc d - 1) + least_advances j (suc d))
by_repeats l d zero s two is = absurd (omega (arith, is.within))
by_repeats l d (suc q) s two is =
    let e = split_between l d q s is in
    (sum_split l d q (split l (suc d)) s is (omega (arith, e)) (between l d q (split l (suc d)) is e), λ j. least_by l d q j s is)

pub split_least : (l c : ℕ) → SplitIsLeast l c
split_least l zero s two = absurd (omega (arith, s.slots refl))
split_least l (suc d) s two = by_repeats l d (repeats l (suc d)) s two (repeats_found l (suc d) s)

-- the split by the binomial numbers that a climb gives
pub split_is : (l c r reached before earlier : ℕ) → 1 ≤ c → 2 ≤ l → IsRepeats l c r → reached ≡ beta c r → before ≡ beta_before c r → earlier ≡ beta_before c (r - 1) →
    split l c ≡ max 1 (max earlier (l - (reached - before)))
split_is l zero r reached before earlier some two is e f g = absurd (omega arith)
split_is l (suc d) zero reached before earlier some two is e f g = absurd (omega (arith, is.within))
split_is l (suc d) (suc q) reached before earlier some two is e f g =
    let s = with_slot l (suc d) (omega arith) some in
    omega (arith, split_between l d q s is, beta_before_law d q, e, f, g ∙ ap (beta_before (suc d)) (fewer q))

-- one step is never advanced without tape
pub least_advances_one : (c : ℕ) → IsStretch 1 c → least_advances 1 c ≡ 0
least_advances_one c s = omega (arith, least_advances_by 1 c 0 s (omega arith) (omega (arith, beta_zero c)))
