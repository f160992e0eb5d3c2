-- What a set of bits contains, and what becomes of it where one bit changes.
use Rattle.std.proofs.Common.{◌≡◌, ◌≢◌, ◌==◌, ℕ, zero, suc, ◌+◌, ◌-◌, ◌*◌, ◌/◌, ◌%◌, ◌^◌, ◌<◌, ◌≤◌, Bool, true, false, not, cond, ◌&&◌, ◌||◌, List, [], ◌∷◌, length, get_or, set as put, replicate, nat_lt, nat_le, refl, sym, ap, ◌∙◌, inl, inr, ◌⊎◌, true≢false, arith, eq-eqb, get_or-set_same, get_or-set_other, bit_and, bit_or}
use Rattle.std.specs.Int.{bit_at, bit_not, w64}
use Rattle.std.specs.List.{list_any, filter, range_with_len}
use Rattle.std.specs.Ordering.{nat_cmp, eq_by_cmp}
use Rattle.std.specs.FinSet as set
use Rattle.std.specs.Cmp.{nat_cmp_total, unsigned_tied}
use Rattle.std.proofs.lemmas.Bool.{cases_lt, cases_eq, eqb-true, ne_eqb}
use Rattle.std.proofs.lemmas.List.{get_or_past, get_or_default, get_or-replicate, length-replicate}
use Rattle.std.proofs.lemmas.Bool.Decides.{nat_tests}
use Rattle.std.proofs.lemmas.Map.Views.{any-filter_same}
use Rattle.std.proofs.lemmas.Nat.Bits.{bit_at-zero, bit_at_set_same, bit_at_set_other, bit_at_clear_same, bit_at_clear_other}
use Rattle.schedule_rules.specs.Bits.{is_set, set_of}

-- which numbers are in a range
any-range : (q a n : ℕ) → list_any (eq_by_cmp nat_cmp q) (range_with_len a n) ≡ (nat_le a q && nat_lt q (a + n))
any-range q a zero = grind (arith, nat_tests)
any-range q a (suc n) = let e = any-range q (a + 1) n in grind (arith, nat_tests, e)

pub past_end : (words : List ℕ) (q : ℕ) → 64 * length words ≤ q → is_set words q ≡ false
past_end words q h =
    let far : length words ≤ q / 64 = omega arith in
    ap (λ w. bit_at w (q % 64) == 1) (get_or_past words (q / 64) 0 far) ∙ ap (λ b. b == 1) (bit_at-zero (q % 64))

and_within : (p : Bool) (q m : ℕ) → (m ≤ q → p ≡ false) → (p && (nat_le 0 q && nat_lt q (0 + m))) ≡ p
and_within true q m h = grind (arith, nat_tests)
and_within false q m h = refl

-- a position is in the set where its bit is set
pub contains-set_of : (words : List ℕ) (q : ℕ) → set.contains (set_of words) q ≡ is_set words q
unfolding set_of
contains-set_of words q =
    set.contains-from_list nat_cmp_total _ q
    ∙ any-filter_same (eq_by_cmp nat_cmp q) (is_set words) (is_set words q) (λ k e. ap (is_set words) (sym (eqb-true q k (sym (unsigned_tied q k) ∙ e)))) _
    ∙ ap (λ b. is_set words q && b) (any-range q 0 (64 * length words))
    ∙ and_within (is_set words q) q (64 * length words) (past_end words q)

-- the words with the bit of a position set, and with it cleared
abbrev pub bit_added : List ℕ → ℕ → ℕ
bit_added words n = bit_or (get_or words (n / 64) 0) (1 * 2 ^ (n % 64) % 2 ^ 64)

abbrev pub bit_taken : List ℕ → ℕ → ℕ
bit_taken words n = bit_and (get_or words (n / 64) 0) (bit_not w64 (1 * 2 ^ (n % 64) % 2 ^ 64))

-- what is seen at a position where the word of another is written
seen_at : (words : List ℕ) (n q v : ℕ) → n / 64 < length words →
    ((q / 64 ≡ n / 64) × (get_or (put words (n / 64) v) (q / 64) 0 ≡ v)) ⊎ (get_or (put words (n / 64) v) (q / 64) 0 ≡ get_or words (q / 64) 0)
seen_at words n q v h = elim (cases_eq (q / 64) (n / 64)) [
  | inl e ↦ inl (e, ap (λ k. get_or (put words (n / 64) v) k 0) e ∙ get_or-set_same words (n / 64) v 0 h)
  | inr ne ↦ inr (get_or-set_other words (n / 64) (q / 64) v 0 ne)
]

-- two positions in one word have different bits
apart : (q n : ℕ) → (q ≡ n → ⊥) → q / 64 ≡ n / 64 → q % 64 ≢ n % 64
apart q n ne e m = ne (omega arith)

is_set_added_same : (words : List ℕ) (n : ℕ) → n / 64 < length words → is_set (put words (n / 64) (bit_added words n)) n ≡ true
is_set_added_same words n h =
    ap (λ w. bit_at w (n % 64) == 1) (get_or-set_same words (n / 64) (bit_added words n) 0 h)
    ∙ ap (λ b. b == 1) (bit_at_set_same w64 (get_or words (n / 64) 0) (n % 64) (omega arith))

is_set_added_other : (words : List ℕ) (n q : ℕ) → n / 64 < length words → (q ≡ n → ⊥) → is_set (put words (n / 64) (bit_added words n)) q ≡ is_set words q
is_set_added_other words n q h ne = elim (seen_at words n q (bit_added words n) h) [
  | inl w ↦ ap (λ w. bit_at w (q % 64) == 1) w.1
      ∙ ap (λ b. b == 1) (bit_at_set_other w64 (get_or words (n / 64) 0) (n % 64) (omega arith) (q % 64) (apart q n ne w.0) ∙ ap (λ k. bit_at (get_or words k 0) (q % 64)) (sym w.0))
  | inr w ↦ ap (λ w. bit_at w (q % 64) == 1) w
]

is_set_taken_same : (words : List ℕ) (n : ℕ) → n / 64 < length words → is_set (put words (n / 64) (bit_taken words n)) n ≡ false
is_set_taken_same words n h =
    ap (λ w. bit_at w (n % 64) == 1) (get_or-set_same words (n / 64) (bit_taken words n) 0 h)
    ∙ ap (λ b. b == 1) (bit_at_clear_same w64 (get_or words (n / 64) 0) (n % 64) (omega arith))

is_set_taken_other : (words : List ℕ) (n q : ℕ) → n / 64 < length words → (q ≡ n → ⊥) → is_set (put words (n / 64) (bit_taken words n)) q ≡ is_set words q
is_set_taken_other words n q h ne = elim (seen_at words n q (bit_taken words n) h) [
  | inl w ↦ ap (λ w. bit_at w (q % 64) == 1) w.1
      ∙ ap (λ b. b == 1) (bit_at_clear_other w64 (get_or words (n / 64) 0) (n % 64) (omega arith) (q % 64) (omega arith) (apart q n ne w.0) ∙ ap (λ k. bit_at (get_or words k 0) (q % 64)) (sym w.0))
  | inr w ↦ ap (λ w. bit_at w (q % 64) == 1) w
]

tied_itself : (q n : ℕ) → q ≡ n → eq_by_cmp nat_cmp q n ≡ true
tied_itself q n e = unsigned_tied q n ∙ eq-eqb q n e

not_tied : (q n : ℕ) → (q ≡ n → ⊥) → eq_by_cmp nat_cmp q n ≡ false
not_tied q n ne = unsigned_tied q n ∙ ne_eqb q n ne

pub set_of-added : (words : List ℕ) (n : ℕ) → n / 64 < length words → set_of (put words (n / 64) (bit_added words n)) ≡ set.insert (set_of words) n
set_of-added words n h = set.same_set nat_cmp_total set.nat_cmp-IsAntisymmetric _ _ (λ q.
    contains-set_of _ q
    ∙ elim (cases_eq q n) [
      | inl e ↦ ap (is_set (put words (n / 64) (bit_added words n))) e ∙ is_set_added_same words n h ∙ ap (λ b. b || set.contains (set_of words) q) (sym (tied_itself q n e))
      | inr ne ↦ is_set_added_other words n q h ne ∙ sym (contains-set_of words q) ∙ ap (λ b. b || set.contains (set_of words) q) (sym (not_tied q n ne))
    ]
    ∙ sym (set.contains-insert nat_cmp_total _ n q))

pub set_of-taken : (words : List ℕ) (n : ℕ) → n / 64 < length words → set_of (put words (n / 64) (bit_taken words n)) ≡ set.remove (set_of words) n
set_of-taken words n h = set.same_set nat_cmp_total set.nat_cmp-IsAntisymmetric _ _ (λ q.
    contains-set_of _ q
    ∙ elim (cases_eq q n) [
      | inl e ↦ ap (is_set (put words (n / 64) (bit_taken words n))) e ∙ is_set_taken_same words n h ∙ ap (λ b. not b && set.contains (set_of words) q) (sym (tied_itself q n e))
      | inr ne ↦ is_set_taken_other words n q h ne ∙ sym (contains-set_of words q) ∙ ap (λ b. not b && set.contains (set_of words) q) (sym (not_tied q n ne))
    ]
    ∙ sym (set.contains-remove nat_cmp_total _ n q))

count_of_filter : (p : ℕ → Bool) (a n : ℕ) → length (filter p (range_with_len a n)) ≤ n
count_of_filter p a zero = omega arith
count_of_filter p a (suc n) = let rest = count_of_filter p (a + 1) n in grind (arith, nat_tests, rest)

-- a set has no more members than the list that it is made of
len-from_list : (ks : List ℕ) → set.len (set.from_list {R = nat_cmp} ks) ≤ length ks
len-from_list [] = omega (arith, set.len-empty nat_cmp)
len-from_list (k ∷ ks) =
    let rest = len-from_list ks in
    let here = set.len-insert nat_cmp_total (set.from_list ks) k in
    grind (arith, nat_tests, here, rest)

-- a set in words has no more members than the words have bits
pub len-set_of : (words : List ℕ) → set.len (set_of words) ≤ 64 * length words
unfolding set_of
len-set_of words = omega (arith, len-from_list (filter (is_set words) (range_with_len 0 (64 * length words))), count_of_filter (is_set words) 0 (64 * length words))

-- no bit is set in words that are 0
pub set_of-zeros : (words : List ℕ) → ((i : ℕ) → get_or words i 0 ≡ 0) → set_of words ≡ set.empty
set_of-zeros words h = set.same_set nat_cmp_total set.nat_cmp-IsAntisymmetric _ _ (λ q.
    contains-set_of words q ∙ ap (λ w. bit_at w (q % 64) == 1) (h (q / 64)) ∙ ap (λ b. b == 1) (bit_at-zero (q % 64)) ∙ sym (set.contains-empty nat_cmp q))

-- what a position in the set has a word for
pub word_of_member : (words : List ℕ) (n : ℕ) → set.contains (set_of words) n ≡ true → n / 64 < length words
word_of_member words n h = elim (cases_lt (n / 64) (length words)) [
  | inl lt ↦ lt
  | inr ge ↦ absurd (true≢false (sym h ∙ contains-set_of words n ∙ past_end words n (omega arith)))
]

-- the same of a word v that was read
pub set_of-written_with : (words : List ℕ) (n v : ℕ) → n / 64 < length words → v ≡ get_or words (n / 64) v →
    set_of (put words (n / 64) (bit_or v (1 * 2 ^ (n % 64) % 2 ^ 64))) ≡ set.insert (set_of words) n
set_of-written_with words n v h e =
    ap (λ w. set_of (put words (n / 64) (bit_or w (1 * 2 ^ (n % 64) % 2 ^ 64)))) (e ∙ get_or_default words (n / 64) v 0 h) ∙ set_of-added words n h

pub set_of-written_without : (words : List ℕ) (n v : ℕ) → n / 64 < length words → v ≡ get_or words (n / 64) v →
    set_of (put words (n / 64) (bit_and v (bit_not w64 (1 * 2 ^ (n % 64) % 2 ^ 64)))) ≡ set.remove (set_of words) n
set_of-written_without words n v h e =
    ap (λ w. set_of (put words (n / 64) (bit_and w (bit_not w64 (1 * 2 ^ (n % 64) % 2 ^ 64))))) (e ∙ get_or_default words (n / 64) v 0 h) ∙ set_of-taken words n h

-- one more member, and one less
pub len_one_more : (s : set.FinSet nat_cmp) (n : ℕ) → set.contains s n ≡ false → set.len (set.insert s n) ≡ set.len s + 1
len_one_more s n new = set.len-insert nat_cmp_total s n ∙ ap (λ b. cond b (set.len s) (set.len s + 1)) new

pub len_one_less : (s : set.FinSet nat_cmp) (n : ℕ) → set.contains s n ≡ true → set.len (set.remove s n) ≡ set.len s - 1
len_one_less s n there = set.len-remove nat_cmp_total s n ∙ ap (λ b. cond b (set.len s - 1) (set.len s)) there

-- a set with a member isn't empty
pub len_of_member : (s : set.FinSet nat_cmp) (n : ℕ) → set.contains s n ≡ true → 1 ≤ set.len s
len_of_member s n there = elim (cases_lt 0 (set.len s)) [
  | inl lt ↦ lt
  | inr none ↦ absurd (true≢false (sym there ∙ ap (λ s. set.contains s n) (set.empty_of_len s (omega arith)) ∙ set.contains-empty nat_cmp n))
]

-- words that are all 0 read as 0, past their end too
pub zeros_read : (n i : ℕ) → get_or (replicate {A = ℕ} n 0) i 0 ≡ 0
zeros_read n i = elim (cases_lt i n) [
  | inl lt ↦ get_or-replicate n i 0 0 lt
  | inr ge ↦ get_or_past (replicate {A = ℕ} n 0) i 0 (omega (arith, length-replicate {A = ℕ} n 0))
]
