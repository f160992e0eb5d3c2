-- Marks after one more is set, those of two together, and the first one from an index on.
use Rattle.std.proofs.Common.{◌≡◌, ◌≢◌, ℕ, ◌+◌, ◌-◌, ◌*◌, ◌/◌, ◌%◌, ◌^◌, ◌<◌, ◌≤◌, ◌⊎◌, inl, inr, List, length, get_or, sym, ap, subst, ◌∙◌, arith, Some}
use Rattle.std.specs.Prelude.{bit_or, bit_and}
use Rattle.std.specs.Int.{bit_at, bit_not, trailing_zeros, w64}
use Rattle.std.specs.List.{slice_set}
use Rattle.std.proofs.lemmas.Bool.{cases_lt, cases_eq}
use Rattle.std.proofs.lemmas.List.{get_or-set_same, get_or-set_other, get_or_past}
use Rattle.std.proofs.lemmas.Nat.{shr-shr, shr_le}
use Rattle.std.proofs.lemmas.Nat.Bits.{bit_at-zero, bit_at-lt, bit_at_above, bit_at_set_same, bit_at_set_other, bit_at_clear_same, bit_at_clear_other, bit_at-trailing_zeros}
use Rattle.rv_pages.specs.Marks.{mark_of, IsNextMark}

-- a word that is 0 has no mark
pub no_word : (words : List ℕ) (k : ℕ) → get_or words (k / 64) 0 ≡ 0 → mark_of words k ≡ 0
no_word words k e = ap (λ w. bit_at w (k % 64)) e ∙ bit_at-zero (k % 64)

pub past_words : (words : List ℕ) (k : ℕ) → length words ≡ 64 → 4096 ≤ k → mark_of words k ≡ 0
past_words words k size past = no_word words k (get_or_past words (k / 64) 0 (omega arith))

pub mark_cases : (words : List ℕ) (k : ℕ) → (mark_of words k ≡ 0) ⊎ (mark_of words k ≡ 1)
mark_cases words k =
    let bit = bit_at-lt (get_or words (k / 64) 0) (k % 64) in
    elim (cases_lt (mark_of words k) 1) [ inl l ↦ inl (omega arith) | inr r ↦ inr (omega (arith, bit)) ]

-- one more mark
abbrev pub with_mark : List ℕ → ℕ → List ℕ
with_mark words index = slice_set words (index / 64) (bit_or (get_or words (index / 64) 0) (1 * 2 ^ (index % 64) % 2 ^ 64))

pub mark_of-with_mark_same : (words : List ℕ) (index : ℕ) → length words ≡ 64 → index < 4096 → mark_of (with_mark words index) index ≡ 1
mark_of-with_mark_same words index size below =
    ap (λ w. bit_at w (index % 64)) (get_or-set_same words (index / 64) _ 0 (omega arith))
    ∙ bit_at_set_same w64 (get_or words (index / 64) 0) (index % 64) (omega arith)

pub mark_of-with_mark_other : (words : List ℕ) (index k : ℕ) → length words ≡ 64 → index < 4096 → k ≢ index → mark_of (with_mark words index) k ≡ mark_of words k
mark_of-with_mark_other words index k size below other =
    elim (cases_eq (k / 64) (index / 64)) [
      | inl same ↦
          let apart : k % 64 ≢ index % 64 = λ (e : k % 64 ≡ index % 64). other (omega arith) in
          ap (λ n. bit_at (get_or (with_mark words index) n 0) (k % 64)) same
          ∙ ap (λ w. bit_at w (k % 64)) (get_or-set_same words (index / 64) _ 0 (omega arith))
          ∙ bit_at_set_other w64 (get_or words (index / 64) 0) (index % 64) (omega arith) (k % 64) apart
          ∙ ap (λ n. bit_at (get_or words n 0) (k % 64)) (sym same)
      | inr apart ↦ ap (λ w. bit_at w (k % 64)) (get_or-set_other words (index / 64) (k / 64) _ 0 apart)
    ]

-- one mark less
abbrev pub without_mark : List ℕ → ℕ → List ℕ
without_mark words index = slice_set words (index / 64) (bit_and (get_or words (index / 64) 0) (bit_not w64 (1 * 2 ^ (index % 64) % 2 ^ 64)))

pub mark_of-without_mark_same : (words : List ℕ) (index : ℕ) → length words ≡ 64 → index < 4096 → mark_of (without_mark words index) index ≡ 0
mark_of-without_mark_same words index size below =
    ap (λ w. bit_at w (index % 64)) (get_or-set_same words (index / 64) _ 0 (omega arith))
    ∙ bit_at_clear_same w64 (get_or words (index / 64) 0) (index % 64) (omega arith)

pub mark_of-without_mark_other : (words : List ℕ) (index k : ℕ) → length words ≡ 64 → index < 4096 → k ≢ index → mark_of (without_mark words index) k ≡ mark_of words k
mark_of-without_mark_other words index k size below other =
    elim (cases_eq (k / 64) (index / 64)) [
      | inl same ↦
          let apart : k % 64 ≢ index % 64 = λ (e : k % 64 ≡ index % 64). other (omega arith) in
          ap (λ n. bit_at (get_or (without_mark words index) n 0) (k % 64)) same
          ∙ ap (λ w. bit_at w (k % 64)) (get_or-set_same words (index / 64) _ 0 (omega arith))
          ∙ bit_at_clear_other w64 (get_or words (index / 64) 0) (index % 64) (omega arith) (k % 64) (omega arith) apart
          ∙ ap (λ n. bit_at (get_or words n 0) (k % 64)) (sym same)
      | inr apart ↦ ap (λ w. bit_at w (k % 64)) (get_or-set_other words (index / 64) (k / 64) _ 0 apart)
    ]

-- the lowest bit of what is left of a word, as a bit of the word
record IsLowest (w s t : ℕ) : Type 0 where
  inside : s + t < 64
  set : bit_at w (s + t) ≡ 1
  below : (i : ℕ) → s ≤ i → i < s + t → bit_at w i ≡ 0

bit_of_rest : (w s i : ℕ) → bit_at (w / 2 ^ s) i ≡ bit_at w (s + i)
bit_of_rest w s i = ap (λ n. n % 2) (shr-shr w s i)

rest_fits : (w s : ℕ) → w < 2 ^ 64 → s < 64 → w / 2 ^ s < 2 ^ 64
rest_fits w s small inside = let e = shr_le w s in omega (arith, e)

lowest : (w s : ℕ) → w < 2 ^ 64 → s < 64 → 0 < w / 2 ^ s → IsLowest w s (trailing_zeros w64 (w / 2 ^ s))
lowest w s small start some =
    let t : ℕ = trailing_zeros w64 (w / 2 ^ s) in
    let is = bit_at-trailing_zeros w64 (w / 2 ^ s) some (rest_fits w s small start) in
    let set : bit_at w (s + t) ≡ 1 = sym (bit_of_rest w s t) ∙ is.1 in
    let inside : s + t < 64 = elim (cases_lt (s + t) 64) [ inl l ↦ l | inr high ↦ absurd (let none = bit_at_above w 64 (s + t) small high in omega (arith, none, set)) ] in
    record {
      inside = inside;
      set = set;
      below = λ i from to.
          let place : s + (i - s) ≡ i = omega arith in
          ap (bit_at w) (sym place) ∙ sym (bit_of_rest w s (i - s)) ∙ is.2 (i - s) (omega arith);
    }

-- it is the next mark, where the words before it have none
next_from : (words : List ℕ) (from n s : ℕ) (t : ℕ) → n < 64 → IsLowest (get_or words n 0) s t → from ≤ n * 64 + s → ((k : ℕ) → from ≤ k → k < n * 64 + s → mark_of words k ≡ 0) → IsNextMark words from (Some (n * 64 + s + t))
next_from words from n s t inside is start none =
    let at_word : (k : ℕ) → k / 64 ≡ n → mark_of words k ≡ bit_at (get_or words n 0) (k % 64) = λ (k : ℕ) (e : k / 64 ≡ n). ap (λ m. bit_at (get_or words m 0) (k % 64)) e in
    let fits = is.inside in
    let place : (n * 64 + s + t) % 64 ≡ s + t = omega arith in
    let set : mark_of words (n * 64 + s + t) ≡ 1 = at_word (n * 64 + s + t) (omega arith) ∙ ap (bit_at (get_or words n 0)) place ∙ is.set in
    let below : (k : ℕ) → from ≤ k → k < n * 64 + s + t → mark_of words k ≡ 0 =
    λ (k : ℕ) (a : from ≤ k) (b : k < n * 64 + s + t). elim (cases_lt k (n * 64 + s)) [
      | inl l ↦ none k a l
      | inr r ↦ at_word k (omega arith) ∙ is.below (k % 64) (omega arith) (omega arith)
    ]
    in
    (omega arith, omega arith, set, below)

-- in the word of the index itself, and in a later word
pub next_in_rest : (words : List ℕ) (from : ℕ) → from < 4096 → get_or words (from / 64) 0 < 2 ^ 64 → 0 < get_or words (from / 64) 0 / 2 ^ (from % 64) → IsNextMark words from (Some (from + trailing_zeros w64 (get_or words (from / 64) 0 / 2 ^ (from % 64))))
next_in_rest words from below small some =
    let t : ℕ = trailing_zeros w64 (get_or words (from / 64) 0 / 2 ^ (from % 64)) in
    let place : from / 64 * 64 + from % 64 + t ≡ from + t = omega arith in
    subst (λ n. IsNextMark words from (Some n)) place
    (next_from words from (from / 64) (from % 64) t (omega arith) (lowest (get_or words (from / 64) 0) (from % 64) small (omega arith) some) (omega arith) (λ k a b. absurd (omega arith)))

pub next_in_word : (words : List ℕ) (from n : ℕ) → n < 64 → get_or words n 0 < 2 ^ 64 → 0 < get_or words n 0 → from ≤ n * 64 → ((k : ℕ) → from ≤ k → k < n * 64 → mark_of words k ≡ 0) → IsNextMark words from (Some (n * 64 + trailing_zeros w64 (get_or words n 0)))
next_in_word words from n below small some start none =
    let w : ℕ = get_or words n 0 in
    let t : ℕ = trailing_zeros w64 w in
    let is = bit_at-trailing_zeros w64 w some small in
    let least : IsLowest w 0 t = record {
      inside = omega (arith, is.0);
      set = ap (bit_at w) (let e : 0 + t ≡ t = omega arith in e) ∙ is.1;
      below = λ i from to. is.2 i (omega arith);
    } in
    let place : n * 64 + 0 + t ≡ n * 64 + t = omega arith in
    subst (λ m. IsNextMark words from (Some m)) place (next_from words from n 0 t below least (omega arith) (λ k a b. none k a (omega arith)))

-- no mark is left in the word of the index
pub none_in_rest : (words : List ℕ) (from k : ℕ) → get_or words (from / 64) 0 / 2 ^ (from % 64) ≡ 0 → from ≤ k → k < (from / 64 + 1) * 64 → mark_of words k ≡ 0
none_in_rest words from k none start inside =
    let same : k / 64 ≡ from / 64 = omega arith in
    let place : from % 64 + (k % 64 - from % 64) ≡ k % 64 = omega arith in
    ap (λ n. bit_at (get_or words n 0) (k % 64)) same
    ∙ ap (bit_at (get_or words (from / 64) 0)) (sym place)
    ∙ sym (bit_of_rest (get_or words (from / 64) 0) (from % 64) (k % 64 - from % 64))
    ∙ ap (λ w. bit_at w (k % 64 - from % 64)) none
    ∙ bit_at-zero (k % 64 - from % 64)
