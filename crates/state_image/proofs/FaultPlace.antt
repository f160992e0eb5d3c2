-- The bytes before the place that is wrong: what is right there, and what place it is.
use Rattle.std.proofs.Common.{◌≡◌, ℕ, zero, suc, ◌+◌, ◌*◌, ◌%◌, ◌<◌, ◌≤◌, Bool, true, false, cond, nat_eq, codes, List, [], ◌∷◌, length, map, find, Option, Some, None, ◌⊎◌, inl, inr, refl, sym, ◌∙◌, subst, arith}
use Rattle.std.proofs.lemmas.Bool.{cases_lt, eqb-true}
use Rattle.std.specs.List.{AllByRecursion, range_with_len, starts_with}
use Rattle.state_image.specs.ImageForm.{Field, is_wrong, magic, version, pc, kind, value, count, page, number_at, is_value, page_start, page_count, start_or, trailing, first_wrong, fields}
use Rattle.state_image.specs.Decoder.{IsRightPage}
use Rattle.state_image.proofs.FirstWrongField.{trailing_some, trailing_none}
use Rattle.state_image.proofs.RightFields.{there, right, right_page, at_most}

-- ---- the first field that is wrong, among fields of which each starts where the one before ends

same_number : (a b : ℕ) → Some a ≡ Some b → a ≡ b
same_number a b e = cc

none_some : (a : ℕ) → None ≡ Some a → ⊥
none_some a e = cc

abbrev Chained : ℕ → List Field → Type 0
Chained low [] = Unit {0}
Chained low (f ∷ fs) = (f.start ≡ low) × Chained (f.start + f.size) fs

module _ (p : Field → Bool) (other : Option ℕ) (at : ℕ) where
  here_or_later : (f : Field) (fs : List Field) → start_or (find p (f ∷ fs)) other ≡ Some at → (f.start ≡ at) ⊎ ((p f ≡ false) × (start_or (find p fs) other ≡ Some at))
  here_or_later f fs h =
      elim (p f) as (λ b. start_or (cond b (Some f) (find p fs)) other ≡ Some at → (f.start ≡ at) ⊎ ((b ≡ false) × (start_or (find p fs) other ≡ Some at))) [
        | true ↦ λ h. inl (same_number f.start at h)
        | false ↦ λ h. inr (refl, h)
      ] h

  past_it : (fs : List Field) (low : ℕ) → Chained low fs → at ≤ low → AllByRecursion (λ f. f.start < at → p f ≡ false) fs
  past_it [] low chain past = tt
  past_it (f ∷ fs) low chain past = (let from = chain.0 in ((λ less. absurd (omega (arith, from, less, past))), past_it fs (f.start + f.size) chain.1 (omega (arith, from, past))))

  -- the fields that start before it are right
  right_before : (fs : List Field) (low : ℕ) → Chained low fs → start_or (find p fs) other ≡ Some at → AllByRecursion (λ f. f.start < at → p f ≡ false) fs
  right_before [] low chain h = tt
  right_before (f ∷ fs) low chain h = elim (here_or_later f fs h) [
    | inl here ↦ ((λ less. absurd (omega (arith, here, less))), past_it fs (f.start + f.size) chain.1 (omega (arith, here)))
    | inr on ↦ ((λ less. on.0), right_before fs (f.start + f.size) chain.1 on.1)
  ]

  -- those before it are all there
  all_there : (size : ℕ) (fs : List Field) (low : ℕ) → Chained low fs → ((f : Field) → p f ≡ false → f.start + f.size ≤ size) → (other ≡ Some at → at ≤ size) → low ≤ size → start_or (find p fs) other ≡ Some at → at ≤ size
  all_there size [] low chain each last fits h = last h
  all_there size (f ∷ fs) low chain each last fits h = elim (here_or_later f fs h) [
    | inl here ↦ (let from = chain.0 in omega (arith, from, here, fits))
    | inr on ↦ all_there size fs (f.start + f.size) chain.1 each last (each f on.0) on.1
  ]

  -- it is the start of one of them
  place_of : (P : ℕ → Type 0) (fs : List Field) → AllByRecursion (λ f. P f.start) fs → (other ≡ Some at → P at) → start_or (find p fs) other ≡ Some at → P at
  place_of P [] each last h = last h
  place_of P (f ∷ fs) each last h = elim (here_or_later f fs h) [
    | inl here ↦ subst P here each.0
    | inr on ↦ place_of P fs each.1 last on.1
  ]

chained_pages : (n from : ℕ) → Chained (page_start from) (map page (range_with_len from n))
chained_pages zero from = tt
chained_pages (suc n) from =
    let next : page_start (from + 1) ≡ page_start from + 4100 = omega arith in
    (refl, subst (λ low. Chained low (map page (range_with_len (from + 1) n))) next (chained_pages n (from + 1)))

page_among : (Q : Field → Type 0) (n from k : ℕ) → k < n → AllByRecursion Q (map page (range_with_len from n)) → Q (page (from + k))
page_among Q zero from k low h = absurd (omega arith)
page_among Q (suc n) from zero low h = (let here : from ≡ from + 0 = omega arith in subst (λ m. Q (page m)) here h.0)
page_among Q (suc n) from (suc k) low h = (let there : from + 1 + k ≡ from + suc k = omega arith in subst (λ m. Q (page m)) there (page_among Q n (from + 1) k (omega arith) h.1))

-- a place in the header where a field starts, or the start of one of so many pages, or their end
abbrev pub IsPlace : ℕ → ℕ → Type 0
IsPlace n at = ((m : ℕ) × (m ≤ 40) × (at ≡ 4 * m)) ⊎ ((j : ℕ) × (j ≤ n) × (at ≡ page_start j))

page_places : (all n from : ℕ) → from + n ≤ all → AllByRecursion (λ f. IsPlace all f.start) (map page (range_with_len from n))
page_places all zero from fits = tt
page_places all (suc n) from fits = (inr (from, omega (arith, fits), refl), page_places all n (from + 1) (omega (arith, fits)))

header_place : (n at m : ℕ) → m ≤ 40 → at ≡ 4 * m → IsPlace n at
header_place n at m low is = inl (m, low, is)

trailing_is : (bytes : List ℕ) (at : ℕ) → trailing bytes ≡ Some at → (page_start (page_count bytes) ≡ at) × (at ≤ length bytes)
trailing_is bytes at h = elim (cases_lt (page_start (page_count bytes)) (length bytes)) [
  | inl low ↦ (let is = same_number (page_start (page_count bytes)) at (trailing_some bytes (page_start (page_count bytes)) refl low ∙ h) in (is, omega (arith, is, low)))
  | inr past ↦ absurd (none_some at (trailing_none bytes (page_start (page_count bytes)) refl past ∙ h))
]

-- ---- what is known of the bytes before it

pub record IsRightBefore (bytes : List ℕ) (at : ℕ) : Type 0 where
  pub fits : at ≤ length bytes
  pub letters : 0 < at → starts_with nat_eq bytes (codes "RVST") ≡ true
  pub version : 4 < at → number_at bytes 4 ≡ 1
  pub pc : 8 < at → number_at bytes 8 % 4 ≡ 0
  pub kind : 136 < at → number_at bytes 136 ≤ 2
  pub value : 140 < at → is_value (number_at bytes 136) (number_at bytes 140) ≡ true
  pub few : 160 < at → page_count bytes ≤ 4096
  pub pages : (k : ℕ) → k < page_count bytes → page_start k < at → IsRightPage bytes k

module _ (bytes : List ℕ) (at : ℕ) (h : first_wrong bytes ≡ Some at) where
  abbrev n : ℕ
  n = page_count bytes

  chain : Chained 0 (fields bytes)
  chain = (refl, (refl, (refl, (refl, (refl, (refl, (refl, (refl, (refl, (refl, chained_pages n 0))))))))))

  before : AllByRecursion (λ f. f.start < at → is_wrong bytes f ≡ false) (fields bytes)
  before = right_before (is_wrong bytes) (trailing bytes) at (fields bytes) 0 chain h

  of_pages : AllByRecursion (λ f. f.start < at → is_wrong bytes f ≡ false) (map page (range_with_len 0 n))
  of_pages = before.1.1.1.1.1.1.1.1.1.1

  pub is_right_before : IsRightBefore bytes at
  is_right_before = record {
    fits = all_there (is_wrong bytes) (trailing bytes) at (length bytes) (fields bytes) 0 chain (there bytes) (λ e. (trailing_is bytes at e).1) (omega arith) h;
    letters = λ less. right bytes magic (before.0 less);
    version = λ less. eqb-true (number_at bytes 4) 1 (right bytes version (before.1.0 less));
    pc = λ less. eqb-true (number_at bytes 8 % 4) 0 (right bytes pc (before.1.1.0 less));
    kind = λ less. at_most (number_at bytes 136) 2 (right bytes kind (before.1.1.1.1.0 less));
    value = λ less. right bytes value (before.1.1.1.1.1.0 less);
    few = λ less. at_most (number_at bytes 160) 4096 (right bytes count (before.1.1.1.1.1.1.1.1.1.0 less));
    pages = λ k low less.
        let up : 0 + k ≡ k = omega arith in
        right_page bytes k (subst (λ m. page_start m < at → is_wrong bytes (page m) ≡ false) up (page_among (λ f. f.start < at → is_wrong bytes f ≡ false) n 0 k low of_pages) less);
  }

  pub place : IsPlace n at
  place = place_of (is_wrong bytes) (trailing bytes) at (IsPlace n) (fields bytes) (
    header_place n 0 0 (omega arith) refl,
    (
      header_place n 4 1 (omega arith) refl,
      (
        header_place n 8 2 (omega arith) refl,
        (
          header_place n 12 3 (omega arith) refl,
          (
            header_place n 136 34 (omega arith) refl,
            (
              header_place n 140 35 (omega arith) refl,
              (
                header_place n 144 36 (omega arith) refl,
                (
                  header_place n 148 37 (omega arith) refl,
                  (header_place n 152 38 (omega arith) refl, (header_place n 160 40 (omega arith) refl, page_places n n 0 (omega arith))),
                ),
              ),
            ),
          ),
        ),
      ),
    ),
  )
      (λ e. inr (n, omega arith, sym (trailing_is bytes at e).0)) h
