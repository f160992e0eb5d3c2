-- Pages as those that aren't named are made zero, and those that are named are copied.
use Rattle.std.proofs.Common.{◌≡◌, ◌≢◌, ℕ, ◌+◌, ◌<◌, ◌≤◌, Bool, true, false, List, length, get_or, set, Option, Some, None, IsSome, Contains, inl, inr, refl, sym, ap, ◌∙◌, subst, arith}
use Rattle.std.proofs.lemmas.Bool.{cases_lt, cases_eq}
use Rattle.std.proofs.lemmas.List.{get_or_default, get_or-set_other}
use Rattle.std.specs.List.{All}
use Rattle.rv_pages.specs.Memory.{Memory, page_numbers, page_bytes, IsZeroPage, IsPlaceOf, KeepsPagesBut}
use Rattle.state_image.specs.ImageForm.{page_count, page_number, page_part}
use Rattle.state_image.specs.Decoder.{IsRight, IsUnnamed, AreMapped, MarksNamed}
use Rattle.state_image.proofs.RightFields.{apart}

by_cases : (b : Bool) → (b ≡ true → ⊥) → b ≡ false
by_cases true h = absurd (h refl)
by_cases false h = refl

not_both : (b : Bool) → b ≡ true → b ≡ false → ⊥
not_both b p q = cc

-- the pages below an index that aren't named are zero
abbrev pub AreCleared : Memory → List ℕ → List Bool → ℕ → Type 0
AreCleared m ns named to = (j : ℕ) → j < to → get_or named j false ≡ false → IsZeroPage m (get_or ns j 0)

module _ (m : Memory) (ns : List ℕ) (named : List Bool) (from to : ℕ) (mapped : page_numbers m ≡ ns) where
  -- pages that were passed over
  pub passed : AreCleared m ns named from → ((k : ℕ) → from ≤ k → k < to → IsZeroPage m (get_or (page_numbers m) k 0)) → AreCleared m ns named to
  passed before between j low unnamed = elim (cases_lt j from) [
    | inl l ↦ before j l unnamed
    | inr r ↦ subst (λ (ns : List ℕ). IsZeroPage m (get_or ns j 0)) mapped (between j r low)
  ]

  -- one more page that was made zero
  pub cleared : (m' : Memory) → to < length ns → AreCleared m ns named to → IsZeroPage m' (get_or (page_numbers m) to 0) → KeepsPagesBut to m m' → AreCleared m' ns named (to + 1)
  cleared m' inside before zero keeps j low unnamed = elim (cases_eq j to) [
    | inl e ↦ subst (λ (ns : List ℕ). IsZeroPage m' (get_or ns j 0)) mapped (subst (λ k. IsZeroPage m' (get_or (page_numbers m) k 0)) (sym e) zero)
    | inr other ↦
        let there : j < length (page_numbers m) = omega (arith, low, inside, ap length mapped) in
        let same : page_bytes m' (get_or ns j 0) ≡ page_bytes m (get_or ns j 0) =
        subst (λ (ns : List ℕ). page_bytes m' (get_or ns j 0) ≡ page_bytes m (get_or ns j 0)) mapped (keeps j there other) in
        subst (All (λ (b : ℕ). b ≡ 0)) (sym same) (before j (omega (arith, low, other)) unnamed)
  ]

  -- one more page that is named
  pub kept : AreCleared m ns named to → get_or named to false ≡ true → AreCleared m ns named (to + 1)
  kept before is j low unnamed = elim (cases_eq j to) [
    | inl e ↦ absurd (not_both (get_or named to false) is (ap (λ k. get_or named k false) (sym e) ∙ unnamed))
    | inr other ↦ before j (omega (arith, low, other)) unnamed
  ]

-- a number that is among the mapped ones has a place
pub has_place : (ns : List ℕ) (n : ℕ) (o : Option ℕ) → IsPlaceOf ns n o → Contains ns n → IsSome o
has_place ns n None none there = absurd (none there.0 there.1 (get_or_default ns there.0 0 n there.1 ∙ there.2))
has_place ns n (Some k) place there = refl

-- pages of which the first of the bytes' are copied
pub record AreCopied (bytes : List ℕ) (before now : Memory) (to : ℕ) : Type 0 where
  pub pages : page_numbers now ≡ page_numbers before
  pub named : (j : ℕ) → j < to → page_bytes now (page_number bytes j) ≡ page_part bytes j
  pub others : (i : ℕ) → i < length (page_numbers before) → IsUnnamed bytes (get_or (page_numbers before) i 0) → page_bytes now (get_or (page_numbers before) i 0) ≡ page_bytes before (get_or (page_numbers before) i 0)

module _ (bytes : List ℕ) (right : IsRight bytes) (before m m' : Memory) (k index : ℕ) (low : k < page_count bytes) (mapped : AreMapped bytes (page_numbers before)) (is : AreCopied bytes before m k) (inside : index < length (page_numbers m)) (at : get_or (page_numbers m) index 0 ≡ page_number bytes k) (same : page_numbers m' ≡ page_numbers m) (page : page_bytes m' (get_or (page_numbers m) index 0) ≡ page_part bytes k) (keeps : KeepsPagesBut index m m') where
  copied_named : (j : ℕ) → j < k + 1 → page_bytes m' (page_number bytes j) ≡ page_part bytes j
  copied_named j less = elim (cases_eq j k) [
    | inl e ↦ ap (λ n. page_bytes m' (page_number bytes n)) e ∙ ap (page_bytes m') (sym at) ∙ page ∙ ap (page_part bytes) (sym e)
    | inr other ↦
        let below : j < k = omega (arith, less, other) in
        let there = mapped j (omega (arith, below, low)) in
        let in_before : get_or (page_numbers before) there.0 0 ≡ page_number bytes j = get_or_default (page_numbers before) there.0 0 (page_number bytes j) there.1 ∙ there.2 in
        let here : get_or (page_numbers m) there.0 0 ≡ page_number bytes j = ap (λ ns. get_or ns there.0 0) is.pages ∙ in_before in
        let up = apart bytes right j k below low in
        let differ : there.0 ≢ index = λ (e : there.0 ≡ index). (let both = sym here ∙ ap (λ i. get_or (page_numbers m) i 0) e ∙ at in omega (arith, both, up)) in
        let fits : there.0 < length (page_numbers m) = omega (arith, there.1, ap length is.pages) in
        ap (page_bytes m') (sym here) ∙ keeps there.0 fits differ ∙ ap (page_bytes m) here ∙ is.named j below
  ]

  copied_others : (i : ℕ) → i < length (page_numbers before) → IsUnnamed bytes (get_or (page_numbers before) i 0) → page_bytes m' (get_or (page_numbers before) i 0) ≡ page_bytes before (get_or (page_numbers before) i 0)
  copied_others i fits unnamed =
      let here : get_or (page_numbers m) i 0 ≡ get_or (page_numbers before) i 0 = ap (λ ns. get_or ns i 0) is.pages in
      let differ : i ≢ index = λ (e : i ≡ index). unnamed k low (sym at ∙ ap (λ n. get_or (page_numbers m) n 0) (sym e) ∙ here) in
      let inside_too : i < length (page_numbers m) = omega (arith, fits, ap length is.pages) in
      ap (page_bytes m') (sym here) ∙ keeps i inside_too differ ∙ ap (page_bytes m) here ∙ is.others i fits unnamed

  pub copied_more : AreCopied bytes before m' (k + 1)
  copied_more = record { pages = same ∙ is.pages; named = copied_named; others = copied_others }

-- one more mark
pub marks_more : (bytes ns : List ℕ) (named : List Bool) (k index : ℕ) → k < page_count bytes → index < length named → get_or ns index 0 ≡ page_number bytes k → MarksNamed bytes ns named → MarksNamed bytes ns (set named index true)
marks_more bytes ns named k index low inside at marks i is = elim (cases_eq i index) [
  | inl e ↦ (k, (low, sym at ∙ ap (λ n. get_or ns n 0) (sym e)))
  | inr other ↦ marks i (sym (get_or-set_other named index i true false other) ∙ is)
]

-- a page that isn't marked, since the bytes don't name it
not_marked : (bytes ns : List ℕ) (named : List Bool) (i : ℕ) → MarksNamed bytes ns named → IsUnnamed bytes (get_or ns i 0) → get_or named i false ≡ false
not_marked bytes ns named i marks unnamed = by_cases (get_or named i false) (λ is. (let there = marks i is in unnamed there.0 there.1.0 there.1.1))

-- the pages that the bytes don't name are zero in the end
pub others_zero : (bytes : List ℕ) (m before after : Memory) (named : List Bool) → MarksNamed bytes (page_numbers m) named → page_numbers before ≡ page_numbers m → page_numbers after ≡ page_numbers before →
    AreCleared before (page_numbers m) named (length (page_numbers m)) →
    ((i : ℕ) → i < length (page_numbers before) → IsUnnamed bytes (get_or (page_numbers before) i 0) → page_bytes after (get_or (page_numbers before) i 0) ≡ page_bytes before (get_or (page_numbers before) i 0)) →
    (i : ℕ) → i < length (page_numbers after) → IsUnnamed bytes (get_or (page_numbers after) i 0) → IsZeroPage after (get_or (page_numbers after) i 0)
others_zero bytes m before after named marks same same' zero others i low unnamed =
    let at' : get_or (page_numbers after) i 0 ≡ get_or (page_numbers before) i 0 = ap (λ ns. get_or ns i 0) same' in
    let at : get_or (page_numbers before) i 0 ≡ get_or (page_numbers m) i 0 = ap (λ ns. get_or ns i 0) same in
    let low' : i < length (page_numbers before) = omega (arith, low, ap length same') in
    let unnamed' : IsUnnamed bytes (get_or (page_numbers before) i 0) = λ k l e. unnamed k l (e ∙ sym at') in
    let unmarked = not_marked bytes (page_numbers m) named i marks (λ k l e. unnamed' k l (e ∙ sym at)) in
    let cleared : IsZeroPage before (get_or (page_numbers before) i 0) = subst (IsZeroPage before) (sym at) (zero i (omega (arith, low', ap length same)) unmarked) in
    subst (IsZeroPage after) (sym at') (subst (All (λ (b : ℕ). b ≡ 0)) (sym (others i low' unnamed')) cleared)
