-- The bytes before the place that is wrong are the beginning of an image.
use Rattle.std.proofs.Common.{◌≡◌, ℕ, zero, suc, ◌+◌, ◌-◌, ◌*◌, ◌%◌, ◌<◌, ◌≤◌, true, nat_eq, codes, List, ◌++◌, length, get_or, take, drop, replicate, Some, ◌⊎◌, inl, inr, refl, sym, ap, ◌∙◌, subst, arith}
use Rattle.std.proofs.lemmas.Bool.{cases_lt}
use Rattle.std.proofs.lemmas.List.{length-append, length-drop, length-take-le, get_or-replicate, get_or-drop, get_or_past, take_at, drop-drop}
use Rattle.std.specs.Int.{to_le_bytes, from_le_bytes, w32}
use Rattle.std.specs.List.{All, starts_with}
use Rattle.rv_machine.specs.MachineState.{MachineState, IsMachineState}
use Rattle.state_image.specs.Image.{image}
use Rattle.state_image.specs.ImageForm.{number_at, is_value, page_start, page_count, first_wrong, HasNumbersLeft}
use Rattle.state_image.specs.Decoder.{IsRight}
use Rattle.state_image.proofs.Images.{part_past}
use Rattle.state_image.proofs.ImageRoundTrip.{IsBytes, bytes_of, part_small}
use Rattle.state_image.proofs.DecodedState.{state, machine, spelled}
use Rattle.state_image.proofs.ImageCompletion.{number_same, letters_same, small_append, Completes, fill_up}
use Rattle.state_image.proofs.FaultPlace.{IsRightBefore, is_right_before, place}

-- ---- a place in the header: what follows is that of a header with zeros and no pages

abbrev zeros : List ℕ
zeros = codes "RVST" ++ to_le_bytes w32 1 ++ replicate 156 0

small_front : IsBytes (codes "RVST" ++ to_le_bytes w32 1)
small_front i = elim (cases_lt i 8) [
  | inl low ↦ first i low
  | inr past ↦ subst (λ b. b < 256) (sym (get_or_past (codes "RVST" ++ to_le_bytes w32 1) i 0 past)) (omega arith)
]
  where
    first : (i : ℕ) → i < 8 → get_or (codes "RVST" ++ to_le_bytes w32 1) i 0 < 256
    first zero low = omega arith
    first (suc zero) low = omega arith
    first (suc (suc zero)) low = omega arith
    first (suc (suc (suc zero))) low = omega arith
    first (suc (suc (suc (suc zero)))) low = omega arith
    first (suc (suc (suc (suc (suc zero))))) low = omega arith
    first (suc (suc (suc (suc (suc (suc zero)))))) low = omega arith
    first (suc (suc (suc (suc (suc (suc (suc zero))))))) low = omega arith
    first (suc (suc (suc (suc (suc (suc (suc (suc i)))))))) low = absurd (omega (arith, low))

small_zeros : IsBytes zeros
small_zeros = small_append (codes "RVST" ++ to_le_bytes w32 1) (replicate 156 0) small_front (λ i. elim (cases_lt i 156) [
  | inl low ↦ subst (λ b. b < 256) (sym (get_or-replicate 156 i 0 0 low)) (omega arith)
  | inr past ↦ subst (λ b. b < 256) (sym (get_or_past (replicate 156 0) i 0 past)) (omega arith)
])

zero_value : (k : ℕ) → is_value k 0 ≡ true
zero_value zero = refl
zero_value (suc zero) = refl
zero_value (suc (suc k)) = refl

module _ (bytes : List ℕ) (small : IsBytes bytes) (m : ℕ) (low : m ≤ 40) (h : IsRightBefore bytes (4 * m)) where
  abbrev front : List ℕ
  front = take (4 * m) bytes

  abbrev whole : List ℕ
  whole = front ++ drop (4 * m) zeros

  front_long : length front ≡ 4 * m
  front_long = length-take-le (4 * m) bytes h.fits

  whole_long : length whole ≡ 164
  whole_long =
      let long = front_long in
      let size : length zeros ≡ 164 = refl in
      omega (arith, low, long, size, length-append front (drop (4 * m) zeros), length-drop (4 * m) zeros)

  same : take (4 * m) whole ≡ take (4 * m) bytes
  same = take_at front (drop (4 * m) zeros) (4 * m) front_long

  -- a number before the place, and one behind it
  number_or : (q : ℕ) → ((q < m) × (number_at whole (4 * q) ≡ number_at bytes (4 * q))) ⊎ ((m ≤ q) × (number_at whole (4 * q) ≡ number_at zeros (4 * q)))
  number_or q = elim (cases_lt q m) [
    | inl before ↦ inl (before, number_same whole bytes (4 * m) same (4 * q) (omega (arith, before)))
    | inr past ↦ inr (
      past,
      (
          let to : 4 * m + (4 * q - 4 * m) ≡ 4 * q = omega (arith, past) in
          ap (number_at whole) (sym to)
          ∙ ap (from_le_bytes w32) (part_past front (drop (4 * m) zeros) (4 * m) (4 * q - 4 * m) 4 front_long ∙ ap (take 4) (drop-drop (4 * q - 4 * m) (4 * m) zeros))
          ∙ ap (number_at zeros) to),
    )
  ]

  no_pages : page_count whole ≡ 0
  no_pages = elim (number_or 40) [
    | inl before ↦ (let less = before.0 in absurd (omega (arith, low, less)))
    | inr past ↦ past.1
  ]

  right_letters : starts_with nat_eq whole (codes "RVST") ≡ true
  right_letters = elim (cases_lt 0 m) [
    | inl some ↦ letters_same whole bytes (4 * m) same (omega (arith, some)) ∙ h.letters (omega (arith, some))
    | inr none ↦ (let is : m ≡ 0 = omega (arith, none) in ap (λ d. starts_with nat_eq (take (4 * d) bytes ++ drop (4 * d) zeros) (codes "RVST")) is)
  ]

  right_value : is_value (number_at whole 136) (number_at whole 140) ≡ true
  right_value = elim (number_or 35) [
    | inl value ↦
        let less = value.0 in
        elim (number_or 34) [
          | inl kind ↦ (λ i. is_value (kind.1 i) (value.1 i)) ∙ h.value (omega (arith, less))
          | inr kind ↦ (let past = kind.0 in absurd (omega (arith, less, past)))
        ]
    | inr value ↦ ap (is_value (number_at whole 136)) value.1 ∙ zero_value (number_at whole 136)
  ]

  right_whole : IsRight whole
  right_whole = record {
    whole = (let long = whole_long in omega (arith, long));
    letters = right_letters;
    version = elim (number_or 1) [ inl b ↦ (let less = b.0 in b.1 ∙ h.version (omega (arith, less))) | inr b ↦ b.1 ];
    pc = elim (number_or 2) [ inl b ↦ (let less = b.0 in ap (λ x. x % 4) b.1 ∙ h.pc (omega (arith, less))) | inr b ↦ ap (λ x. x % 4) b.1 ];
    kind = elim (number_or 34) [ inl b ↦ (let less = b.0 in subst (λ x. x ≤ 2) (sym b.1) (h.kind (omega (arith, less)))) | inr b ↦ subst (λ x. x ≤ 2) (sym b.1) (omega arith) ];
    value = right_value;
    few = subst (λ x. x ≤ 4096) (sym no_pages) (omega arith);
    pages = λ k less. (let none = no_pages in absurd (omega (arith, none, less)));
    end = whole_long ∙ ap page_start (sym no_pages);
  }

  in_header : Completes front
  in_header = (drop (4 * m) zeros, small_append front (drop (4 * m) zeros) (part_small bytes small 0 (4 * m)) (λ i. rw get_or-drop (small_zeros (4 * m + i))), right_whole)

-- ---- either

at_page : (bytes : List ℕ) → IsBytes bytes → (j : ℕ) → j ≤ page_count bytes → IsRightBefore bytes (page_start j) → HasNumbersLeft bytes (page_start j) → Completes (take (page_start j) bytes)
at_page bytes small j many h left =
    fill_up bytes small j many h.fits
    (record {
      letters = h.letters (omega arith);
      version = h.version (omega arith);
      pc = h.pc (omega arith);
      kind = h.kind (omega arith);
      value = h.value (omega arith);
      few = h.few (omega arith);
    })
    (λ k low. h.pages k (omega (arith, low, many)) (omega (arith, low))) left

pub begins : (bytes : List ℕ) (at : ℕ) → All (λ b. b < 256) bytes → first_wrong bytes ≡ Some at → HasNumbersLeft bytes at → (s : MachineState) × IsMachineState s × (take at (image s) ≡ take at bytes)
begins bytes at all h left =
    let small = bytes_of bytes all in
    let known = is_right_before bytes at h in
    let done : Completes (take at bytes) = elim (place bytes at h) [
      | inl header ↦ subst (λ x. Completes (take x bytes)) (sym header.2) (in_header bytes small header.0 header.1 (subst (IsRightBefore bytes) header.2 known))
      | inr page ↦ subst (λ x. Completes (take x bytes)) (sym page.2) (at_page bytes small page.0 page.1 (subst (IsRightBefore bytes) page.2 known) (subst (HasNumbersLeft bytes) page.2 left))
    ] in
    let whole : List ℕ = take at bytes ++ done.0 in (
      state whole done.1 done.2,
      machine whole done.1 done.2,
      ap (take at) (spelled whole done.1 done.2) ∙ take_at (take at bytes) done.0 at (length-take-le at bytes known.fits),
    )
