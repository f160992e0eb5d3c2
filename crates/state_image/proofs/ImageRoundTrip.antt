-- The image of a state is the bytes that the state was taken from.
use Rattle.std.proofs.Common.{◌≡◌, ◌==◌, ℕ, zero, suc, ◌+◌, ◌*◌, ◌<◌, ◌≤◌, Bool, true, false, not, codes, List, [], ◌∷◌, ◌++◌, length, get_or, take, drop, map, inl, inr, refl, sym, ap, ◌∙◌, subst, arith}
use Rattle.std.proofs.lemmas.Bool.{cases_lt}
use Rattle.std.proofs.lemmas.List.{get_or-take, get_or-drop, get_or_past, length-take, length-take-le, length-drop, length-map, take_all, take-append-drop, drop-drop}
use Rattle.std.proofs.lemmas.List.FromFn.{length-range_with_len}
use Rattle.std.proofs.lemmas.Slice.Eq.{bytes_eq-Decides}
use Rattle.std.proofs.Math.Seq.{take-add}
use Rattle.std.proofs.lemmas.Nat.{le_bytes_4, le_bytes_8}
use Rattle.std.specs.Int.{to_le_bytes, from_le_bytes, w32, w64}
use Rattle.std.specs.List.{All, flat_map, list_all, range_with_len}
use Rattle.rv_pages.specs.Memory.{Memory, page_numbers, page_bytes, IsMemory, IsZeroPage}
use Rattle.rv_machine.specs.MachineState.{MachineState}
use Rattle.state_image.specs.Image.{image, header, pages_stored, page_field, is_stored, status_kind, status_value}
use Rattle.state_image.specs.ImageForm.{part, number_at, page_count, page_start, page_number, page_part, numbers_in}
use Rattle.state_image.specs.Decoder.{IsRight, AreMapped, IsStateOf}
use Rattle.state_image.proofs.RightFields.{apart}
use Rattle.state_image.proofs.HashedPages.{zero_not_stored}
use Rattle.state_image.proofs.Members.{Mem, filter_is, up_increasing, mem_contained, place_of, mem_from, from_mem, decided, up_from}

abbrev pub IsBytes : List ℕ → Type 0
IsBytes bytes = (i : ℕ) → get_or bytes i 0 < 256

pub bytes_of : (bytes : List ℕ) → All (λ b. b < 256) bytes → IsBytes bytes
bytes_of bytes h i = elim (cases_lt i (length bytes)) [
  | inl low ↦ h i 0 low
  | inr past ↦ subst (λ b. b < 256) (sym (get_or_past bytes i 0 past)) (omega arith)
]

module _ (bytes : List ℕ) (small : IsBytes bytes) where
  pub part_small : (at n i : ℕ) → get_or (part bytes at n) i 0 < 256
  part_small at n i = elim (cases_lt i n) [
    | inl low ↦ rw (get_or-take n (drop at bytes) i 0 low) (rw get_or-drop (small (at + i)))
    | inr past ↦ rw (get_or_past (part bytes at n) i 0 (omega (arith, past, length-take n (drop at bytes)))) (omega arith)
  ]

  pub part_long : (at n : ℕ) → at + n ≤ length bytes → length (part bytes at n) ≡ n
  part_long at n fits = length-take-le n (drop at bytes) (omega (arith, fits, length-drop at bytes))

  -- a number is spelled as it stood
  word_again : (at w : ℕ) → at + 4 ≤ length bytes → w ≡ number_at bytes at → to_le_bytes w32 w ≡ part bytes at 4
  word_again at w fits is = le_bytes_4 (part bytes at 4) w (part_long at 4 fits) (part_small at 4) is

  long_again : (at w : ℕ) → at + 8 ≤ length bytes → w ≡ from_le_bytes w64 (part bytes at 8) → to_le_bytes w64 w ≡ part bytes at 8
  long_again at w fits is = le_bytes_8 (part bytes at 8) w (part_long at 8 fits) (part_small at 8) is

  -- parts that stand one after the other
  front : (at n : ℕ) → take at bytes ++ part bytes at n ≡ take (at + n) bytes
  front at n = sym (take-add at n bytes)

  joined : (at n m : ℕ) → part bytes at n ++ part bytes (at + n) m ≡ part bytes at (n + m)
  joined at n m = ap (λ xs. part bytes at n ++ take m xs) (sym (drop-drop n at bytes)) ∙ sym (take-add n m (drop at bytes))

  words_again : (xs : List ℕ) (at : ℕ) → ((k : ℕ) → k < length xs → get_or xs k 0 ≡ number_at bytes (at + 4 * k)) → at + 4 * length xs ≤ length bytes → flat_map (to_le_bytes w32) xs ≡ part bytes at (4 * length xs)
  words_again [] at is fits = refl
  words_again (x ∷ xs) at is fits =
      let first : at + 4 * 0 ≡ at = omega arith in
      let here : x ≡ number_at bytes at = is 0 (omega arith) ∙ ap (number_at bytes) first in
      let rest = words_again xs (at + 4) (λ k low. let there : at + 4 * suc k ≡ at + 4 + 4 * k = omega arith in is (suc k) (omega arith) ∙ ap (number_at bytes) there) (omega (arith, fits)) in
      let size : 4 + 4 * length xs ≡ 4 * suc (length xs) = omega arith in
      (λ i. word_again at x (omega (arith, fits)) here i ++ rest i) ∙ joined at 4 (4 * length xs) ∙ ap (part bytes at) size

  module _ (m : Memory) where
    -- pages are spelled as they stood
    pages_again : (n from : ℕ) → ((k : ℕ) → from ≤ k → k < from + n → page_bytes m (page_number bytes k) ≡ page_part bytes k) → page_start (from + n) ≤ length bytes →
        flat_map (page_field m) (map (page_number bytes) (range_with_len from n)) ≡ part bytes (page_start from) (4100 * n)
    pages_again zero from are fits = refl
    pages_again (suc n) from are fits =
        let number = word_again (page_start from) (page_number bytes from) (omega (arith, fits)) refl in
        let page = are from (omega arith) (omega arith) in
        let rest = pages_again n (from + 1) (λ k low high. are k (omega (arith, low)) (omega (arith, high))) (omega (arith, fits)) in
        let next : page_start (from + 1) ≡ page_start from + 4100 = omega arith in
        let size : 4100 + 4100 * n ≡ 4100 * suc n = omega arith in
        (λ i. (number i ++ page i) ++ rest i)
        ∙ (λ i. joined (page_start from) 4 4096 i ++ part bytes (next i) (4100 * n))
        ∙ joined (page_start from) 4100 (4100 * n)
        ∙ ap (part bytes (page_start from)) size

  -- a state that was taken from bytes with nothing wrong
  module _ (right : IsRight bytes) (s : MachineState) (is : IsStateOf bytes s) (memory : IsMemory s.memory) (mapped : AreMapped bytes (page_numbers s.memory)) where
    abbrev count : ℕ
    count = page_count bytes

    abbrev ns : List ℕ
    ns = page_numbers s.memory

    stored_true : (page : ℕ) → list_all (λ b. b == 0) (page_bytes s.memory page) ≡ false → is_stored s.memory page ≡ true
    stored_true page none = ap not none

    not_both : (b : Bool) → b ≡ true → b ≡ false → ⊥
    not_both b p q = cc

    -- the pages that aren't all zero are those of the bytes
    stored_are : pages_stored s.memory ≡ numbers_in bytes
    stored_are = filter_is (is_stored s.memory) ns (numbers_in bytes)
        (up_increasing ns memory.ascending)
        (up_from (page_number bytes) count (apart bytes right) count 0 (omega arith))
        (λ x m. let there = mem_from (page_number bytes) count 0 x m in
        subst (Mem ns) there.1.1 (mem_contained ns (page_number bytes there.0) (mapped there.0 (omega (arith, there.1.0)))))
        (λ n m stored. elim (decided (page_number bytes) count n) [
          | inl there ↦ subst (Mem (numbers_in bytes)) there.1.1 (from_mem (page_number bytes) count 0 there.0 (omega arith) (omega (arith, there.1.0)))
          | inr unnamed ↦
              let place = place_of ns n m in
              let zero : IsZeroPage s.memory (get_or ns place.0 0) = is.memory.others place.0 place.1.0 (λ k low e. unnamed k low (e ∙ place.1.1)) in
              absurd (not_both (is_stored s.memory n) stored (ap (is_stored s.memory) (sym place.1.1) ∙ zero_not_stored s.memory (get_or ns place.0 0) zero))
        ])
        (λ x m. let there = mem_from (page_number bytes) count 0 x m in
        let low : there.0 < count = omega (arith, there.1.0) in
        let full = stored_true (page_number bytes there.0) (ap (list_all (λ b. b == 0)) (is.memory.named there.0 low) ∙ (right.pages there.0 low).stored) in
        subst (λ n. is_stored s.memory n ≡ true) there.1.1 full)

    counted : length (pages_stored s.memory) ≡ page_count bytes
    counted = ap length stored_are ∙ length-map (range_with_len 0 count) (page_number bytes) ∙ length-range_with_len 0 count

    registers_long : length (drop 1 s.registers) ≡ 31
    registers_long = (let e = length-drop 1 s.registers in let size = is.registers.size in omega (arith, e, size))

    registers_again : flat_map (to_le_bytes w32) (drop 1 s.registers) ≡ part bytes 12 124
    registers_again =
        let long = registers_long in
        let whole = right.whole in
        words_again (drop 1 s.registers) 12
        (λ k low. let next : 1 + k ≡ k + 1 = omega arith in get_or-drop 1 s.registers k 0 ∙ ap (λ i. get_or s.registers i 0) next ∙ is.registers.words k (omega (arith, low, long)))
        (omega (arith, long, whole))
        ∙ ap (λ n. part bytes 12 (4 * n)) long

    header_again : header s ≡ take 164 bytes
    header_again =
        let whole = right.whole in
        let h4 : codes "RVST" ≡ take 4 bytes = (bytes_eq-Decides (codes "RVST") (take 4 bytes)).0 right.letters in
        let h8 = (λ i. h4 i ++ word_again 4 1 (omega (arith, whole)) (sym right.version) i) ∙ front 4 4 in
        let h12 = (λ i. h8 i ++ word_again 8 s.pc (omega (arith, whole)) is.pc i) ∙ front 8 4 in
        let h136 = (λ i. h12 i ++ registers_again i) ∙ front 12 124 in
        let h140 = (λ i. h136 i ++ word_again 136 (status_kind s.status) (omega (arith, whole)) is.kind i) ∙ front 136 4 in
        let h144 = (λ i. h140 i ++ word_again 140 (status_value s.status) (omega (arith, whole)) is.value i) ∙ front 140 4 in
        let h148 = (λ i. h144 i ++ word_again 144 s.item (omega (arith, whole)) is.item i) ∙ front 144 4 in
        let h152 = (λ i. h148 i ++ word_again 148 s.offset (omega (arith, whole)) is.offset i) ∙ front 148 4 in
        let h160 = (λ i. h152 i ++ long_again 152 s.written (omega (arith, whole)) is.written i) ∙ front 152 8 in
        (λ i. h160 i ++ word_again 160 (length (pages_stored s.memory)) (omega (arith, whole)) counted i) ∙ front 160 4

    pages_are : flat_map (page_field s.memory) (pages_stored s.memory) ≡ drop 164 bytes
    pages_are =
        let end = right.end in
        let size : length (drop 164 bytes) ≡ 4100 * count = omega (arith, end, length-drop 164 bytes) in
        let up : 0 + count ≡ count = omega arith in
        ap (flat_map (page_field s.memory)) stored_are
        ∙ pages_again s.memory count 0 (λ k low high. is.memory.named k (omega (arith, high))) (omega (arith, end))
        ∙ take_all (4100 * count) (drop 164 bytes) (omega (arith, size))

    pub image_again : image s ≡ bytes
    image_again = (λ i. header_again i ++ pages_are i) ∙ take-append-drop 164 bytes
