-- Nothing is wrong with the image of a state that a machine can be in.
use Rattle.std.proofs.Common.{◌≡◌, ◌==◌, ℕ, zero, suc, ◌+◌, ◌-◌, ◌*◌, ◌%◌, ◌<◌, ◌≤◌, ◌^◌, Bool, true, false, cond, not, ◌||◌, nat_lt, nat_le, codes, None, List, [], ◌∷◌, ◌++◌, length, get_or, take, drop, filter, inl, inr, ⊎_elim, refl, sym, ap, ◌∙◌, subst, arith}
use Rattle.std.proofs.lemmas.Bool.{lt-ltb}
use Rattle.std.proofs.lemmas.List.{length-append, length-drop, take_at, drop_at, drop-append-le, take-append-le, drop-drop}
use Rattle.std.proofs.Math.Seq.{drop-cons, drop-nil}
use Rattle.std.proofs.lemmas.List.Elements.{All-filter, filter_passes}
use Rattle.std.proofs.lemmas.List.Kept.{IsStrictlyIncreasing-filter}
use Rattle.std.proofs.lemmas.Nat.{from_le_bytes-to_le_bytes_4}
use Rattle.std.specs.Int.{to_le_bytes, from_le_bytes, w32, w64}
use Rattle.std.specs.List.{All, AllByRecursion, flat_map, list_all, list_any}
use Rattle.rv_pages.specs.Memory.{page_numbers, page_bytes, IsPage}
use Rattle.rv_machine.specs.declared.status.Status.{Status}
use Rattle.rv_machine.specs.declared.status.Status.TheVariants.{Running, Exited, Trapped}
use Rattle.rv_machine.specs.MachineState.{MachineState, IsStatus, IsMachineState}
use Rattle.state_image.specs.Image.{image, header, pages_stored, page_field, is_stored, status_kind, status_value}
use Rattle.state_image.specs.ImageForm.{part, number_at, is_value, page_count, page_start, page_number, page_part, rises, first_unmapped}
use Rattle.state_image.specs.Decoder.{IsRight, IsRightPage}
use Rattle.state_image.proofs.ImageInjectivity.{kind_below, value_below}
use Rattle.state_image.proofs.FirstWrongField.{none_first, listed}
use Rattle.state_image.proofs.Members.{Mem, mem_at, place_of}

-- ---- numbers in joined lists

pub part_front : (xs ys : List ℕ) (at n : ℕ) → at + n ≤ length xs → part (xs ++ ys) at n ≡ part xs at n
part_front xs ys at n fits =
    ap (take n) (drop-append-le at xs ys (omega (arith, fits))) ∙ take-append-le n (drop at xs) ys (omega (arith, fits, length-drop at xs))

number_front : (xs ys : List ℕ) (at : ℕ) → at + 4 ≤ length xs → number_at (xs ++ ys) at ≡ number_at xs at
number_front xs ys at fits = ap (from_le_bytes w32) (part_front xs ys at 4 fits)

number_end : (xs : List ℕ) (at w : ℕ) → length xs ≡ at → w < 2 ^ 32 → number_at (xs ++ to_le_bytes w32 w) at ≡ w
number_end xs at w long fits = ap (λ ys. from_le_bytes w32 (take 4 ys)) (drop_at xs (to_le_bytes w32 w) at long) ∙ from_le_bytes-to_le_bytes_4 w fits

pub part_past : (xs ys : List ℕ) (at d n : ℕ) → length xs ≡ at → part (xs ++ ys) (at + d) n ≡ part ys d n
part_past xs ys at d n long = ap (take n) (sym (drop-drop d at (xs ++ ys)) ∙ ap (drop d) (drop_at xs ys at long))

words_length : (xs : List ℕ) → length (flat_map (to_le_bytes w32) xs) ≡ 4 * length xs
words_length [] = refl
words_length (x ∷ xs) = (let rest = words_length xs in omega (arith, rest, length-append (to_le_bytes w32 x) (flat_map (to_le_bytes w32) xs)))

-- ---- fields of one size

module _ (f : ℕ → List ℕ) (size : ℕ) where
  abbrev pub Sized : List ℕ → Type 0
  Sized ns = AllByRecursion (λ n. length (f n) ≡ size) ns

  pub fields_length : (ns : List ℕ) → Sized ns → length (flat_map f ns) ≡ size * length ns
  fields_length [] h = omega arith
  fields_length (n ∷ ns) h = (let first = h.0 in let rest = fields_length ns h.1 in let more : size * suc (length ns) ≡ size + size * length ns = omega arith in omega (arith, first, rest, more, length-append (f n) (flat_map f ns)))

  pub drop_fields : (ns : List ℕ) (k : ℕ) → Sized ns → drop (size * k) (flat_map f ns) ≡ flat_map f (drop k ns)
  drop_fields ns zero h = (let none : size * 0 ≡ 0 = omega arith in ap (λ d. drop d (flat_map f ns)) none)
  drop_fields [] (suc k) h = drop-nil (size * suc k)
  drop_fields (n ∷ ns) (suc k) h =
      let more : size * suc k ≡ size + size * k = omega arith in
      ap (λ d. drop d (f n ++ flat_map f ns)) more
      ∙ sym (drop-drop (size * k) size (f n ++ flat_map f ns))
      ∙ ap (drop (size * k)) (drop_at (f n) (flat_map f ns) size h.0)
      ∙ drop_fields ns k h.1

by_recursion : (P : ℕ → Type 0) (xs : List ℕ) → All P xs → AllByRecursion P xs
by_recursion P [] h = tt
by_recursion P (x ∷ xs) h = (h 0 0 (omega arith), by_recursion P xs (λ k d l. h (suc k) d (omega arith)))

or_last : (a b : Bool) → b ≡ true → (a || b) ≡ true
or_last true b h = refl
or_last false b h = h

not_true : (b : Bool) → not b ≡ true → b ≡ false
not_true false h = refl
not_true true h = absurd (cc)

at_most : (a b : ℕ) → a ≤ b → nat_le a b ≡ true
at_most a b h = search (h, arith)

fewer : (p : ℕ → Bool) (ns : List ℕ) → length (filter p ns) ≤ length ns
fewer p [] = omega arith
fewer p (n ∷ ns) = (let rest = fewer p ns in elim (p n) as (λ b. length (cond b (n ∷ filter p ns) (filter p ns)) ≤ suc (length ns)) [ true ↦ omega (arith, rest) | false ↦ omega (arith, rest) ])

value_right : (a : Status) → IsStatus a → is_value (status_kind a) (status_value a) ≡ true
value_right Running h = refl
value_right (Exited code) h = at_most code 255 (omega (arith, h))
value_right (Trapped cause) h = h

kind_right : (a : Status) → status_kind a ≤ 2
kind_right Running = omega arith
kind_right (Exited code) = omega arith
kind_right (Trapped cause) = omega arith

module _ (s : MachineState) (h : IsMachineState s) where
  abbrev stored : List ℕ
  stored = pages_stored s.memory

  abbrev body : List ℕ
  body = flat_map (page_field s.memory) stored

  -- the header, up to each of its fields
  abbrev to_registers : List ℕ
  to_registers = codes "RVST" ++ to_le_bytes w32 1 ++ to_le_bytes w32 s.pc ++ flat_map (to_le_bytes w32) (drop 1 s.registers)

  abbrev to_kind : List ℕ
  to_kind = to_registers ++ to_le_bytes w32 (status_kind s.status)

  abbrev to_value : List ℕ
  to_value = to_kind ++ to_le_bytes w32 (status_value s.status)

  abbrev to_item : List ℕ
  to_item = to_value ++ to_le_bytes w32 s.item

  abbrev to_offset : List ℕ
  to_offset = to_item ++ to_le_bytes w32 s.offset

  abbrev to_written : List ℕ
  to_written = to_offset ++ to_le_bytes w64 s.written

  long_registers : length to_registers ≡ 136
  long_registers =
      let size = h.registers in
      let words = words_length (drop 1 s.registers) in
      omega (arith, size, words, length-drop 1 s.registers, length-append (codes "RVST" ++ to_le_bytes w32 1 ++ to_le_bytes w32 s.pc) (flat_map (to_le_bytes w32) (drop 1 s.registers)))

  long_kind : length to_kind ≡ 140
  long_kind = (let l = long_registers in omega (arith, l, length-append to_registers (to_le_bytes w32 (status_kind s.status))))

  long_value : length to_value ≡ 144
  long_value = (let l = long_kind in omega (arith, l, length-append to_kind (to_le_bytes w32 (status_value s.status))))

  long_item : length to_item ≡ 148
  long_item = (let l = long_value in omega (arith, l, length-append to_value (to_le_bytes w32 s.item)))

  long_offset : length to_offset ≡ 152
  long_offset = (let l = long_item in omega (arith, l, length-append to_item (to_le_bytes w32 s.offset)))

  long_written : length to_written ≡ 160
  long_written = (let l = long_offset in omega (arith, l, length-append to_offset (to_le_bytes w64 s.written)))

  long_header : length (header s) ≡ 164
  long_header = (let l = long_written in omega (arith, l, length-append to_written (to_le_bytes w32 (length stored))))

  few : length stored ≤ 4096
  few = (let a = fewer (is_stored s.memory) (page_numbers s.memory) in let b = h.memory.few in omega (arith, a, b))

  count_is : page_count (image s) ≡ length stored
  count_is =
      let few' = few in
      number_front (header s) body 160 (let l = long_header in omega (arith, l))
      ∙ number_end to_written 160 (length stored) long_written (omega (arith, few'))

  -- a number before the last fields
  before_value : (at : ℕ) → at + 4 ≤ 144 → number_at (image s) at ≡ number_at to_value at
  before_value at fits =
      let l1 = long_header in
      let l2 = long_written in
      let l3 = long_offset in
      let l4 = long_item in
      let l5 = long_value in
      number_front (header s) body at (omega (arith, fits, l1))
      ∙ number_front to_written (to_le_bytes w32 (length stored)) at (omega (arith, fits, l2))
      ∙ number_front to_offset (to_le_bytes w64 s.written) at (omega (arith, fits, l3))
      ∙ number_front to_item (to_le_bytes w32 s.offset) at (omega (arith, fits, l4))
      ∙ number_front to_value (to_le_bytes w32 s.item) at (omega (arith, fits, l5))

  value_is : number_at (image s) 140 ≡ status_value s.status
  value_is = before_value 140 (omega arith) ∙ number_end to_kind 140 (status_value s.status) long_kind (value_below s.status h.status)

  kind_is : number_at (image s) 136 ≡ status_kind s.status
  kind_is =
      let l = long_kind in
      before_value 136 (omega arith)
      ∙ number_front to_kind (to_le_bytes w32 (status_value s.status)) 136 (omega (arith, l))
      ∙ number_end to_registers 136 (status_kind s.status) long_registers (kind_below s.status)

  pages : All (IsPage s.memory) stored
  pages = All-filter (is_stored s.memory) (IsPage s.memory) (page_numbers s.memory) h.memory.pages

  sized : AllByRecursion (λ n. length (page_field s.memory n) ≡ 4100) stored
  sized = by_recursion (λ n. length (page_field s.memory n) ≡ 4100) stored (λ k d low. let full = (pages k d low).full in omega (arith, full, length-append (to_le_bytes w32 (get_or stored k d)) (page_bytes s.memory (get_or stored k d))))

  body_at : (k : ℕ) → k < length stored → drop (4100 * k) body ≡ page_field s.memory (get_or stored k 0) ++ flat_map (page_field s.memory) (drop (suc k) stored)
  body_at k low = drop_fields (page_field s.memory) 4100 stored k sized ∙ ap (flat_map (page_field s.memory)) (drop-cons stored k 0 low)

  number_is : (k : ℕ) → k < length stored → page_number (image s) k ≡ get_or stored k 0
  number_is k low =
      let below = (pages k 0 low).below in
      ap (from_le_bytes w32) (part_past (header s) body 164 (4100 * k) 4 long_header ∙ ap (take 4) (body_at k low))
      ∙ from_le_bytes-to_le_bytes_4 (get_or stored k 0) (omega (arith, below))

  part_is : (k : ℕ) → k < length stored → page_part (image s) k ≡ page_bytes s.memory (get_or stored k 0)
  part_is k low =
      let to : page_start k + 4 ≡ 164 + (4100 * k + 4) = omega arith in
      let full = (pages k 0 low).full in
      ap (λ at. part (image s) at 4096) to
      ∙ part_past (header s) body 164 (4100 * k + 4) 4096 long_header
      ∙ ap (take 4096) (sym (drop-drop 4 (4100 * k) body) ∙ ap (drop 4) (body_at k low))
      ∙ take_at (page_bytes s.memory (get_or stored k 0)) (flat_map (page_field s.memory) (drop (suc k) stored)) 4096 full

  image_length : length (image s) ≡ page_start (length stored)
  image_length = (let a = long_header in let b = fields_length (page_field s.memory) 4100 stored sized in omega (arith, a, b, length-append (header s) body))

  up : (k : ℕ) → k < length stored → rises (image s) k ≡ true
  up zero low = refl
  up (suc k) low =
      let before : suc k - 1 ≡ k = omega arith in
      let sorted = IsStrictlyIncreasing-filter (is_stored s.memory) (page_numbers s.memory) h.memory.ascending in
      let next : k + 1 ≡ suc k = omega arith in
      let less : get_or stored k 0 < get_or stored (suc k) 0 = subst (λ i. get_or stored k 0 < get_or stored i 0) next (sorted k (omega (arith, low))) in
      or_last (suc k == 0) _
      (ap (λ n. nat_lt (page_number (image s) n) (page_number (image s) (suc k))) before
      ∙ (λ i. nat_lt (number_is k (omega (arith, low)) i) (number_is (suc k) low i))
      ∙ lt-ltb (get_or stored k 0) (get_or stored (suc k) 0) less)

  right_page : (k : ℕ) → k < length stored → IsRightPage (image s) k
  right_page k low = record {
    there = (let all = image_length in omega (arith, all, low));
    up = up k low;
    below = (let at = number_is k low in let below = (pages k 0 low).below in omega (arith, at, below));
    stored = ap (list_all (λ b. b == 0)) (part_is k low) ∙ not_true (list_all (λ b. b == 0) (page_bytes s.memory (get_or stored k 0))) (filter_passes (is_stored s.memory) (page_numbers s.memory) k 0 low);
  }

  pub image_right : IsRight (image s)
  image_right = record {
    whole = (let all = image_length in omega (arith, all));
    letters = refl;
    version = refl;
    pc = ap (λ n. n % 4) (from_le_bytes-to_le_bytes_4 s.pc h.pc) ∙ h.aligned;
    kind = subst (λ k. k ≤ 2) (sym kind_is) (kind_right s.status);
    value = (λ i. is_value (kind_is i) (value_is i)) ∙ value_right s.status h.status;
    few = subst (λ n. n ≤ 4096) (sym count_is) few;
    pages = λ k low. right_page k (subst (λ n. k < n) count_is low);
    end = image_length ∙ ap page_start (sym count_is);
  }

  -- each page of the image is mapped
  kept_from : (ns : List ℕ) (p : ℕ → Bool) (n : ℕ) → Mem (filter p ns) n → Mem ns n
  kept_from [] p n m = m
  kept_from (x ∷ ns) p n m = elim (p x) as (λ b. Mem (cond b (x ∷ filter p ns) (filter p ns)) n → Mem (x ∷ ns) n) [
    | true ↦ λ m. ⊎_elim inl (λ r. inr (kept_from ns p n r)) m
    | false ↦ λ m. inr (kept_from ns p n m)
  ] m

  pub all_mapped : first_unmapped (image s) (page_numbers s.memory) ≡ None
  all_mapped = none_first (λ n. not (list_any (λ m. m == n) (page_numbers s.memory))) (page_number (image s)) (page_count (image s)) (λ k low.
      let low' : k < length stored = subst (λ n. k < n) count_is low in
      let there = place_of (page_numbers s.memory) (get_or stored k 0) (kept_from (page_numbers s.memory) (is_stored s.memory) (get_or stored k 0) (mem_at stored k low')) in
      ap not (listed (page_numbers s.memory) (page_number (image s) k) there.0 there.1.0 (there.1.1 ∙ sym (number_is k low'))))
