-- The state that bytes with nothing wrong are the image of: it maps the pages that the bytes name.
use Rattle.std.proofs.Common.{◌≡◌, ℕ, zero, suc, ◌+◌, ◌*◌, ◌<◌, ◌≤◌, ◌^◌, true, nat_le, List, [], ◌∷◌, ◌++◌, length, get_or, take, drop, map, refl, sym, ap, ◌∙◌, add-one, arith}
use Rattle.std.proofs.lemmas.Bool.{eqb-true}
use Rattle.std.proofs.lemmas.List.{get_or_default, get_or-map, length-map, take_at}
use Rattle.std.proofs.lemmas.List.FromFn.{length-range_with_len, get_or-range_with_len}
use Rattle.std.proofs.lemmas.List.Elements.{All-append, All-from_get_or}
use Rattle.std.proofs.Math.Seq.{drop-cons}
use Rattle.std.specs.Int.{from_le_bytes, w64}
use Rattle.std.specs.List.{All, AllByRecursion, flat_map, range_with_len}
use Rattle.rv_pages.specs.Memory.{Memory, page_numbers, page_bytes, IsMemory}
use Rattle.rv_pages.specs.PageLayout.{memory_kept, AreKept}
use Rattle.rv_pages.proofs.Numbers.{kept_numbers}
use Rattle.rv_pages.proofs.Bytes.{kept_bytes}
use Rattle.rv_pages.proofs.MemoryInvariant.{kept_is_memory}
use Rattle.rv_machine.specs.declared.status.Status.{Status}
use Rattle.rv_machine.specs.declared.status.Status.TheVariants.{Running, Exited, Trapped}
use Rattle.rv_machine.specs.MachineState.{MachineState, IsStatus, IsMachineState}
use Rattle.state_image.specs.Image.{image, status_kind, status_value}
use Rattle.state_image.specs.ImageForm.{part, number_at, is_value, page_count, page_start, page_number, page_part, numbers_in}
use Rattle.state_image.specs.Decoder.{IsRight, AreMapped, AreRegistersOf, IsStateOf}
use Rattle.state_image.proofs.RightFields.{apart}
use Rattle.state_image.proofs.ImageRoundTrip.{IsBytes, part_small, part_long, image_again}
use Rattle.state_image.proofs.Images.{fields_length, drop_fields}

abbrev status_of : ℕ → ℕ → Status
status_of zero value = Running
status_of (suc zero) value = Exited value
status_of (suc (suc kind)) value = Trapped value

at_most : (a b : ℕ) → nat_le a b ≡ true → a ≤ b
at_most a b h = search (h, arith)

status_right : (kind value : ℕ) → kind ≤ 2 → is_value kind value ≡ true → IsStatus (status_of kind value) × (status_kind (status_of kind value) ≡ kind) × (status_value (status_of kind value) ≡ value)
status_right zero value few h = (tt, refl, sym (eqb-true value 0 h))
status_right (suc zero) value few h = ((let low = at_most value 255 h in omega (arith, low)), refl, refl)
status_right (suc (suc zero)) value few h = (h, refl, refl)
status_right (suc (suc (suc kind))) value few h = absurd (omega arith)

module _ (bytes : List ℕ) (small : IsBytes bytes) (right : IsRight bytes) where
  abbrev count : ℕ
  count = page_count bytes

  abbrev parts : List ℕ
  parts = flat_map (page_part bytes) (range_with_len 0 count)

  word_below : (at : ℕ) → number_at bytes at < 2 ^ 32
  word_below at =
      let b0 = part_small bytes small at 4 0 in
      let b1 = part_small bytes small at 4 1 in
      let b2 = part_small bytes small at 4 2 in
      let b3 = part_small bytes small at 4 3 in
      omega (arith, b0, b1, b2, b3)

  long_below : from_le_bytes w64 (part bytes 152 8) < 2 ^ 64
  long_below =
      let b0 = part_small bytes small 152 8 0 in
      let b1 = part_small bytes small 152 8 1 in
      let b2 = part_small bytes small 152 8 2 in
      let b3 = part_small bytes small 152 8 3 in
      let b4 = part_small bytes small 152 8 4 in
      let b5 = part_small bytes small 152 8 5 in
      let b6 = part_small bytes small 152 8 6 in
      let b7 = part_small bytes small 152 8 7 in
      omega (arith, b0, b1, b2, b3, b4, b5, b6, b7)

  many : length (numbers_in bytes) ≡ count
  many = length-map (range_with_len 0 count) (page_number bytes) ∙ length-range_with_len 0 count

  number_in : (k : ℕ) → k < count → get_or (numbers_in bytes) k 0 ≡ page_number bytes k
  number_in k low =
      let long = length-range_with_len 0 count in
      get_or-map (page_number bytes) (range_with_len 0 count) k 0 0 (omega (arith, long, low))
      ∙ ap (page_number bytes) (get_or-range_with_len 0 count k 0 low ∙ (let up : 0 + k ≡ k = omega arith in up))

  whole_part : (k : ℕ) → k < count → length (page_part bytes k) ≡ 4096
  whole_part k low = part_long bytes small (page_start k + 4) 4096 (let there = (right.pages k low).there in omega (arith, there))

  sized_from : (n from : ℕ) → from + n ≤ count → AllByRecursion (λ k. length (page_part bytes k) ≡ 4096) (range_with_len from n)
  sized_from zero from fits = tt
  sized_from (suc n) from fits = (whole_part from (omega arith), sized_from n (from + 1) (omega arith))

  sized : AllByRecursion (λ k. length (page_part bytes k) ≡ 4096) (range_with_len 0 count)
  sized = sized_from count 0 (omega arith)

  small_parts : (ks : List ℕ) → All (λ b. b < 256) (flat_map (page_part bytes) ks)
  small_parts [] = λ k d low. absurd (omega arith)
  small_parts (k ∷ ks) = All-append (λ b. b < 256) (page_part bytes k) (flat_map (page_part bytes) ks)
      (All-from_get_or (λ b. b < 256) (page_part bytes k) 0 (λ i low. part_small bytes small (page_start k + 4) 4096 i)) (small_parts ks)

  kept : AreKept (numbers_in bytes) parts
  kept = record {
    ascending = λ k low.
        let l = many in
        let here : k < count = omega (arith, low, l) in
        let next : k + 1 < count = omega (arith, low, l) in
        let up = apart bytes right k (k + 1) (omega arith) next in
        let a = number_in k here in
        let b = number_in (k + 1) next in
        omega (arith, up, a, b);
    below = All-from_get_or (λ n. n < 2 ^ 20) (numbers_in bytes) 0 (λ k low.
        let l = many in
        let here : k < count = omega (arith, low, l) in
        let a = number_in k here in
        let below = (right.pages k here).below in
        omega (arith, a, below));
    few = (let l = many in let f = right.few in omega (arith, l, f));
    whole = (let l = many in let p = fields_length (page_part bytes) 4096 (range_with_len 0 count) sized in let r = length-range_with_len 0 count in omega (arith, l, p, r));
  }

  abbrev memory : Memory
  memory = memory_kept (numbers_in bytes) parts

  numbers_are : page_numbers memory ≡ numbers_in bytes
  numbers_are = kept_numbers (numbers_in bytes) parts kept

  page_is : (k : ℕ) → k < count → page_bytes memory (page_number bytes k) ≡ page_part bytes k
  page_is k low =
      let l = many in
      let r = length-range_with_len 0 count in
      let at : k * 4096 ≡ 4096 * k = omega arith in
      let inside : k < length (range_with_len 0 count) = omega (arith, r, low) in
      let here : get_or (range_with_len 0 count) k 0 ≡ k = get_or-range_with_len 0 count k 0 low ∙ (let up : 0 + k ≡ k = omega arith in up) in
      ap (page_bytes memory) (sym (number_in k low))
      ∙ kept_bytes (numbers_in bytes) parts kept k (omega (arith, l, low))
      ∙ ap (λ d. take 4096 (drop d parts)) at
      ∙ ap (take 4096) (drop_fields (page_part bytes) 4096 (range_with_len 0 count) k sized ∙ ap (flat_map (page_part bytes)) (drop-cons (range_with_len 0 count) k 0 inside))
      ∙ ap (λ j. take 4096 (page_part bytes j ++ flat_map (page_part bytes) (drop (suc k) (range_with_len 0 count)))) here
      ∙ take_at (page_part bytes k) (flat_map (page_part bytes) (drop (suc k) (range_with_len 0 count))) 4096 (whole_part k low)

  abbrev words : List ℕ
  words = map (λ k. number_at bytes (12 + 4 * k)) (range_with_len 0 31)

  abbrev status : Status
  status = status_of (number_at bytes 136) (number_at bytes 140)

  abbrev pub state : MachineState
  state = record {
    pc = number_at bytes 8;
    registers = 0 ∷ words;
    status = status;
    item = number_at bytes 144;
    offset = number_at bytes 148;
    written = from_le_bytes w64 (part bytes 152 8);
    memory = memory;
  }

  word_in : (k : ℕ) → k < 31 → get_or words k 0 ≡ number_at bytes (12 + 4 * k)
  word_in k low =
      let long = length-range_with_len 0 31 in
      let up : 0 + k ≡ k = omega arith in
      get_or-map (λ k. number_at bytes (12 + 4 * k)) (range_with_len 0 31) k 0 0 (omega (arith, long, low))
      ∙ ap (λ j. number_at bytes (12 + 4 * j)) (get_or-range_with_len 0 31 k 0 low ∙ up)

  long_words : length words ≡ 31
  long_words = length-map (range_with_len 0 31) (λ k. number_at bytes (12 + 4 * k)) ∙ length-range_with_len 0 31

  registers_are : AreRegistersOf bytes (0 ∷ words)
  registers_are = record {
    size = (let l = long_words in omega (arith, l));
    zero = refl;
    words = λ k low. ap (λ i. get_or (0 ∷ words) i 0) (add-one k) ∙ word_in k low;
  }

  small_word : (k : ℕ) → k < length (0 ∷ words) → get_or (0 ∷ words) k 0 < 2 ^ 32
  small_word zero low = omega arith
  small_word (suc k) low =
      let l = long_words in
      let at = word_in k (omega (arith, l, low)) in
      let below = word_below (12 + 4 * k) in
      omega (arith, at, below)

  is_memory : IsMemory memory
  is_memory = kept_is_memory (numbers_in bytes) parts kept (small_parts (range_with_len 0 count))

  pub machine : IsMachineState state
  machine = record {
    pc = word_below 8;
    aligned = right.pc;
    registers = registers_are.size;
    words = All-from_get_or (λ x. x < 2 ^ 32) (0 ∷ words) 0 small_word;
    zero = refl;
    status = (status_right (number_at bytes 136) (number_at bytes 140) right.kind right.value).0;
    item = word_below 144;
    offset = word_below 148;
    written = long_below;
    memory = is_memory;
  }

  of_bytes : IsStateOf bytes state
  of_bytes = record {
    pc = refl;
    registers = registers_are;
    kind = (status_right (number_at bytes 136) (number_at bytes 140) right.kind right.value).1;
    value = (status_right (number_at bytes 136) (number_at bytes 140) right.kind right.value).2;
    item = refl;
    offset = refl;
    written = refl;
    memory = record {
      named = page_is;
      others = λ i low unnamed.
          let here : i < count = omega (arith, low, ap length numbers_are, many) in
          absurd (unnamed i here (sym (number_in i here) ∙ ap (λ ns. get_or ns i 0) (sym numbers_are)));
    };
  }

  mapped : AreMapped bytes (page_numbers memory)
  mapped k low =
      let fits : k < length (page_numbers memory) = omega (arith, low, ap length numbers_are, many) in
      (k, fits, sym (get_or_default (page_numbers memory) k 0 (page_number bytes k) fits) ∙ ap (λ ns. get_or ns k 0) numbers_are ∙ number_in k low)

  pub spelled : image state ≡ bytes
  spelled = image_again bytes small right state of_bytes is_memory mapped
