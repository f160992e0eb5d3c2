-- The start state of a program is a state that a machine can be in.
use Rattle.std.proofs.Common.{◌≡◌, ℕ, ◌+◌, ◌/◌, ◌%◌, ◌^◌, ◌<◌, ◌≤◌, inl, inr, List, [], map, length, get_or, take, drop, replicate, refl, sym, ap, subst, ◌∙◌, arith}
use Rattle.std.proofs.lemmas.Bool.{cases_lt}
use Rattle.std.proofs.lemmas.List.{length-take, get_or_past}
use Rattle.std.proofs.lemmas.List.Elements.{All-set, All-replicate, All-take, All-drop, All-map, All-cons, All-nil}
use Rattle.std.specs.List.{All, Any, slice_set}
use Rattle.rv_pages.specs.Memory.{Memory, zeroed, IsMemory}
use Rattle.rv_machine.specs.MachineState.{IsMachineState}
use Rattle.elf_load.specs.declared.segment.Segment.{Segment}
use Rattle.elf_load.specs.Program.{Piece, HoldsByteOf, IsMappedPage, AreMapped, stack_start, start_at, with_pieces}
use Rattle.elf_load.specs.Raw.{raw_pieces}
use Rattle.elf_load.specs.Elf.{AllFit, loads, pieces, e_entry, word}
use Rattle.elf_load.specs.Laws.{StartsAreStates, RawStartsAreStates}
use Rattle.elf_load.specs.HeaderFields.{segments_of, piece_in}
use Rattle.elf_load.specs.Spans.{pages_from}
use Rattle.elf_load.proofs.LoadSegments.{pieces_are, segments_below, segments_sized}
use Rattle.elf_load.proofs.LoadedMemory.{IsWritable, pieces_memory, zeroed_memory, segments_zeroed}
use Rattle.elf_load.proofs.Lists.{any_member, any_from_map, all_members}
use Rattle.elf_load.proofs.StartUniqueness.{same_mapped}
use Rattle.elf_load.proofs.RawPages.{raw_spans, raw_mapped, raw_low, raw_zeroed}
use Rattle.elf_load.proofs.MappedPages.{pages_below}

registers_small : All (λ x. x < 2 ^ 32) (slice_set (replicate 32 0) 2 0xBFFFFFF0)
registers_small = All-set (λ x. x < 2 ^ 32) (replicate 32 0) 2 0xBFFFFFF0 (omega arith) (All-replicate (λ x. x < 2 ^ 32) 32 0 (omega arith))

start_state : (entry : ℕ) (m : Memory) → entry % 4 ≡ 0 → entry < 2 ^ 32 → IsMemory m → IsMachineState (start_at entry m)
start_state entry m aligned small h = record {
  pc = small;
  aligned = aligned;
  registers = refl;
  words = registers_small;
  zero = refl;
  status = tt;
  item = omega arith;
  offset = omega arith;
  written = omega arith;
  memory = h;
}

-- a number of four bytes
byte_small : (xs : List ℕ) (k : ℕ) → All (λ b. b < 256) xs → get_or xs k 0 < 256
byte_small xs k h = elim (cases_lt k (length xs)) [ inl l ↦ h k 0 l | inr past ↦ let none = get_or_past xs k 0 past in omega arith ]

word_small : (file : List ℕ) (at : ℕ) → All (λ b. b < 256) file → word file at < 2 ^ 32
word_small file at h =
    let part : All (λ b. b < 256) (take 4 (drop at file)) = All-take (λ b. b < 256) 4 (drop at file) (All-drop (λ b. b < 256) at file h) in
    omega (arith, byte_small (take 4 (drop at file)) 0 part, byte_small (take 4 (drop at file)) 1 part, byte_small (take 4 (drop at file)) 2 part, byte_small (take 4 (drop at file)) 3 part)

-- the pages of a file's segments are below 2 ^ 20
low_page : (file : List ℕ) (stack page : ℕ) → AllFit file stack → IsMappedPage (pieces file) stack page → page < 2 ^ 20
low_page file stack page fit m =
    elim m [
      | inl p ↦
          let segments : List Segment = segments_of file (loads file) in
          let w = any_member (λ (s : Segment). HoldsByteOf (piece_in file s) page) segments (any_from_map (λ piece. HoldsByteOf piece page) (piece_in file) segments (subst (λ (ps : List Piece). Any (λ piece. HoldsByteOf piece page) ps) (pieces_are file) p)) in
          let s : Segment = w.0 in
          let below : s.address + s.memory_size ≤ stack_start stack = let place = w.1 in subst (λ (x : Segment). x.address + x.memory_size ≤ stack_start stack) place.2 (segments_below file stack fit place.0 s place.1) in
          let held = w.2 in
          let high : held.0 < s.address + s.memory_size = held.2 in
          let is : held.0 / 4096 ≡ page = held.3 in
          omega arith
      | inr q ↦ let high = q.1 in omega arith
    ]

pub starts_are_states : StartsAreStates
starts_are_states file stack s small h =
    let pages : List ℕ = h.start.pages in
    let segments : List Segment = segments_of file (loads file) in
    let low : All (λ page. page < 2 ^ 20) pages = all_members (λ page. page < 2 ^ 20) pages (λ page c. low_page file stack page h.fit ((h.start.mapped.each page).0 c)) in
    let mapped : AreMapped (map (piece_in file) segments) stack pages = subst (λ (ps : List Piece). AreMapped ps stack pages) (pieces_are file) h.start.mapped in
    let zeros = segments_zeroed file segments stack pages mapped low h.start.few (segments_sized file stack h.fit) (segments_below file stack h.fit) in
    let writable : All (IsWritable (zeroed pages)) (map (piece_in file) segments) =
    All-map (IsWritable (zeroed pages)) (piece_in file) segments (λ k d l.
    let x : Segment = get_or segments k d in
    let bytes : List ℕ = take x.file_size (drop x.offset file) in
    (λ j m. zeros k d l j (omega (arith, m, length-take x.file_size (drop x.offset file))), All-take (λ b. b < 256) x.file_size (drop x.offset file) (All-drop (λ b. b < 256) x.offset file small)))
    in
    let memory : IsMemory (with_pieces (zeroed pages) (pieces file)) = subst (λ (ps : List Piece). IsMemory (with_pieces (zeroed pages) ps)) (sym (pieces_are file)) (pieces_memory (map (piece_in file) segments) (zeroed pages) (zeroed_memory pages h.start.mapped.ascending low h.start.few) writable) in
    subst IsMachineState (sym h.start.state) (start_state (e_entry file) (with_pieces (zeroed pages) (pieces file)) h.entry.aligned (word_small file 24 small) memory)

pub raw_starts_are_states : RawStartsAreStates
raw_starts_are_states bytes stack s small_stack small h =
    let pages : List ℕ = pages_from 0 (raw_spans (length bytes) stack) in
    let mapped : AreMapped (raw_pieces bytes) stack pages = raw_mapped bytes stack small_stack h.words.some in
    let same : h.start.pages ≡ pages = same_mapped (raw_pieces bytes) stack h.start.pages pages h.start.mapped mapped in
    let few : length pages ≤ 4096 = subst (λ (xs : List ℕ). length xs ≤ 4096) same h.start.few in
    let low : All (λ page. page < 2 ^ 20) pages = pages_below 0 (2 ^ 20) (raw_spans (length bytes) stack) (raw_low (length bytes) stack few) in
    let piece : Piece = record { address = 0x10000; size = length bytes; bytes = bytes } in
    let writable : All (IsWritable (zeroed pages)) (raw_pieces bytes) = All-cons (IsWritable (zeroed pages)) piece [] (raw_zeroed bytes stack small_stack h.words.some few, small) (All-nil (IsWritable (zeroed pages))) in
    let memory : IsMemory (with_pieces (zeroed pages) (raw_pieces bytes)) = pieces_memory (raw_pieces bytes) (zeroed pages) (zeroed_memory pages mapped.ascending low few) writable in
    subst IsMachineState (sym (h.start.state ∙ ap (λ xs. start_at 0x10000 (with_pieces (zeroed xs) (raw_pieces bytes))) same)) (start_state 0x10000 (with_pieces (zeroed pages) (raw_pieces bytes)) refl (omega arith) memory)
