-- Memory with the pieces of a program, one after the other.
use Rattle.std.proofs.Common.{◌≡◌, ℕ, ◌+◌, ◌*◌, ◌/◌, ◌%◌, ◌^◌, ◌<◌, ◌≤◌, inl, List, [], ◌∷◌, ◌++◌, map, length, get_or, take, drop, replicate, refl, sym, ap, subst, ◌∙◌, arith, Option, Some, IsSome}
use Rattle.std.proofs.lemmas.List.{take_more, map-append, length-replicate, get_or_default}
use Rattle.std.proofs.lemmas.List.Elements.{All-replicate, All-head, All-tail, Contains-get_or}
use Rattle.std.specs.FinMap.{get}
use Rattle.std.specs.List.{All, Contains, fold}
use Rattle.std.specs.List.Sorted.{IsStrictlyIncreasing}
use Rattle.rv_pages.specs.Memory.{Memory, wrapped, with_bytes, zeroed, IsMapped, IsMemory}
use Rattle.rv_pages.specs.PageLayout.{memory_kept, AreKept}
use Rattle.rv_pages.proofs.EntryOrder.{get_kept}
use Rattle.rv_pages.proofs.MemoryWrites.{some_with_bytes}
use Rattle.rv_pages.proofs.Stores.{with_bytes_memory}
use Rattle.rv_pages.proofs.MemoryInvariant.{kept_is_memory}
use Rattle.rv_pages.proofs.ZeroPages.{kept_zeros}
use Rattle.elf_load.specs.declared.segment.Segment.{Segment}
use Rattle.elf_load.specs.Program.{Piece, HoldsByteOf, AreMapped, stack_start, with_pieces}
use Rattle.elf_load.specs.HeaderFields.{piece_in}
use Rattle.elf_load.proofs.Lists.{any_of, any_map}

fold_push : {A B : Type 0} (f : B → A → B) (b : B) (xs : List A) (y : A) → fold f b (xs ++ y ∷ []) ≡ f (fold f b xs) y
fold_push f b [] y = refl
fold_push f b (x ∷ xs) y = fold_push f (f b x) xs y

-- the bytes of one more segment
pub filled_more : (file : List ℕ) (segments : List Segment) (k : ℕ) (start m new : Memory) (s : Segment) → k < length segments → s ≡ get_or segments k s → m ≡ with_pieces start (map (piece_in file) (take k segments)) → new ≡ with_bytes m s.address (take s.file_size (drop s.offset file)) → new ≡ with_pieces start (map (piece_in file) (take (k + 1) segments))
filled_more file segments k start m new s l is before stored =
    let add : Memory → Piece → Memory = λ m piece. with_bytes m piece.address piece.bytes in
    let parts : map (piece_in file) (take (k + 1) segments) ≡ map (piece_in file) (take k segments) ++ piece_in file s ∷ [] =
    ap (map (piece_in file)) (take_more segments k s l ∙ ap (λ x. take k segments ++ x ∷ []) (sym is)) ∙ map-append (piece_in file) (take k segments) (s ∷ []) in
    stored ∙ ap (λ p. with_bytes p s.address (take s.file_size (drop s.offset file))) before
    ∙ sym (fold_push add start (map (piece_in file) (take k segments)) (piece_in file s)) ∙ sym (ap (fold add start) parts)

-- what was mapped is mapped
pub still_mapped : (m : Memory) (at : ℕ) (bytes : List ℕ) (a n : ℕ) → IsMapped m a n → IsMapped (with_bytes m at bytes) a n
still_mapped m at bytes a n h k l = some_with_bytes m at bytes (wrapped (a + k)) (h k l)

pub all_still_mapped : (m new : Memory) (at : ℕ) (bytes : List ℕ) (segments : List Segment) → new ≡ with_bytes m at bytes → All (λ (s : Segment). IsMapped m s.address s.file_size) segments → All (λ (s : Segment). IsMapped new s.address s.file_size) segments
all_still_mapped m new at bytes segments e h k d l =
    subst (λ (p : Memory). IsMapped p (get_or segments k d).address (get_or segments k d).file_size) (sym e) (still_mapped m at bytes (get_or segments k d).address (get_or segments k d).file_size (h k d l))

-- zeroed pages are memory, and map the addresses in them
module _ (pages : List ℕ) (ascending : IsStrictlyIncreasing pages) (low : All (λ page. page < 2 ^ 20) pages) (few : length pages ≤ 4096) where
  zeros_kept : AreKept pages (replicate (4096 * length pages) 0)
  zeros_kept = record { ascending = ascending; below = low; few = few; whole = length-replicate (4096 * length pages) 0 }

  pub zeroed_memory : IsMemory (zeroed pages)
  zeroed_memory = subst IsMemory (kept_zeros pages zeros_kept) (kept_is_memory pages (replicate (4096 * length pages) 0) zeros_kept (All-replicate (λ b. b < 256) (4096 * length pages) 0 (omega arith)))

  zero_there : (at : ℕ) → Contains pages (at / 4096) → IsSome (get (zeroed pages) at)
  zero_there at c =
      let is : get (memory_kept pages (replicate (4096 * length pages) 0)) at ≡ Some (get_or (replicate (4096 * length pages) 0) (c.0 * 4096 + at % 4096) 0) = get_kept pages (replicate (4096 * length pages) 0) zeros_kept c.0 at c.1 (get_or_default pages c.0 0 (at / 4096) c.1 ∙ c.2) in
      subst (λ (m : Memory). IsSome (get m at)) (kept_zeros pages zeros_kept) (subst (λ (o : Option ℕ). IsSome o) (sym is) refl)

  pub piece_mapped : (piece : Piece) (n : ℕ) → n ≤ piece.size → piece.address + piece.size ≤ 2 ^ 32 → ((page : ℕ) → HoldsByteOf piece page → Contains pages page) → IsMapped (zeroed pages) piece.address n
  piece_mapped piece n fits inside holds k l =
      let at : ℕ = piece.address + k in
      let same : at ≡ wrapped at = omega arith in
      let page : Contains pages (at / 4096) = holds (at / 4096) (at, omega arith, omega arith, refl) in
      subst (λ q. IsSome (get (zeroed pages) q)) same (zero_there at page)

-- memory stays memory
abbrev pub IsWritable : Memory → Piece → Type 0
IsWritable m piece = IsMapped m piece.address (length piece.bytes) × All (λ b. b < 256) piece.bytes

pub pieces_memory : (pieces : List Piece) (m : Memory) → IsMemory m → All (IsWritable m) pieces → IsMemory (with_pieces m pieces)
pieces_memory [] m h all = h
pieces_memory (p ∷ ps) m h all =
    let first : IsWritable m p = All-head (IsWritable m) p ps all in
    let rest : All (IsWritable m) ps = All-tail (IsWritable m) p ps all in
    pieces_memory ps (with_bytes m p.address p.bytes) (with_bytes_memory m p.address p.bytes h first.0 first.1)
    (λ k d l. (still_mapped m p.address p.bytes (get_or ps k d).address (length (get_or ps k d).bytes) (rest k d l).0, (rest k d l).1))

-- the bytes of segments lie in the mapped pages
pub segments_zeroed : (file : List ℕ) (segments : List Segment) (stack : ℕ) (pages : List ℕ) → AreMapped (map (piece_in file) segments) stack pages → All (λ page. page < 2 ^ 20) pages → length pages ≤ 4096 → All (λ (s : Segment). s.file_size ≤ s.memory_size) segments → All (λ (s : Segment). s.address + s.memory_size ≤ stack_start stack) segments → All (λ (s : Segment). IsMapped (zeroed pages) s.address s.file_size) segments
segments_zeroed file segments stack pages mapped low few sizes below k d l =
    let s : Segment = get_or segments k d in
    let fits : s.address + s.memory_size ≤ 2 ^ 32 = let b = below k d l in omega (arith, b) in
    piece_mapped pages mapped.ascending low few (piece_in file s) s.file_size (sizes k d l) fits (λ page h.
    (mapped.each page).1 (inl (any_map (λ piece. HoldsByteOf piece page) (piece_in file) segments (any_of (λ (s : Segment). HoldsByteOf (piece_in file s) page) segments s (Contains-get_or segments k d l) h))))
