-- The mapped pages of raw words.
use Rattle.std.proofs.Common.{◌≡◌, ℕ, ◌+◌, ◌-◌, ◌/◌, ◌^◌, ◌<◌, ◌≤◌, inl, inr, max, List, [], ◌∷◌, ◌++◌, length, arith}
use Rattle.std.proofs.lemmas.List.{length-append}
use Rattle.std.proofs.lemmas.List.Elements.{All-cons, All-nil}
use Rattle.std.proofs.lemmas.List.FromFn.{length-range_with_len}
use Rattle.std.specs.List.{All, Any, range_with_len}
use Rattle.rv_pages.specs.Memory.{zeroed, IsMapped}
use Rattle.elf_load.specs.declared.pages.Span.{Span}
use Rattle.elf_load.specs.Program.{HoldsByteOf, IsMappedPage, AreMapped}
use Rattle.elf_load.specs.Raw.{raw_pieces}
use Rattle.elf_load.specs.Spans.{pages_from, stack_span}
use Rattle.elf_load.proofs.LoadedMemory.{piece_mapped}
use Rattle.elf_load.proofs.Lists.{increasing_from_rises, any_head, any_later, any_cases, any_none}
use Rattle.elf_load.proofs.MappedPages.{Ordered, IsInSpan, rises_pages, from_pages, to_pages, pages_below, holds_span, span_holds}

-- the pages of so many bytes from 0x10000 on
abbrev pub raw_span : ℕ → Span
raw_span n = record { first = 0x10000 / 4096; last = (0x10000 + n - 1) / 4096 }

abbrev pub raw_spans : ℕ → ℕ → List Span
raw_spans n stack = raw_span n ∷ stack_span stack ∷ []

module _ (bytes : List ℕ) (stack : ℕ) (small : stack ≤ 1024) (some : 0 < length bytes) where
  to_mapped : (page : ℕ) → Any (IsInSpan page) (raw_spans (length bytes) stack) → IsMappedPage (raw_pieces bytes) stack page
  to_mapped page a =
      elim (any_cases (IsInSpan page) (raw_span (length bytes)) (stack_span stack ∷ []) a) [
        | inl here ↦ inl (any_head (λ piece. HoldsByteOf piece page) (record { address = 0x10000; size = length bytes; bytes = bytes }) [] (span_holds (record { address = 0x10000; size = length bytes; bytes = bytes }) page some here.0 here.1))
        | inr later ↦ elim (any_cases (IsInSpan page) (stack_span stack) [] later) [ inl i ↦ inr (omega (arith, i.0), omega (arith, i.1)) | inr none ↦ absurd (any_none (IsInSpan page) none) ]
      ]

  from_mapped : (page : ℕ) → IsMappedPage (raw_pieces bytes) stack page → Any (IsInSpan page) (raw_spans (length bytes) stack)
  from_mapped page m =
      elim m [
        | inl p ↦ elim (any_cases (λ piece. HoldsByteOf piece page) (record { address = 0x10000; size = length bytes; bytes = bytes }) [] p) [
          | inl here ↦ any_head (IsInSpan page) (raw_span (length bytes)) (stack_span stack ∷ []) (holds_span (record { address = 0x10000; size = length bytes; bytes = bytes }) page here)
          | inr none ↦ absurd (any_none (λ piece. HoldsByteOf piece page) none)
        ]
        | inr q ↦ any_later (IsInSpan page) (raw_span (length bytes)) (stack_span stack ∷ []) (any_head (IsInSpan page) (stack_span stack) [] (omega (arith, q.0), omega (arith, q.1)))
      ]

  pub raw_mapped : AreMapped (raw_pieces bytes) stack (pages_from 0 (raw_spans (length bytes) stack))
  raw_mapped =
      let ordered : Ordered 0 (raw_spans (length bytes) stack) = (omega arith, (omega arith, tt)) in
      record {
        ascending = increasing_from_rises 0 (pages_from 0 (raw_spans (length bytes) stack)) (rises_pages 0 (raw_spans (length bytes) stack));
        each = λ page. (λ c. to_mapped page (from_pages 0 (raw_spans (length bytes) stack) page c).1, λ m. to_pages 0 0 (raw_spans (length bytes) stack) page ordered (omega arith) (from_mapped page m));
      }

-- where there are few pages the bytes are few
first_count : (n stack : ℕ) → (0x10000 + n - 1) / 4096 + 1 - 16 ≤ length (pages_from 0 (raw_spans n stack))
first_count n stack =
    let last : ℕ = (0x10000 + n - 1) / 4096 in
    let rest : List ℕ = pages_from (max 0 (last + 1)) (stack_span stack ∷ []) in
    let split : length (range_with_len (max 0 (0x10000 / 4096)) (last + 1 - max 0 (0x10000 / 4096)) ++ rest) ≡ length (range_with_len (max 0 (0x10000 / 4096)) (last + 1 - max 0 (0x10000 / 4096))) + length rest = length-append (range_with_len (max 0 (0x10000 / 4096)) (last + 1 - max 0 (0x10000 / 4096))) rest in
    omega (arith, split, length-range_with_len (max 0 (0x10000 / 4096)) (last + 1 - max 0 (0x10000 / 4096)))

pub raw_few : (n stack : ℕ) → length (pages_from 0 (raw_spans n stack)) ≤ 4096 → n ≤ 16777216
raw_few n stack few = let count = first_count n stack in omega (arith, count, few)

pub raw_low : (n stack : ℕ) → length (pages_from 0 (raw_spans n stack)) ≤ 4096 → All (λ (s : Span). s.last < 2 ^ 20) (raw_spans n stack)
raw_low n stack few =
    let small = raw_few n stack few in
    All-cons (λ (s : Span). s.last < 2 ^ 20) (raw_span n) (stack_span stack ∷ []) (omega (arith, small))
    (All-cons (λ (s : Span). s.last < 2 ^ 20) (stack_span stack) [] (omega arith) (All-nil (λ (s : Span). s.last < 2 ^ 20)))

-- the bytes lie in the mapped pages
pub raw_zeroed : (bytes : List ℕ) (stack : ℕ) → stack ≤ 1024 → 0 < length bytes → length (pages_from 0 (raw_spans (length bytes) stack)) ≤ 4096 → IsMapped (zeroed (pages_from 0 (raw_spans (length bytes) stack))) 0x10000 (length bytes)
raw_zeroed bytes stack small some few =
    let pages : List ℕ = pages_from 0 (raw_spans (length bytes) stack) in
    let mapped : AreMapped (raw_pieces bytes) stack pages = raw_mapped bytes stack small some in
    let fits = raw_few (length bytes) stack few in
    piece_mapped pages mapped.ascending (pages_below 0 (2 ^ 20) (raw_spans (length bytes) stack) (raw_low (length bytes) stack few)) few (record { address = 0x10000; size = length bytes; bytes = bytes }) (length bytes) (omega arith) (omega (arith, fits))
    (λ page h. (mapped.each page).1 (inl (any_head (λ piece. HoldsByteOf piece page) (record { address = 0x10000; size = length bytes; bytes = bytes }) [] h)))
