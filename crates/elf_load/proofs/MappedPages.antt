-- The pages of runs, and that those of segments and of the stack are the mapped ones.
use Rattle.std.proofs.Common.{◌≡◌, ℕ, suc, ◌+◌, ◌-◌, ◌*◌, ◌/◌, ◌^◌, ◌<◌, ◌≤◌, inl, inr, max, List, [], ◌∷◌, ◌++◌, map, arith}
use Rattle.std.proofs.lemmas.Bool.{cases_lt}
use Rattle.std.proofs.lemmas.List.Elements.{All-append, All-cons, All-nil, All-map, All-tail, All-head, All-contains, Contains-append_left, Contains-append_right, Contains-append_cases}
use Rattle.std.proofs.lemmas.List.Sorted.{IsPermutation-sym, All-permutation as all_permutation}
use Rattle.std.specs.List.{All, Any, Contains, range_with_len}
use Rattle.std.specs.List.Sorted.{IsPermutation, IsNonDecreasingBy}
use Rattle.elf_load.specs.declared.pages.Span.{Span}
use Rattle.elf_load.specs.declared.segment.Segment.{Segment}
use Rattle.elf_load.specs.Program.{Piece, HoldsByteOf, IsMappedPage, AreMapped, stack_start}
use Rattle.elf_load.specs.HeaderFields.{piece_in}
use Rattle.elf_load.specs.Spans.{pages_from, span_of, stack_span}
use Rattle.elf_load.proofs.Lists.{Rises, rises_run, increasing_from_rises, contains_run, run_contains, contains_none, any_head, any_later, any_cases, any_none, any_member, any_map, any_from_map, any_append_left, any_append_right, any_append_cases, any_permutation, any_weaker, any_weaker_all, all_members}

-- runs are ordered by their first pages, from a page on
abbrev pub Ordered : ℕ → List Span → Type 0
Ordered low [] = Unit {0}
Ordered low (s ∷ spans) = (low ≤ s.first) × Ordered s.first spans

-- a page is in a run
abbrev pub IsInSpan : ℕ → Span → Type 0
IsInSpan page s = (s.first ≤ page) × (page ≤ s.last)

pub rises_pages : (next : ℕ) (spans : List Span) → Rises next (pages_from next spans)
rises_pages next [] = tt
rises_pages next (s ∷ spans) =
    let mid : ℕ = max next (s.last + 1) in
    rises_run next (max next s.first) (s.last + 1 - max next s.first) mid (pages_from mid spans) (omega arith) (omega arith) (λ some. omega arith) (rises_pages mid spans)

ordered_low : (low : ℕ) (spans : List Span) (page : ℕ) → Ordered low spans → Any (IsInSpan page) spans → low ≤ page
ordered_low low [] page h a = absurd (any_none (IsInSpan page) a)
ordered_low low (s ∷ spans) page h a =
    elim (any_cases (IsInSpan page) s spans a) [
      | inl here ↦ omega (arith, h.0, here.0)
      | inr later ↦ let above = ordered_low s.first spans page h.1 later in omega (arith, h.0, above)
    ]

pub from_pages : (next : ℕ) (spans : List Span) (page : ℕ) → Contains (pages_from next spans) page → (next ≤ page) × Any (IsInSpan page) spans
from_pages next [] page h = absurd (contains_none page h)
from_pages next (s ∷ spans) page h =
    let a : ℕ = max next s.first in
    let n : ℕ = s.last + 1 - max next s.first in
    let mid : ℕ = max next (s.last + 1) in
    elim (Contains-append_cases (range_with_len a n) (pages_from mid spans) page h) [
      | inl run ↦
          let r = run_contains a n page run in
          let low : a ≤ page = r.0 in
          let high : page < a + n = r.1 in
          (omega arith, any_head (IsInSpan page) s spans (omega arith, omega arith))
      | inr rest ↦ let r = from_pages mid spans page rest in (omega (arith, r.0), any_later (IsInSpan page) s spans r.1)
    ]

pub to_pages : (low next : ℕ) (spans : List Span) (page : ℕ) → Ordered low spans → next ≤ page → Any (IsInSpan page) spans → Contains (pages_from next spans) page
to_pages low next [] page h l a = absurd (any_none (IsInSpan page) a)
to_pages low next (s ∷ spans) page h l a =
    let from : ℕ = max next s.first in
    let n : ℕ = s.last + 1 - max next s.first in
    let mid : ℕ = max next (s.last + 1) in
    let first : s.first ≤ page =
    elim (any_cases (IsInSpan page) s spans a) [ inl here ↦ here.0 | inr later ↦ ordered_low s.first spans page h.1 later ]
    in
    elim (cases_lt page (s.last + 1)) [
      | inl inside ↦ Contains-append_left (range_with_len from n) (pages_from mid spans) page (contains_run from n page (omega arith) (omega arith))
      | inr behind ↦ elim (any_cases (IsInSpan page) s spans a) [
        | inl here ↦ absurd (omega (arith, here.1))
        | inr later ↦ Contains-append_right (range_with_len from n) (pages_from mid spans) page (to_pages s.first mid spans page h.1 (omega arith) later)
      ]
    ]

-- a page below a bound of the runs
pub pages_below : (next top : ℕ) (spans : List Span) → All (λ (s : Span). s.last < top) spans → All (λ page. page < top) (pages_from next spans)
pages_below next top spans h =
    all_members (λ page. page < top) (pages_from next spans) (λ page c.
    let w = any_member (IsInSpan page) spans (from_pages next spans page c).1 in
    omega (arith, All-contains (λ (s : Span). s.last < top) spans w.0 h w.1, w.2.1))

-- the pages of so many bytes
pub holds_span : (piece : Piece) (page : ℕ) → HoldsByteOf piece page → (piece.address / 4096 ≤ page) × (page ≤ (piece.address + piece.size - 1) / 4096)
holds_span piece page h =
    let at : ℕ = h.0 in
    let low : piece.address ≤ at = h.1 in
    let high : at < piece.address + piece.size = h.2 in
    let is : at / 4096 ≡ page = h.3 in
    (omega arith, omega arith)

pub span_holds : (piece : Piece) (page : ℕ) → 0 < piece.size → piece.address / 4096 ≤ page → page ≤ (piece.address + piece.size - 1) / 4096 → HoldsByteOf piece page
span_holds piece page some low high =
    let at : ℕ = max piece.address (page * 4096) in
    (at, omega arith, omega arith, omega arith)

-- the runs of segments in the order of their addresses, and of the stack, are ordered
ordered_from : (low stack : ℕ) (sorted : List Segment) → low ≤ 0xC0000 - stack → All (λ (s : Segment). low ≤ s.address / 4096) sorted → All (λ (s : Segment). s.address / 4096 ≤ 0xC0000 - stack) sorted → IsNonDecreasingBy (λ (s : Segment). s.address) sorted → Ordered low (map span_of sorted ++ stack_span stack ∷ [])
ordered_from low stack [] l first last h = (l, tt)
ordered_from low stack (s ∷ sorted) l first last h = (
  All-head (λ (s : Segment). low ≤ s.address / 4096) s sorted first,
  ordered_from (s.address / 4096) stack sorted (All-head (λ (s : Segment). s.address / 4096 ≤ 0xC0000 - stack) s sorted last)
      (λ k d m. let e = h 0 (suc k) d (omega arith) (omega arith) in omega (arith, e))
      (All-tail (λ (s : Segment). s.address / 4096 ≤ 0xC0000 - stack) s sorted last)
      (λ i j d m n. h (suc i) (suc j) d (omega arith) (omega arith)),
)

module _ (file : List ℕ) (segments sorted : List Segment) (stack : ℕ) (small : stack ≤ 1024) (same : IsPermutation segments sorted) (some : All (λ (s : Segment). 0 < s.memory_size) segments) (below : All (λ (s : Segment). s.address + s.memory_size ≤ stack_start stack) segments) where
  sorted_below : All (λ (s : Segment). s.address + s.memory_size ≤ stack_start stack) sorted
  sorted_below = all_permutation (λ (s : Segment). s.address + s.memory_size ≤ stack_start stack) segments sorted same below

  pub sorted_some : All (λ (s : Segment). 0 < s.memory_size) sorted
  sorted_some = all_permutation (λ (s : Segment). 0 < s.memory_size) segments sorted same some

  pub spans_low : All (λ (s : Span). s.last < 2 ^ 20) (map span_of sorted ++ stack_span stack ∷ [])
  spans_low =
      All-append (λ (s : Span). s.last < 2 ^ 20) (map span_of sorted) (stack_span stack ∷ [])
      (All-map (λ (s : Span). s.last < 2 ^ 20) span_of sorted (λ k d l. let e = sorted_below k d l in omega (arith, e)))
      (All-cons (λ (s : Span). s.last < 2 ^ 20) (stack_span stack) [] (omega arith) (All-nil (λ (s : Span). s.last < 2 ^ 20)))

  ordered_spans : IsNonDecreasingBy (λ (s : Segment). s.address) sorted → Ordered 0 (map span_of sorted ++ stack_span stack ∷ [])
  ordered_spans h = ordered_from 0 stack sorted (omega arith) (λ k d l. omega arith) (λ k d l. let e = sorted_below k d l in omega (arith, e)) h

  to_mapped : (page : ℕ) → Any (IsInSpan page) (map span_of sorted ++ stack_span stack ∷ []) → IsMappedPage (map (piece_in file) segments) stack page
  to_mapped page a =
      elim (any_append_cases (IsInSpan page) (map span_of sorted) (stack_span stack ∷ []) a) [
        | inl p ↦ inl (any_map (λ piece. HoldsByteOf piece page) (piece_in file) segments
            (any_weaker_all (λ (s : Segment). IsInSpan page (span_of s)) (λ (s : Segment). HoldsByteOf (piece_in file s) page) (λ (s : Segment). 0 < s.memory_size) (λ s size i. span_holds (piece_in file s) page size i.0 i.1) segments some
            (any_permutation (λ (s : Segment). IsInSpan page (span_of s)) sorted segments (IsPermutation-sym segments sorted same) (any_from_map (IsInSpan page) span_of sorted p))))
        | inr q ↦ elim (any_cases (IsInSpan page) (stack_span stack) [] q) [ inl i ↦ inr (omega (arith, i.0), omega (arith, i.1)) | inr none ↦ absurd (any_none (IsInSpan page) none) ]
      ]

  from_mapped : (page : ℕ) → IsMappedPage (map (piece_in file) segments) stack page → Any (IsInSpan page) (map span_of sorted ++ stack_span stack ∷ [])
  from_mapped page m =
      elim m [
        | inl p ↦ any_append_left (IsInSpan page) (map span_of sorted) (stack_span stack ∷ []) (any_map (IsInSpan page) span_of sorted
            (any_permutation (λ (s : Segment). IsInSpan page (span_of s)) segments sorted same
            (any_weaker (λ (s : Segment). HoldsByteOf (piece_in file s) page) (λ (s : Segment). IsInSpan page (span_of s)) (λ s i. holds_span (piece_in file s) page i) segments
            (any_from_map (λ piece. HoldsByteOf piece page) (piece_in file) segments p))))
        | inr q ↦ any_append_right (IsInSpan page) (map span_of sorted) (stack_span stack ∷ []) (any_head (IsInSpan page) (stack_span stack) [] (omega (arith, q.0), omega (arith, q.1)))
      ]

  pub segments_mapped : IsNonDecreasingBy (λ (s : Segment). s.address) sorted → AreMapped (map (piece_in file) segments) stack (pages_from 0 (map span_of sorted ++ stack_span stack ∷ []))
  segments_mapped h =
      let spans : List Span = map span_of sorted ++ stack_span stack ∷ [] in
      record {
        ascending = increasing_from_rises 0 (pages_from 0 spans) (rises_pages 0 spans);
        each = λ page. (λ c. to_mapped page (from_pages 0 spans page c).1, λ m. to_pages 0 0 spans page (ordered_spans h) (omega arith) (from_mapped page m));
      }
