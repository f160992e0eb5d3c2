-- No public clause cites this file. Runs of pages, and the pages of several of them.
use Rattle.std.specs.Prelude.{◌+◌, ◌-◌, ◌/◌, ℕ, max, List, [], ◌∷◌, ◌++◌}
use Rattle.std.specs.List.{range_with_len}
use Rattle.elf_load.specs.declared.segment.Segment.{Segment}
use Rattle.elf_load.specs.declared.pages.Span.{Span}

-- The pages of runs from a page on, in ascending order. The runs are ordered by their first pages. A run that ends
-- before that page has none, since the truncated difference is 0.
abbrev pub pages_from : ℕ → List Span → List ℕ
pages_from next [] = []
pages_from next (s ∷ spans) = range_with_len (max next s.first) (s.last + 1 - max next s.first) ++ pages_from (max next (s.last + 1)) spans

-- the pages of a segment that isn't empty, and those of a stack of at most 1,024 pages
abbrev pub span_of : Segment → Span
span_of s = record { first = s.address / 4096; last = (s.address + s.memory_size - 1) / 4096 }

abbrev pub stack_span : ℕ → Span
stack_span stack = record { first = 0xC0000 - stack; last = 0xBFFFF }
