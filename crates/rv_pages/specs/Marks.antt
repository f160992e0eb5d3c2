-- Marks of pages by their indices: 4,096 bits, in words of 64.
use Rattle.std.specs.Prelude.{◌≡◌, ℕ, ◌/◌, ◌%◌, ◌<◌, ◌≤◌, List, slice_index, Option, MatchOption}
use Rattle.std.specs.Int.{bit_at}

-- the mark of an index, 0 or 1
abbrev pub mark_of : List ℕ → ℕ → ℕ
mark_of words index = bit_at (slice_index words (index / 64)) (index % 64)

-- the first marked index from this one on, if there is one
abbrev pub IsNextMark : List ℕ → ℕ → Option ℕ → Type 0
IsNextMark words from next =
    MatchOption next
    ((k : ℕ) → from ≤ k → mark_of words k ≡ 0)
    (λ index. (from ≤ index) × (index < 4096) × (mark_of words index ≡ 1) × ((k : ℕ) → from ≤ k → k < index → mark_of words k ≡ 0))
