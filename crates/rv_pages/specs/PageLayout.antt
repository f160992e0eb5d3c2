-- How pages are kept: their numbers in ascending order, and their bytes, one page after the other.
use Rattle.std.specs.Prelude.{◌≡◌, ℕ, ◌*◌, ◌/◌, ◌^◌, ◌<◌, ◌≤◌, List, [], ◌∷◌, ◌++◌, length, take, drop, slice_index}
use Rattle.std.specs.List.{All, enumerate_from}
use Rattle.std.specs.List.Sorted.{IsStrictlyIncreasing}
use Rattle.std.specs.FinMap as finmap
use Rattle.rv_pages.specs.Memory.{Memory}
use Rattle.rv_pages.specs.Marks.{mark_of}
use Rattle.rv_pages.specs.Tables.{AreTables, Finds}

-- the addresses of the pages with their bytes, where a page has so many bytes
abbrev pub entries_kept : ℕ → List ℕ → List ℕ → List (ℕ × ℕ)
entries_kept size [] bytes = []
entries_kept size (number ∷ numbers) bytes = enumerate_from (number * size) (take size bytes) ++ entries_kept size numbers (drop size bytes)

-- the memory that is kept so
unfoldable pub memory_kept : List ℕ → List ℕ → Memory
memory_kept numbers bytes = finmap.from_sorted (entries_kept 4096 numbers bytes)

-- the invariant of kept pages
pub record AreKept (numbers bytes : List ℕ) : Type 0 where
  pub ascending : IsStrictlyIncreasing numbers
  pub below : All (λ number. number < 2 ^ 20) numbers
  pub few : length numbers ≤ 4096
  pub whole : length bytes ≡ 4096 * length numbers

-- The invariant of pages. The tables find the pages. Only mapped pages are marked, and a page that isn't marked is all
-- zero.
pub record ArePages (numbers tops lows bytes words : List ℕ) : Type 0 where
  pub kept : AreKept numbers bytes
  pub tables : AreTables tops lows
  pub found : Finds tops lows numbers
  pub size : length words ≡ 64
  pub marked : (index : ℕ) → length numbers ≤ index → mark_of words index ≡ 0
  pub unmarked : (place : ℕ) → mark_of words (place / 4096) ≡ 0 → slice_index bytes place ≡ 0
