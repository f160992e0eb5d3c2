-- The rows of tables are whole, and each entry has 64 bits.
use Rattle.std.specs.Prelude.{◌≡◌, ℕ, ◌+◌, ◌^◌, ◌<◌, ◌≤◌, [], length, slice_index_or}
use Rattle.level_book.specs.UnderTable.{Entry, number, never}
use Rattle.cost_tables.specs.TableRows.{TableRows, tables_in}

-- Each level has a row for each number of steps, with an entry for each number of free slots. There is nothing else.
pub record AreShaped (t : TableRows) : Type 0 where
  pub fresh_levels : length t.fresh ≡ length t.rooms
  pub held_levels : length t.held ≡ length t.rooms
  pub fresh_rows : (k : ℕ) → k < length t.rooms → length (slice_index_or t.fresh k []) ≡ t.steps
  pub held_rows : (k : ℕ) → k < length t.rooms → length (slice_index_or t.held k []) ≡ t.steps
  pub fresh_entries : (k r : ℕ) → k < length t.rooms → r < t.steps → length (slice_index_or (slice_index_or t.fresh k []) r []) ≡ slice_index_or t.rooms k 0 + 1
  pub held_entries : (k r : ℕ) → k < length t.rooms → r < t.steps → length (slice_index_or (slice_index_or t.held k []) r []) ≡ slice_index_or t.rooms k 0

-- an entry of 64 bits: Never, or a number below 2^64
abbrev pub IsShort : Entry → Type 0
IsShort (number n) = n < 2 ^ 64
IsShort never = Unit {0}

-- each entry is one
pub record AreShort (t : TableRows) : Type 0 where
  pub fresh : (k l m : ℕ) → k < length t.rooms → 1 ≤ l → l ≤ t.steps → m ≤ slice_index_or t.rooms k 0 → IsShort ((tables_in t).fresh k l m)
  pub held : (k l m : ℕ) → k < length t.rooms → 1 ≤ l → l ≤ t.steps → m < slice_index_or t.rooms k 0 → IsShort ((tables_in t).held k l m)
