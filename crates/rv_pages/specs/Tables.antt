-- How the index of a page is found by its number: two levels of tables, with 1,024 entries each.
use Rattle.std.specs.Prelude.{◌≡◌, ◌≢◌, ℕ, ◌+◌, ◌-◌, ◌*◌, ◌/◌, ◌%◌, ◌<◌, ◌≤◌, List, length, slice_index}

-- The entry of a page number. The upper ten bits choose a lower table, and the others an entry of it. It is 0 if the
-- page isn't mapped, and otherwise one more than its index.
abbrev pub entry_of : List ℕ → List ℕ → ℕ → ℕ
entry_of tops lows number = slice_index lows (slice_index tops (number / 1024) * 1024 + number % 1024)

-- The invariant of such tables. Each lower table exists, table 0 has no page, and no two upper entries share another
-- table.
pub record AreTables (tops lows : List ℕ) : Type 0 where
  pub count : length tops ≡ 1024
  pub whole : length lows % 1024 ≡ 0
  pub inside : (top : ℕ) → slice_index tops top * 1024 + 1024 ≤ length lows
  pub none : (place : ℕ) → place < 1024 → slice_index lows place ≡ 0
  pub apart : (a b : ℕ) → a ≢ b → slice_index tops a ≡ slice_index tops b → slice_index tops a ≡ 0

-- The tables find exactly these page numbers. An entry above 0 is one more than a number's place, so subtracting 1
-- doesn't truncate.
pub record Finds (tops lows numbers : List ℕ) : Type 0 where
  pub each : (k : ℕ) → k < length numbers → entry_of tops lows (slice_index numbers k) ≡ k + 1
  pub only : (number : ℕ) → 0 < entry_of tops lows number →
      (entry_of tops lows number ≤ length numbers) × (slice_index numbers (entry_of tops lows number - 1) ≡ number)
