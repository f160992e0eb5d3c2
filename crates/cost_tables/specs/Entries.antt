-- The entries of one level, as numbers in memory. Rows are counted from 0: row r is for
-- stretches of r + 1 steps.
use Rattle.std.specs.Prelude.{ℕ, zero, suc, ◌+◌, ◌-◌, ◌*◌, ◌^◌, min, cond, nat_lt, List, [], map, slice_index, slice_index_or}
use Rattle.level_book.specs.UnderTable.{Entry, number, never}
use Rattle.cost_tables.specs.declared.rows.Row.{Row}

-- the number for Never, above all other entries
abbrev pub never_in_memory : ℕ
never_in_memory = 2 ^ 61

-- the entry of a number in memory
abbrev pub entry : ℕ → Entry
entry n = cond (nat_lt n never_in_memory) (number n) never

-- the number in row r at m free slots, with the first state in work, and with it held
abbrev pub fresh_in : List Row → ℕ → ℕ → ℕ
fresh_in rows r m = slice_index (slice_index_or (map (λ (row : Row). row.fresh.items) rows) r []) m

abbrev pub held_in : List Row → ℕ → ℕ → ℕ
held_in rows r m = slice_index (slice_index_or (map (λ (row : Row). row.held.items) rows) r []) m

-- The least cost of the first splits of row r's stretch, without that of its first image. Split i leaves i + 1 steps to
-- the first state.
abbrev pub least_split : ℕ → (ℕ → ℕ) → (ℕ → ℕ) → ℕ → ℕ → ℕ
least_split forward fresh held r zero = never_in_memory
least_split forward fresh held r (suc i) = min (least_split forward fresh held r i) ((i + 1) * forward + fresh (r - (i + 1)) + held i)

-- the least cost of n splits, from split `low` on
abbrev pub least_after : ℕ → (ℕ → ℕ) → (ℕ → ℕ) → ℕ → ℕ → ℕ → ℕ
least_after forward fresh held r low zero = never_in_memory
least_after forward fresh held r low (suc n) =
    min (least_after forward fresh held r low n) ((low + n + 1) * forward + fresh (r - (low + n + 1)) + held (low + n))

-- the least of the first n costs
abbrev pub least_of : (ℕ → ℕ) → ℕ → ℕ
least_of cost zero = never_in_memory
least_of cost (suc n) = min (least_of cost n) (cost n)
