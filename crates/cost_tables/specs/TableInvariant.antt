-- No public clause cites this file. The invariant of tables while they are built, and their model.
use Rattle.std.specs.Prelude.{◌≡◌, All, ℕ, zero, suc, ◌<◌, ◌+◌, ◌≤◌, ◌^◌, List, [], length, map, slice_index_or, Vec}
use Rattle.std.specs.declared.alloc.Global.{Global}
use Rattle.level_book.specs.BookCosts.{BookCosts, room}
use Rattle.level_book.specs.UnderTable.{Entry, write_cost, read_cost}
use Rattle.cost_tables.specs.declared.cost.Cost.TheVariants.{Never}
use Rattle.cost_tables.specs.declared.cells.Cells.{Cells}
use Rattle.cost_tables.specs.declared.rows.Row.{Row}
use Rattle.cost_tables.specs.declared.tables.Tables.TheInside.{Inside}
use Rattle.cost_tables.specs.Entries.{entry, never_in_memory, fresh_in, held_in}
use Rattle.cost_tables.specs.Levels.{IsLevel, base_of}
use Rattle.cost_tables.specs.Rows.{IsRow}
use Rattle.cost_tables.specs.TableRows.{TableRows, value_of}
use Rattle.cost_tables.specs.Shapes.{IsShort}

-- the rows of level k
abbrev pub rows_at : List (Vec Row Global) → ℕ → List Row
rows_at levels k = slice_index_or (map (λ (rows : Vec Row Global). rows.items) levels) k []

abbrev pub fresh_at : List (Vec Row Global) → ℕ → ℕ → ℕ → ℕ
fresh_at levels k = fresh_in (rows_at levels k)

abbrev pub held_at : List (Vec Row Global) → ℕ → ℕ → ℕ → ℕ
held_at levels k = held_in (rows_at levels k)

-- the model of a level: its entries in rows
abbrev pub fresh_entries : List Row → List (List Entry)
fresh_entries rows = map (λ (row : Row). map entry row.fresh.items) rows

abbrev pub held_entries : List Row → List (List Entry)
held_entries rows = map (λ (row : Row). map entry row.held.items) rows

-- what is kept of level k
abbrev pub cells_at : List (Vec Cells Global) → ℕ → List Cells
cells_at levels k = slice_index_or (map (λ (cells : Vec Cells Global). cells.items) levels) k []

-- the model of its cells
abbrev pub fresh_costs : List Cells → List (List Entry)
fresh_costs cells = map (λ (c : Cells). map value_of c.fresh.items) cells

abbrev pub held_costs : List Cells → List (List Entry)
held_costs cells = map (λ (c : Cells). map value_of c.held.items) cells

abbrev pub view_of : Inside → TableRows
view_of t = record {
  steps = t.steps;
  rooms = t.rooms.items;
  fresh = map (λ (cells : Vec Cells Global). fresh_costs cells.items) t.levels.items;
  held = map (λ (cells : Vec Cells Global). held_costs cells.items) t.levels.items;
}

-- what is kept are the entries of rows
pub record AreCellsOf (rows : List Row) (cells : List Cells) : Type 0 where
  pub fresh : fresh_costs cells ≡ fresh_entries rows
  pub held : held_costs cells ≡ held_entries rows

-- the cells of all levels are the entries of their rows
pub record AreLevelsOf (levels : List (Vec Row Global)) (cells : List (Vec Cells Global)) : Type 0 where
  pub fresh : map (λ (c : Vec Cells Global). fresh_costs c.items) cells ≡ map (λ (rows : Vec Row Global). fresh_entries rows.items) levels
  pub held : map (λ (c : Vec Cells Global). held_costs c.items) cells ≡ map (λ (rows : Vec Row Global). held_entries rows.items) levels

-- there is an entry for each number of free slots
pub record IsWide (room : ℕ) (cells : Cells) : Type 0 where
  pub fresh_wide : length cells.fresh.items ≡ room + 1
  pub held_wide : length cells.held.items ≡ room

-- each of them is Never, and there is one for each number of free slots
pub record IsNeverCells (room : ℕ) (cells : Cells) : Type 0 where
  pub wide : IsWide room cells
  pub fresh : All (λ cost. cost ≡ Never) cells.fresh.items
  pub held : All (λ cost. cost ≡ Never) cells.held.items

-- what is kept has 64 bits
pub record AreShortCells (cells : Cells) : Type 0 where
  pub fresh : All (λ cost. IsShort (value_of cost)) cells.fresh.items
  pub held : All (λ cost. IsShort (value_of cost)) cells.held.items

-- one step alone
abbrev pub first_in : ℕ → ℕ → ℕ
first_in one zero = one
first_in one (suc r) = never_in_memory

-- the first k levels of a book, and what the next one builds on
pub record AreBuilt (steps : ℕ) (book : BookCosts) (k : ℕ) (levels : List (Vec Row Global)) (rooms : List ℕ) (base : List ℕ) : Type 0 where
  pub room_count : length rooms ≡ k
  pub rooms_are : (j : ℕ) → j < k → slice_index_or rooms j 0 ≡ room book j steps
  pub row_count : (j : ℕ) → j < k → length (rows_at levels j) ≡ steps
  pub shapes : (j : ℕ) → j < k → All (IsRow (room book j steps)) (rows_at levels j)
  pub count : length levels ≡ k
  pub base_count : length base ≡ steps
  pub base_low : (r d : ℕ) → r < length base → slice_index_or base r d ≤ 2 ^ 61
  pub base_is : (r : ℕ) → r < steps → slice_index_or base r 0 ≡ base_of book.forward book.reverse (λ j. room book j steps) (fresh_at levels) k r
  pub cheap_write : (j : ℕ) → j < k → write_cost book j < 2 ^ 32
  pub cheap_read : (j : ℕ) → j < k → read_cost book j < 2 ^ 32
  pub are_levels : (j : ℕ) → j < k →
      IsLevel steps (room book j steps) book.forward (write_cost book j) (read_cost book j)
      (base_of book.forward book.reverse (λ j. room book j steps) (fresh_at levels) j) (fresh_at levels j) (held_at levels j)

-- the first k levels of a book, with every entry Never
pub record AreNever (steps : ℕ) (book : BookCosts) (k : ℕ) (levels : List (Vec Cells Global)) (rooms : List ℕ) : Type 0 where
  pub room_count : length rooms ≡ k
  pub rooms_are : (j : ℕ) → j < k → slice_index_or rooms j 0 ≡ room book j steps
  pub count : length levels ≡ k
  pub row_count : (j : ℕ) → j < k → length (cells_at levels j) ≡ steps
  pub cells : (j : ℕ) → j < k → All (IsNeverCells (room book j steps)) (cells_at levels j)

-- There are one to four levels. Each has a row for each number of steps, with an entry for each number of free slots.
pub record AreWhole (t : Inside) : Type 0 where
  pub some_levels : 1 ≤ length t.rooms.items
  pub few_levels : length t.rooms.items ≤ 4
  pub level_count : length t.levels.items ≡ length t.rooms.items
  pub row_count : (k : ℕ) → k < length t.rooms.items → length (cells_at t.levels.items k) ≡ t.steps
  pub shapes : (k : ℕ) → k < length t.rooms.items → All (IsWide (slice_index_or t.rooms.items k 0)) (cells_at t.levels.items k)
