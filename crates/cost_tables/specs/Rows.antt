-- No public clause cites this file. What a row is, over the rows before it.
use Rattle.std.specs.Prelude.{◌≡◌, ℕ, suc, ◌+◌, ◌-◌, ◌*◌, ◌/◌, ◌<◌, ◌≤◌, ◌^◌, min, All, IfOk, List, ◌++◌, Result, Vec, length, map, slice_index, slice_index_or}
use Rattle.std.specs.declared.alloc.Global.{Global}
use Rattle.std.specs.declared.alloc.AllocError.{AllocError}
use Rattle.cost_tables.specs.declared.rows.Row.{Row}
use Rattle.cost_tables.specs.Entries.{fresh_in, held_in, least_split, least_after}
use Rattle.cost_tables.specs.Levels.{IsLevel}

-- what the splits of the next row's stretch cost at least, at m free slots
abbrev pub split_in : List Row → ℕ → ℕ → ℕ
split_in rows forward m = least_split forward (λ q. fresh_in rows q m) (λ q. held_in rows q m) (length rows) (length rows)

-- a row of numbers for one level
pub record IsRow (room : ℕ) (row : Row) : Type 0 where
  pub fresh_wide : length row.fresh.items ≡ room + 1
  pub held_wide : length row.held.items ≡ room
  pub fresh_low : All (λ n. n ≤ 2 ^ 61) row.fresh.items
  pub held_low : All (λ n. n ≤ 2 ^ 62) row.held.items

-- the next row, made of what its splits cost
pub record IsNextRow (room write read base : ℕ) (split : ℕ → ℕ) (row : Row) : Type 0 where
  pub shape : IsRow room row
  pub none_free : slice_index row.fresh.items 0 ≡ base
  pub some_free : (m : ℕ) → m < room → slice_index row.fresh.items (suc m) ≡ min base (write + split m)
  pub is_held : (m : ℕ) → m < room → slice_index row.held.items m ≡ read + min base (split m)

-- the rows of a level
pub record AreRows (room forward write read : ℕ) (base : List ℕ) (rows : List Row) : Type 0 where
  pub shapes : All (IsRow room) rows
  pub level : IsLevel (length rows) room forward write read (slice_index base) (fresh_in rows) (held_in rows)

-- where the i-th of so many pieces of a row begins
abbrev pub cut_of : ℕ → ℕ → ℕ → ℕ
cut_of room pieces i = i * room / pieces

-- The least cost, at m free slots, of the splits of row r that use the first rows alone. They start at split r -
-- filled, up to the number of these rows. There are none where r - filled is more than that.
abbrev pub partial_in : List Row → ℕ → ℕ → ℕ → ℕ → ℕ
partial_in rows forward filled r m = least_after forward (λ q. fresh_in rows q m) (λ q. held_in rows q m) r (r - filled) (filled - (r - filled))

-- Row r has r splits. For each unfilled row before it, two of them use more than the filled rows. These are at most one
-- in eight.
abbrev pub IsMostlyStarted : ℕ → ℕ → Type 0
IsMostlyStarted filled r = 16 * r ≤ 16 * filled + r

-- this holds for so many next rows: one, and one more for each 16 filled rows
abbrev pub AreFew : ℕ → ℕ → Type 0
AreFew filled count = 16 * count ≤ filled + 16

-- the costs at each number of free slots, from m = low up to high, which is no less
pub record IsPiece (cost : ℕ → ℕ) (low high : ℕ) (costs : List ℕ) : Type 0 where
  pub wide : length costs ≡ high - low
  pub small : All (λ n. n ≤ 2 ^ 61) costs
  pub value : (i : ℕ) → i < high - low → slice_index costs i ≡ cost (low + i)

-- so many numbers, each at most `bound`
pub record IsColumn (bound count : ℕ) (number : ℕ → ℕ) (column : List ℕ) : Type 0 where
  pub long : length column ≡ count
  pub low : All (λ n. n ≤ bound) column
  pub value : (i : ℕ) → i < count → slice_index column i ≡ number i

-- the pieces of the next rows, from m = low up to high
pub record AreStarted (rows : List Row) (forward count low high : ℕ) (pieces : List (Vec ℕ Global)) : Type 0 where
  pub wide : length pieces ≡ high - low
  pub each : (i : ℕ) (d : _) → i < high - low →
      IsColumn (2 ^ 61) count (λ q. partial_in rows forward (length rows) (length rows + q) (low + i)) (slice_index_or pieces i d).items

-- there are so many rows more
abbrev pub IsMore : List Row → List Row → ℕ → Type 0
IsMore old new count = (more : List Row) × (new ≡ old ++ more) × (length more ≡ count)

-- what a piece has of row q
abbrev pub row_in : ℕ → List (Vec ℕ Global) → List ℕ
row_in q pieces = map (λ (slot : Vec ℕ Global). slice_index slot.items q) pieces

-- the pieces of the row that comes after q others
abbrev pub ArePieces : (ℕ → ℕ) → ℕ → ℕ → List (Result (Vec (Vec ℕ Global) Global) AllocError) → Type 0
ArePieces cost q room parts = (i : ℕ) (d : _) → i < length parts →
    IfOk (slice_index_or parts i d) (λ p. IsPiece cost (cut_of room (length parts) i) (cut_of room (length parts) (i + 1)) (row_in q p.items))
