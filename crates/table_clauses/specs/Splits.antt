-- No public clause cites this file. Columns of a table, and what the splits of a stretch cost by them.
use Rattle.std.specs.Prelude.{◌≡◌, ℕ, ◌+◌, ◌-◌, ◌*◌, ◌^◌, ◌<◌, ◌≤◌, All, List, length, slice_index, slice_index_or}
use Rattle.level_book.specs.UnderTable.{Entry, number, IsAtMost, sum_of}
use Rattle.cost_tables.specs.declared.cost.Cost.{Cost}
use Rattle.cost_tables.specs.declared.cost.Cost.TheVariants.{Number}
use Rattle.cost_tables.specs.TableRows.{value_of}
use Rattle.table_clauses.specs.declared.splits.Splits.{Splits}
use Rattle.table_clauses.specs.ClauseFailures.{IsAbove}

-- the entry of a column for so many steps, from 1 on; it isn't used for 0 steps
abbrev pub at_step : List Cost → ℕ → Entry
at_step column l = value_of (slice_index_or column (l - 1) (Number 0))

-- a column has these entries
pub record IsColumn (steps : ℕ) (entries : ℕ → Entry) (column : List Cost) : Type 0 where
  pub count : length column ≡ steps
  pub value : (l : ℕ) → 1 ≤ l → l ≤ steps → at_step column l ≡ entries l

-- what costs each number of steps is its entry
abbrev pub HaveValues : ℕ → (ℕ → Cost → Type 0) → (ℕ → Entry) → Type 0
HaveValues steps Costs entries = (l : ℕ) (cost : Cost) → 1 ≤ l → l ≤ steps → Costs l cost → value_of cost ≡ entries l

-- small numbers, at most the entries of a column, from the last one back
pub record IsBackward (column : List Cost) (low : List ℕ) : Type 0 where
  pub count : length low ≡ length column
  pub small : All (λ n. n ≤ 2 ^ 61) low
  pub below : (i v : ℕ) → i < length column → slice_index_or column (length column - (i + 1)) (Number 0) ≡ Number v → slice_index low i ≤ v

-- numbers that are at most an entry plus the steps to there
pub record IsAhead (forward : ℕ) (column : List Cost) (low : List ℕ) : Type 0 where
  pub count : length low ≡ length column
  pub small : All (λ n. n ≤ 2 ^ 62) low
  pub below : (i v : ℕ) → i < length column → slice_index_or column i (Number 0) ≡ Number v → slice_index low i ≤ (i + 1) * forward + v

-- a lower bound for the splits of a stretch of l steps, without the cost of its first image
abbrev pub IsBelowSplits : ℕ → (ℕ → Entry) → (ℕ → Entry) → ℕ → ℕ → Type 0
IsBelowSplits forward fresh held l n = (j i : ℕ) → 1 ≤ j → 1 ≤ i → j + i ≡ l → IsAtMost (number n) (sum_of (j * forward) (fresh i) (held j))

-- lower bounds for the splits of each stretch, from 1 step on
pub record AreBelowSplits (forward : ℕ) (fresh held : ℕ → Entry) (least : List ℕ) : Type 0 where
  pub small : All (λ n. n ≤ 2 ^ 63) least
  pub below : (l : ℕ) → 1 ≤ l → l ≤ length least → IsBelowSplits forward fresh held l (slice_index least (l - 1))

-- the splits of a stretch of l steps can be added
pub record AreAddable (l : ℕ) (splits : Splits) : Type 0 where
  pub first : splits.first < 2 ^ 32
  pub forward : splits.forward < 2 ^ 32
  pub few : l ≤ 8192
  pub fresh : l ≤ length splits.fresh.now
  pub held : l ≤ length splits.held.now

-- an entry for l steps is above the cost of some split
abbrev pub SplitFails : Entry → ℕ → ℕ → List Cost → List Cost → ℕ → Type 0
SplitFails own first forward fresh held l =
    (j : ℕ) × (i : ℕ) × (1 ≤ j) × (1 ≤ i) × (j + i ≡ l) × IsAbove own (sum_of (first + j * forward) (at_step fresh i) (at_step held j))
