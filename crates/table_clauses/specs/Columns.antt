-- No public clause cites this file. Columns of a table, which clauses fail at their entries, and which place is the first.
use Rattle.std.specs.Prelude.{◌≡◌, ◌⊎◌, ℕ, ◌+◌, ◌-◌, ◌^◌, ◌<◌, ◌≤◌, Bool, true, false, List, length, Option, MatchOption, IfSome, Vec, slice_index, slice_index_or}
use Rattle.std.specs.declared.alloc.Global.{Global}
use Rattle.level_book.specs.BookCosts.{BookCosts, room}
use Rattle.level_book.specs.UnderTable.{Entry, number, sum_of, write_cost, read_cost}
use Rattle.cost_tables.specs.declared.cost.Cost.{Cost}
use Rattle.cost_tables.specs.TableRows.{TableRows, tables_in}
use Rattle.table_clauses.specs.declared.entry.Entry.{Entry as Place}
use Rattle.cost_tables.specs.declared.costs.Costs.{Costs}
use Rattle.cost_tables.specs.LevelCosts.{AreCheap}
use Rattle.table_clauses.specs.declared.search.Pair.{Pair}
use Rattle.table_clauses.specs.declared.search.FreshColumns.{FreshColumns}
use Rattle.table_clauses.specs.declared.search.HeldColumns.{HeldColumns}
use Rattle.table_clauses.specs.declared.search.Compared.{Compared}
use Rattle.table_clauses.specs.declared.nested.TableLevel.{TableLevel}
use Rattle.table_clauses.specs.ClauseFailures.{Breaks, IsAbove, IsFirst}
use Rattle.table_clauses.specs.Splits.{at_step, AreBelowSplits, IsColumn, SplitFails}

-- ---- which clause fails, over columns

abbrev pub FasterFails : Entry → Option (Vec Cost Global) → ℕ → Type 0
FasterFails own faster l = MatchOption faster ⊥ (λ column. IsAbove own (at_step column.items l))

abbrev pub MovedFails : Entry → ℕ → Option (Vec Cost Global) → ℕ → Type 0
MovedFails own read faster l = MatchOption faster ⊥ (λ column. IsAbove own (sum_of read (number 0) (at_step column.items l)))

abbrev pub BeforeSplitFails : Entry → Costs → Option Pair → ℕ → Type 0
BeforeSplitFails own costs before l =
    MatchOption before ⊥ (λ pair. SplitFails own costs.write costs.forward pair.fresh.items pair.held.items l)

abbrev pub StoredFails : Entry → ℕ → Option Pair → ℕ → Type 0
StoredFails own write before l = MatchOption before ⊥ (λ pair. IsAbove own (sum_of write (number 0) (at_step pair.held.items l)))

-- the clause fails at the entry of table F, or of table H, for l steps
abbrev pub FreshColumnFails : Costs → FreshColumns → ℕ → ℕ → Type 0
FreshColumnFails costs columns l clause =
    ((clause ≡ 1) × ((l ≡ 1) × IsAbove (at_step columns.own.items l) (number (costs.forward + costs.reverse))))
    ⊎ ((clause ≡ 2) × FasterFails (at_step columns.own.items l) columns.faster l)
    ⊎ ((clause ≡ 3) × BeforeSplitFails (at_step columns.own.items l) costs columns.before l)
    ⊎ ((clause ≡ 4) × StoredFails (at_step columns.own.items l) costs.write columns.before l)

abbrev pub HeldColumnFails : Costs → HeldColumns → ℕ → ℕ → Type 0
HeldColumnFails costs columns l clause =
    ((clause ≡ 5) × ((l ≡ 1) × IsAbove (at_step columns.here.held.items l) (number (costs.read + costs.forward + costs.reverse))))
    ⊎ ((clause ≡ 6) × MovedFails (at_step columns.here.held.items l) costs.read columns.faster l)
    ⊎ ((clause ≡ 7) × SplitFails (at_step columns.here.held.items l) costs.read costs.forward columns.here.fresh.items columns.here.held.items l)

-- columns have entries for so many steps
pub record AreLong (steps : ℕ) (columns : FreshColumns) : Type 0 where
  pub own : steps ≤ length columns.own.items
  pub faster : IfSome columns.faster (λ column. steps ≤ length column.items)
  pub before : IfSome columns.before (λ pair. (steps ≤ length pair.fresh.items) × (steps ≤ length pair.held.items))

pub record AreLongHeld (steps : ℕ) (columns : HeldColumns) : Type 0 where
  pub faster : IfSome columns.faster (λ column. steps ≤ length column.items)
  pub fresh : steps ≤ length columns.here.fresh.items
  pub held : steps ≤ length columns.here.held.items

-- the clauses of a column of table F, or of table H, can be looked at for so many steps
pub record IsFreshReached (column : Compared FreshColumns) (steps : ℕ) : Type 0 where
  pub few : steps ≤ 8192
  pub cheap : AreCheap column.costs
  pub long : AreLong steps column.columns.now
  pub enough : IfSome column.columns.now.before (λ _. steps ≤ length column.least.now)
  pub below : IfSome column.columns.now.before (λ pair. AreBelowSplits column.costs.forward (at_step pair.fresh.items) (at_step pair.held.items) column.least.now)

pub record IsHeldReached (column : Compared HeldColumns) (steps : ℕ) : Type 0 where
  pub few : steps ≤ 8192
  pub cheap : AreCheap column.costs
  pub long : AreLongHeld steps column.columns.now
  pub enough : steps ≤ length column.least.now
  pub below : AreBelowSplits column.costs.forward (at_step column.columns.now.here.fresh.items) (at_step column.columns.now.here.held.items) column.least.now

-- ---- which place is the first

-- the first clause that fails, or None where none does
abbrev pub IsFirstClause : (ℕ → Type 0) → Option ℕ → Type 0
IsFirstClause Fails o = MatchOption o ((c : ℕ) → Fails c → ⊥) (λ c. Fails c × ((d : ℕ) → d < c → Fails d → ⊥))

-- the first place at which something is broken, or None
abbrev pub Finds : (Place → Type 0) → Option Place → Type 0
Finds Broken o = MatchOption o ((p : Place) → Broken p → ⊥) (IsFirst Broken)

-- what is broken in one table, and at one level of it
abbrev pub InTable : ℕ → (Place → Type 0) → Place → Type 0
InTable table Broken p = (p.table ≡ table) × Broken p

abbrev pub InLevel : ℕ → ℕ → (Place → Type 0) → Place → Type 0
InLevel table k Broken p = (p.table ≡ table) × (p.level ≡ k) × Broken p

-- what is broken in one column
pub record InColumn (table k m steps : ℕ) (Fails : ℕ → ℕ → Type 0) (p : Place) : Type 0 where
  pub table_is : p.table ≡ table
  pub level_is : p.level ≡ k
  pub free_is : p.free ≡ m
  pub some : 1 ≤ p.steps
  pub within : p.steps ≤ steps
  pub fails : Fails p.steps p.clause

abbrev pub InFreshColumn : Costs → FreshColumns → ℕ → ℕ → ℕ → Place → Type 0
InFreshColumn costs columns k m steps = InColumn 0 k m steps (FreshColumnFails costs columns)

abbrev pub InHeldColumn : Costs → HeldColumns → ℕ → ℕ → ℕ → Place → Type 0
InHeldColumn costs columns k m steps = InColumn 1 k m steps (HeldColumnFails costs columns)

-- ---- columns of tables

-- the columns of level k at m free slots
pub record IsPair (t : TableRows) (k m : ℕ) (pair : Pair) : Type 0 where
  pub fresh : IsColumn t.steps (λ l. (tables_in t).fresh k l m) pair.fresh.items
  pub held : IsColumn t.steps (λ l. (tables_in t).held k l m) pair.held.items

-- those for a free slot less, if there is one at least
abbrev pub IsPairBefore : TableRows → ℕ → ℕ → Option Pair → Type 0
IsPairBefore t k m o = MatchOption o (m ≡ 0) (λ pair. (1 ≤ m) × IsPair t k (m - 1) pair)

-- the column of the faster level with all its slots, if there is one
abbrev pub IsFaster : TableRows → ℕ → Option (Vec Cost Global) → Type 0
IsFaster t k o = MatchOption o (k ≡ 0) (λ column. (1 ≤ k) × IsColumn t.steps (λ l. (tables_in t).fresh (k - 1) l (slice_index t.rooms (k - 1))) column.items)

pub record AreFreshColumns (t : TableRows) (k m : ℕ) (columns : FreshColumns) : Type 0 where
  pub own : IsColumn t.steps (λ l. (tables_in t).fresh k l m) columns.own.items
  pub faster : IsFaster t k columns.faster
  pub before : IsPairBefore t k m columns.before

pub record AreHeldColumns (t : TableRows) (k m : ℕ) (columns : HeldColumns) : Type 0 where
  pub faster : IsFaster t k columns.faster
  pub here : IsPair t k m columns.here

-- ---- splits of tables

-- for level k at m free slots, lower bounds for the splits of each stretch
pub record AreSplitsAt (t : TableRows) (forward k m : ℕ) (least : List ℕ) : Type 0 where
  pub count : length least ≡ t.steps
  pub below : AreBelowSplits forward (λ l. (tables_in t).fresh k l m) (λ l. (tables_in t).held k l m) least

-- for a level, such bounds at each number of free slots from 0 on
pub record AreSplitsOf (t : TableRows) (forward k : ℕ) (splits : List (Vec ℕ Global)) : Type 0 where
  pub count : length splits ≡ slice_index t.rooms k
  pub each : (m : ℕ) (d : Vec ℕ Global) → m < length splits → AreSplitsAt t forward k m (slice_index_or splits m d).items

-- such bounds for each of the first levels
abbrev pub AreSplits : TableRows → ℕ → List (Vec (Vec ℕ Global) Global) → Type 0
AreSplits t forward levels = (k : ℕ) (d : Vec (Vec ℕ Global) Global) → k < length levels → AreSplitsOf t forward k (slice_index_or levels k d).items

-- ---- a level

-- the number of table H, or of table F
abbrev pub table_number : Bool → ℕ
table_number true = 1
table_number false = 0

-- the places of a level's tables
abbrev pub LevelBreaks : TableLevel → Place → Type 0
LevelBreaks level = Breaks level.tables.now.steps level.book.now (tables_in level.tables.now)

-- A level is both in the tables and in the book, and has lower bounds for its splits. Up to it the tables have the
-- book's rooms; they may have fewer levels than the book.
pub record IsComparable (level : TableLevel) : Type 0 where
  pub rooms : (j : ℕ) → j ≤ level.k → slice_index level.tables.now.rooms j ≡ room level.book.now j level.tables.now.steps
  pub few : level.tables.now.steps ≤ 8192
  pub known : level.k < length level.book.now.levels
  pub built : level.k < length level.tables.now.rooms
  pub splits : AreSplitsOf level.tables.now level.book.now.forward level.k level.splits.now
