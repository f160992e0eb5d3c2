-- No public clause cites this file. Columns of disk tables, and which clauses fail at their entries.
use Rattle.std.specs.Prelude.{◌≡◌, ◌⊎◌, ℕ, ◌≤◌, Bool, true, false, length, slice_index}
use Rattle.level_book.specs.UnderTable.{number, sum_of}
use Rattle.cost_tables.specs.TableRows.{tables_in}
use Rattle.disk_gen.specs.DiskRows.{DiskRows, disk_tables_in}
use Rattle.table_clauses.specs.declared.entry.Entry.{Entry as Place}
use Rattle.cost_tables.specs.declared.costs.Costs.{Costs}
use Rattle.table_clauses.specs.declared.disk.DiskColumns.{DiskColumns}
use Rattle.table_clauses.specs.ClauseFailures.{IsAbove}
use Rattle.table_clauses.specs.Splits.{at_step, AreBelowSplits, IsColumn, SplitFails}
use Rattle.cost_tables.specs.LevelCosts.{AreCheap}
use Rattle.table_clauses.specs.Columns.{InColumn}

-- the columns are those of the tables
pub record AreDiskColumns (t : DiskRows) (columns : DiskColumns) : Type 0 where
  pub fast : IsColumn t.fast.steps (λ l. (tables_in t.fast).fresh 0 l (slice_index t.fast.rooms 0)) columns.fast.items
  pub fresh : IsColumn t.fast.steps (disk_tables_in t).disk_fresh columns.fresh.items
  pub held : IsColumn t.fast.steps (disk_tables_in t).disk_held columns.held.items

-- columns have entries for so many steps
pub record AreLongDisk (steps : ℕ) (columns : DiskColumns) : Type 0 where
  pub fast : steps ≤ length columns.fast.items
  pub fresh : steps ≤ length columns.fresh.items
  pub held : steps ≤ length columns.held.items
  pub fresh_splits : steps ≤ length columns.fresh_splits.items
  pub held_splits : steps ≤ length columns.held_splits.items

-- the numbers beside the columns are lower bounds of splits
pub record AreDiskSplits (forward : ℕ) (columns : DiskColumns) : Type 0 where
  pub fresh : AreBelowSplits forward (at_step columns.fresh.items) (at_step columns.held.items) columns.fresh_splits.items
  pub held : AreBelowSplits forward (at_step columns.fast.items) (at_step columns.held.items) columns.held_splits.items

-- the clauses of tables Fd and Hd can be looked at for so many steps
pub record AreDiskReached (costs : Costs) (columns : DiskColumns) (steps : ℕ) : Type 0 where
  pub few : steps ≤ 8192
  pub cheap : AreCheap costs
  pub long : AreLongDisk steps columns
  pub splits : AreDiskSplits costs.forward columns

-- the clause fails at the entry of table Fd, or of table Hd, for l steps
abbrev pub DiskFreshColumnFails : Costs → DiskColumns → ℕ → ℕ → Type 0
DiskFreshColumnFails costs columns l clause =
    ((clause ≡ 11) × IsAbove (at_step columns.fresh.items l) (at_step columns.fast.items l))
    ⊎ ((clause ≡ 12) × SplitFails (at_step columns.fresh.items l) costs.write costs.forward columns.fresh.items columns.held.items l)
    ⊎ ((clause ≡ 13) × IsAbove (at_step columns.fresh.items l) (sum_of costs.write (number 0) (at_step columns.held.items l)))

abbrev pub DiskHeldColumnFails : Costs → DiskColumns → ℕ → ℕ → Type 0
DiskHeldColumnFails costs columns l clause =
    ((clause ≡ 14) × IsAbove (at_step columns.held.items l) (sum_of costs.read (number 0) (at_step columns.fast.items l)))
    ⊎ ((clause ≡ 15) × SplitFails (at_step columns.held.items l) costs.read costs.forward columns.fast.items columns.held.items l)

-- for table Hd, or for table Fd
abbrev pub DiskColumnFails : Bool → Costs → DiskColumns → ℕ → ℕ → Type 0
DiskColumnFails true = DiskHeldColumnFails
DiskColumnFails false = DiskFreshColumnFails

-- what is broken in table Fd, in table Hd, and in both
abbrev pub InDiskFreshColumn : Costs → DiskColumns → ℕ → Place → Type 0
InDiskFreshColumn costs columns steps = InColumn 2 1 0 steps (DiskFreshColumnFails costs columns)

abbrev pub InDiskHeldColumn : Costs → DiskColumns → ℕ → Place → Type 0
InDiskHeldColumn costs columns steps = InColumn 3 1 0 steps (DiskHeldColumnFails costs columns)

abbrev pub InDiskColumns : Costs → DiskColumns → ℕ → Place → Type 0
InDiskColumns costs columns steps p = InDiskFreshColumn costs columns steps p ⊎ InDiskHeldColumn costs columns steps p
