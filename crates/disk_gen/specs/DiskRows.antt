-- The model of built disk tables: their entries in rows, and their numbers of steps and slots.
use Rattle.std.specs.Prelude.{◌≡◌, ℕ, ◌-◌, ◌<◌, ◌≤◌, List, slice_index_or}
use Rattle.level_book.specs.BookCosts.{BookCosts, room}
use Rattle.level_book.specs.UnderTable.{Entry, number, never}
use Rattle.level_book.specs.DiskUnderTable.{DiskTables, IsGreatestDisk}
use Rattle.cost_tables.specs.TableRows.{TableRows, AreFor, FastestTablesFit, fastest, tables_in}
use Rattle.disk_gen.specs.DiskPlans.{HasDiskPlan}

-- The tables of level 0, as if the book had no other, and the entries over both levels. There is an entry for each
-- number of steps from 1 on.
pub record DiskRows : Type 0 where
  pub fast : TableRows
  pub disk_fresh : List Entry
  pub disk_held : List Entry

-- The disk tables in the rows. An entry is used only for a step or more, so l - 1 doesn't truncate.
abbrev pub disk_tables_in : DiskRows → DiskTables
disk_tables_in t = record {
  fresh = (tables_in t.fast).fresh 0;
  held = (tables_in t.fast).held 0;
  disk_fresh = λ l. slice_index_or t.disk_fresh (l - 1) (number 0);
  disk_held = λ l. slice_index_or t.disk_held (l - 1) (number 0);
}

-- the tables are for so many steps and level 0 of a book
abbrev pub AreDiskSized : ℕ → BookCosts → DiskRows → Type 0
AreDiskSized steps book t = AreFor steps (fastest book) t.fast

-- the tables fit so many steps and level 0 of a book, and the book has a plan
pub record AreDiskFor (steps : ℕ) (book : BookCosts) (t : DiskRows) : Type 0 where
  pub sized : AreDiskSized steps book t
  pub plan : HasDiskPlan book

-- the greatest disk tables, built for so many steps and a book
pub record AreGreatestDiskFor (steps : ℕ) (book : BookCosts) (t : DiskRows) : Type 0 where
  pub fits : FastestTablesFit steps book
  pub sizes : AreDiskFor steps book t
  pub greatest : IsGreatestDisk steps book (disk_tables_in t)

-- each entry for at most so many steps and a book is Never
pub record AreAllNeverDisk (steps : ℕ) (book : BookCosts) (t : DiskTables) : Type 0 where
  pub fresh : (l m : ℕ) → 1 ≤ l → l ≤ steps → m ≤ room book 0 steps → t.fresh l m ≡ never
  pub held : (l m : ℕ) → 1 ≤ l → l ≤ steps → m < room book 0 steps → t.held l m ≡ never
  pub disk_fresh : (l : ℕ) → 1 ≤ l → l ≤ steps → t.disk_fresh l ≡ never
  pub disk_held : (l : ℕ) → 1 ≤ l → l ≤ steps → t.disk_held l ≡ never
