-- What it means that a clause of an under-table fails.
use Rattle.std.specs.Prelude.{◌↔◌, ◌⊎◌, ℕ}
use Rattle.level_book.specs.BookCosts.{BookCosts}
use Rattle.level_book.specs.UnderTable.{Tables, IsUnderTable}
use Rattle.level_book.specs.DiskUnderTable.{DiskTables, IsDiskUnderTable}
use Rattle.table_clauses.specs.declared.entry.Entry.{Entry as Place}
use Rattle.table_clauses.specs.ClauseFailures.{Breaks, DiskBreaks, IsFirst}

-- Tables are an under-table exactly if no clause fails at any place.
abbrev pub UnderWhereNoneFails : ℕ → BookCosts → Tables → Type 0
UnderWhereNoneFails steps book t = IsUnderTable steps book t ↔ ((p : Place) → Breaks steps book t p → ⊥)

-- Disk tables are a disk under-table exactly if no clause fails at any place.
abbrev pub DiskUnderWhereNoneFails : ℕ → BookCosts → DiskTables → Type 0
DiskUnderWhereNoneFails steps book t = IsDiskUnderTable steps book t ↔ ((p : Place) → DiskBreaks steps book t p → ⊥)

-- Tables are an under-table, or a clause fails at a first place.
abbrev pub UnderOrFirst : ℕ → BookCosts → Tables → Type 0
UnderOrFirst steps book t = IsUnderTable steps book t ⊎ ((p : Place) × IsFirst (Breaks steps book t) p)

-- Disk tables are a disk under-table, or a clause fails at a first place.
abbrev pub DiskUnderOrFirst : ℕ → BookCosts → DiskTables → Type 0
DiskUnderOrFirst steps book t = IsDiskUnderTable steps book t ⊎ ((p : Place) × IsFirst (DiskBreaks steps book t) p)
