-- What the lists of two classes cost at least. Of a table nothing is assumed but that it is an under-table. A book's
-- levels may cost more or less than those before them. The bounds are our own. The classes and tables are those of
-- `level_book`.
use Rattle.std.specs.Prelude.{◌≡◌, ℕ, ◌<◌, ◌≤◌, List, length}
use Rattle.plan_types.specs.declared.action.Action.{Action}
use Rattle.level_book.specs.BookCosts.{BookCosts, slots_of}
use Rattle.level_book.specs.CostFold.{cost}
use Rattle.level_book.specs.NestedClass.{Nested}
use Rattle.level_book.specs.UnderTable.{number, IsAtMost, Tables, IsUnderTable, top_entry}
use Rattle.level_book.specs.DiskClass.{Disk}
use Rattle.level_book.specs.DiskUnderTable.{DiskTables, IsDiskUnderTable, disk_top_entry}

-- a nested list costs at least the top entry of an under-table
abbrev pub NestedCostsAtLeast : ℕ → BookCosts → Tables → List Action → Type 0
NestedCostsAtLeast steps book t list =
    0 < length book.levels → IsUnderTable steps book t → Nested steps (slots_of book) list → IsAtMost (top_entry steps book t) (number (cost list book))

-- if the first list costs the top entry, no nested list costs less
abbrev pub LeastOfTheNested : ℕ → BookCosts → Tables → List Action → List Action → Type 0
LeastOfTheNested steps book t list other =
    0 < length book.levels → IsUnderTable steps book t → top_entry steps book t ≡ number (cost list book) → Nested steps (slots_of book) other →
    cost list book ≤ cost other book

-- a list of the disk class costs at least the top entry of a disk under-table
abbrev pub DiskCostsAtLeast : ℕ → BookCosts → DiskTables → List Action → Type 0
DiskCostsAtLeast steps book t list =
    IsDiskUnderTable steps book t → Disk steps (slots_of book) list → IsAtMost (disk_top_entry steps t) (number (cost list book))

-- if the first list costs the top entry, no list of the disk class costs less
abbrev pub LeastOfTheDisk : ℕ → BookCosts → DiskTables → List Action → List Action → Type 0
LeastOfTheDisk steps book t list other =
    IsDiskUnderTable steps book t → disk_top_entry steps t ≡ number (cost list book) → Disk steps (slots_of book) other → cost list book ≤ cost other book
