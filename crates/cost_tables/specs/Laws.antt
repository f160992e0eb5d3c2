-- What holds of the greatest under-tables.
use Rattle.std.specs.Prelude.{ℕ, ◌≤◌}
use Rattle.level_book.specs.BookCosts.{BookCosts, IsWithinLimits}
use Rattle.level_book.specs.UnderTable.{Tables, IsGreatest}
use Rattle.cost_tables.specs.ExactTables.{IsExact}
use Rattle.cost_tables.specs.Shapes.{AreShaped}
use Rattle.cost_tables.specs.TableRows.{TableRows, AreFor, tables_in}

-- each entry of the greatest under-table is attained
abbrev pub GreatestIsExact : ℕ → BookCosts → Tables → Type 0
GreatestIsExact steps book t = steps ≤ 8192 → IsWithinLimits book → IsGreatest steps book t → IsExact steps book t

-- there are greatest tables for so many steps and a book's costs, in whole rows
abbrev pub GreatestExist : ℕ → BookCosts → Type 0
GreatestExist steps book = steps ≤ 8192 → IsWithinLimits book → (t : TableRows) × AreFor steps book t × AreShaped t × IsGreatest steps book (tables_in t)
