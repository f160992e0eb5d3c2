use Rattle.std.proofs.Common.{ℕ}
use Rattle.level_book.specs.UnderTable.{Entry}
use Rattle.table_clauses.specs.Splits.{HaveValues, IsColumn}
use Rattle.table_clauses.proofs.column.column_of.Given as goal

abbrev pub invariant-loop-r : goal.invariant-loop-r
invariant-loop-r g l = (entries : ℕ → Entry) → HaveValues l.steps (goal.F-post g l.cost) entries → IsColumn l.r entries l.column.items
