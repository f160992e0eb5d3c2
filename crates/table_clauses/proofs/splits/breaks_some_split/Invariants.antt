use Rattle.std.proofs.Common.{◌≡◌, ℕ, ◌+◌, ◌*◌, ◌<◌, ◌≤◌}
use Rattle.level_book.specs.UnderTable.{IsAtMost, sum_of}
use Rattle.cost_tables.specs.TableRows.{value_of}
use Rattle.table_clauses.specs.Splits.{at_step}
use Rattle.table_clauses.proofs.splits.breaks_some_split.Given as goal

abbrev pub invariant-loop-j : goal.invariant-loop-j
invariant-loop-j l = (j i : ℕ) → 1 ≤ j → 1 ≤ i → j + i ≡ l.l → j < l.j → IsAtMost (value_of l.own) (sum_of (l.splits.first + j * l.splits.forward) (at_step l.splits.fresh.now i) (at_step l.splits.held.now j))
