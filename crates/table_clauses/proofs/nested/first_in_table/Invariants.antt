use Rattle.std.proofs.Common.{◌≡◌, ◌<◌}
use Rattle.cost_tables.specs.TableRows.{tables_in}
use Rattle.table_clauses.specs.declared.entry.Entry.{Entry as Place}
use Rattle.table_clauses.specs.ClauseFailures.{Breaks}
use Rattle.table_clauses.specs.Columns.{table_number}
use Rattle.table_clauses.proofs.nested.first_in_table.Given as goal

abbrev pub invariant-loop-k : goal.invariant-loop-k
invariant-loop-k l = (q : Place) → q.table ≡ table_number l.is_held → q.level < l.k → Breaks l.tables.steps l.book (tables_in l.tables) q → ⊥
