use Rattle.std.proofs.Common.{◌+◌, ◌<◌}
use Rattle.table_clauses.specs.declared.entry.Entry.{Entry as Place}
use Rattle.table_clauses.specs.Columns.{InColumn}
use Rattle.table_clauses.proofs.search.first_in_column.Given as goal

abbrev pub invariant-loop-r : goal.invariant-loop-r
invariant-loop-r g l = (q : Place) → InColumn l.table l.level l.free l.steps (g.C.Column.fails l.column) q → q.steps < l.r + 1 → ⊥
