use Rattle.std.proofs.Common.{◌≡◌, ◌<◌}
use Rattle.cost_tables.specs.TableRows.{tables_in}
use Rattle.table_clauses.specs.declared.entry.Entry.{Entry as Place}
use Rattle.table_clauses.specs.ClauseFailures.{Breaks}
use Rattle.table_clauses.proofs.nested.fresh_level.Given as goal

abbrev pub invariant-loop-m : goal.invariant-loop-m
invariant-loop-m l = (q : Place) → q.table ≡ 0 → q.level ≡ l.level.k → q.free < l.m → Breaks l.level.tables.now.steps l.level.book.now (tables_in l.level.tables.now) q → ⊥
