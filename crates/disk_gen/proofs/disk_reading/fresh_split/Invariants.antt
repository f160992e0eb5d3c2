use Rattle.std.proofs.Common.{◌≢◌, ℕ, ◌+◌, ◌-◌, ◌*◌, ◌<◌, ◌≤◌}
use Rattle.level_book.specs.UnderTable.{sum_of}
use Rattle.cost_tables.specs.TableRows.{value_of}
use Rattle.disk_gen.specs.DiskRows.{disk_tables_in}
use Rattle.disk_gen.proofs.disk_reading.fresh_split.Given as goal

abbrev pub invariant-loop-j : goal.invariant-loop-j
invariant-loop-j l = (j : ℕ) → 1 ≤ j → j < l.j →
    value_of l.own ≢ sum_of (l.write + j * l.forward) ((disk_tables_in l.tables).disk_fresh (l.l - j)) ((disk_tables_in l.tables).disk_held j)
