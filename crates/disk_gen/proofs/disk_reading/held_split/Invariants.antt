use Rattle.std.proofs.Common.{◌≢◌, ℕ, ◌+◌, ◌-◌, ◌*◌, ◌<◌, ◌≤◌, slice_index}
use Rattle.level_book.specs.UnderTable.{sum_of}
use Rattle.cost_tables.specs.TableRows.{value_of}
use Rattle.disk_gen.specs.DiskRows.{disk_tables_in}
use Rattle.disk_gen.proofs.disk_reading.held_split.Given as goal

abbrev pub invariant-loop-i : goal.invariant-loop-i
invariant-loop-i l = (i : ℕ) → 1 ≤ i → i < l.i →
    value_of l.own ≢ sum_of (l.read + i * l.forward) ((disk_tables_in l.tables).fresh (l.l - i) (slice_index l.tables.fast.rooms 0)) ((disk_tables_in l.tables).disk_held i)
