use Rattle.std.proofs.Common.{◌≡◌, length}
use Rattle.disk_gen.specs.DiskInvariant.{IsHeldColumn}
use Rattle.disk_gen.proofs.disk_tables.held_column.Given as goal

abbrev pub invariant-loop-r : goal.invariant-loop-r
invariant-loop-r l = record {
  count : length l.held.items ≡ l.r;
  column : IsHeldColumn l.forward l.read l.fast l.held.items;
}
