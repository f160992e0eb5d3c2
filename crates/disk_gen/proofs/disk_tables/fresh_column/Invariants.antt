use Rattle.std.proofs.Common.{◌≡◌, length}
use Rattle.disk_gen.specs.DiskInvariant.{IsFreshColumn}
use Rattle.disk_gen.proofs.disk_tables.fresh_column.Given as goal

abbrev pub invariant-loop-r : goal.invariant-loop-r
invariant-loop-r l = record {
  count : length l.fresh.items ≡ l.r;
  column : IsFreshColumn l.forward l.write l.fast l.held l.fresh.items;
}
