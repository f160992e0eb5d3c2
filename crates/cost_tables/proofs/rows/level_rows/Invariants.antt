use Rattle.std.proofs.Common.{◌≤◌, ◌-◌, length}
use Rattle.cost_tables.specs.Rows.{AreRows}
use Rattle.cost_tables.proofs.rows.level_rows.Given as goal

abbrev pub invariant-loop-alloc : goal.invariant-loop-alloc
invariant-loop-alloc g l = record {
  within : length l.rows.items ≤ length l.base;
  rows : AreRows l.room l.costs.forward l.costs.write l.costs.read l.base l.rows.items;
}

abbrev pub decreases-loop-alloc : goal.decreases-loop-alloc
decreases-loop-alloc g l = length l.base - length l.rows.items
