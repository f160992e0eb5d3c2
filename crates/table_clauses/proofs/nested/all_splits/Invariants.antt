use Rattle.std.proofs.Common.{◌≡◌, length}
use Rattle.table_clauses.specs.Columns.{AreSplits}
use Rattle.table_clauses.proofs.nested.all_splits.Given as goal

abbrev pub invariant-loop-k : goal.invariant-loop-k
invariant-loop-k l = record {
  count : length l.splits.items ≡ l.k;
  are : AreSplits l.tables l.forward l.splits.items;
}
