use Rattle.std.proofs.Common.{◌≡◌, length}
use Rattle.table_clauses.specs.Splits.{at_step, AreBelowSplits}
use Rattle.table_clauses.proofs.splits.least_splits.Given as goal

abbrev pub invariant-loop-r : goal.invariant-loop-r
invariant-loop-r l = record {
  count : length l.least.items ≡ l.r;
  below : AreBelowSplits l.forward (at_step l.fresh) (at_step l.held) l.least.items;
}
