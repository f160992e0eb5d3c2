use Rattle.std.proofs.Common.{◌≡◌, ℕ, ◌<◌, Vec, Global, length, slice_index_or}
use Rattle.table_clauses.specs.Columns.{AreSplitsAt}
use Rattle.table_clauses.proofs.nested.level_splits.Given as goal

abbrev pub invariant-loop-m : goal.invariant-loop-m
invariant-loop-m l = record {
  count : length l.splits.items ≡ l.m;
  each : (m : ℕ) (d : Vec ℕ Global) → m < length l.splits.items → AreSplitsAt l.tables l.forward l.k m (slice_index_or l.splits.items m d).items;
}
