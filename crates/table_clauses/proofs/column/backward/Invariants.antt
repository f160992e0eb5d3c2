use Rattle.std.proofs.Common.{◌≡◌, ℕ, ◌+◌, ◌-◌, ◌<◌, ◌≤◌, ◌^◌, All, length, slice_index, slice_index_or}
use Rattle.cost_tables.specs.declared.cost.Cost.TheVariants.{Number}
use Rattle.table_clauses.proofs.column.backward.Given as goal

abbrev pub invariant-loop-i : goal.invariant-loop-i
invariant-loop-i l = record {
  count : length l.low.items ≡ l.i;
  small : All (λ n. n ≤ 2 ^ 61) l.low.items;
  below : (i v : ℕ) → i < l.i → slice_index_or l.column (length l.column - (i + 1)) (Number 0) ≡ Number v → slice_index l.low.items i ≤ v;
}
