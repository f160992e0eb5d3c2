use Rattle.std.proofs.Common.{◌≡◌, ℕ, ◌+◌, ◌<◌, ◌≤◌, ◌^◌, All, length, slice_index}
use Rattle.cost_tables.specs.Entries.{entry}
use Rattle.cost_tables.specs.TableRows.{tables_in}
use Rattle.disk_gen.proofs.disk_tables.fast_column.Given as goal

abbrev pub invariant-loop-r : goal.invariant-loop-r
invariant-loop-r l = record {
  count : length l.column.items ≡ l.r;
  low : All (λ n. n ≤ 2 ^ 61) l.column.items;
  value : (q : ℕ) → q < l.r → entry (slice_index l.column.items q) ≡ (tables_in l.fast).fresh 0 (q + 1) (slice_index l.fast.rooms 0);
}
