use Rattle.std.proofs.Common.{◌≡◌, ℕ, ◌+◌, ◌-◌, ◌*◌, ◌<◌, ◌≤◌, get_or, vec_len}
use Rattle.rv_pages.specs.Tables.{AreTables, entry_of}
use Rattle.rv_pages.proofs.tables.Tables.of.Given as goal

abbrev pub invariant-loop-index : goal.invariant-loop-index
invariant-loop-index l = record {
  tables : AreTables l.tables.tops.items l.tables.lows.items;
  size : vec_len l.tables.lows ≤ 1024 * (l.index + 1);
  each : (k : ℕ) → k < l.index → entry_of l.tables.tops.items l.tables.lows.items (get_or l.numbers k 0) ≡ k + 1;
  only : (q : ℕ) → 0 < entry_of l.tables.tops.items l.tables.lows.items q → (entry_of l.tables.tops.items l.tables.lows.items q ≤ l.index) × (get_or l.numbers (entry_of l.tables.tops.items l.tables.lows.items q - 1) 0 ≡ q);
}
