use Rattle.std.proofs.Common.{◌≡◌, All, length}
use Rattle.cost_tables.specs.TableInvariant.{IsNeverCells}
use Rattle.cost_tables.proofs.cells.never_cells.Given as goal

abbrev pub invariant-loop : goal.invariant-loop
invariant-loop l = record {
  count : length l.cells.items ≡ l.counter;
  never : All (IsNeverCells l.room) l.cells.items;
}
