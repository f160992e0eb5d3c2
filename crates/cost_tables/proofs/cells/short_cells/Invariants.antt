use Rattle.std.proofs.Common.{All, take}
use Rattle.cost_tables.specs.TableInvariant.{AreShortCells}
use Rattle.cost_tables.proofs.cells.short_cells.Given as goal

abbrev pub invariant-loop-cells : goal.invariant-loop-cells
invariant-loop-cells l = All AreShortCells (take l.cells-index l.rows)
