use Rattle.std.proofs.Common.{take}
use Rattle.cost_tables.specs.TableInvariant.{AreCellsOf}
use Rattle.cost_tables.proofs.cells.cells_of.Given as goal

abbrev pub invariant-loop-row : goal.invariant-loop-row
invariant-loop-row l = AreCellsOf (take l.row-index l.rows) l.cells.items
