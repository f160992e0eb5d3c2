use Rattle.std.proofs.Common.{take}
use Rattle.cost_tables.specs.TableInvariant.{AreLevelsOf}
use Rattle.cost_tables.proofs.cells.levels_of.Given as goal

abbrev pub invariant-loop-rows : goal.invariant-loop-rows
invariant-loop-rows l = AreLevelsOf (take l.rows-index l.levels) l.cells.items
