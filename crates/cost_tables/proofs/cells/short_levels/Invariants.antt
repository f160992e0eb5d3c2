use Rattle.std.proofs.Common.{All, take}
use Rattle.cost_tables.specs.TableInvariant.{AreShortCells}
use Rattle.cost_tables.proofs.cells.short_levels.Given as goal

abbrev pub invariant-loop-rows : goal.invariant-loop-rows
invariant-loop-rows l = All (λ level. All AreShortCells level.items) (take l.rows-index l.levels)
