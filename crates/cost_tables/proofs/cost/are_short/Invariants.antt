use Rattle.std.proofs.Common.{All, take}
use Rattle.cost_tables.specs.TableRows.{value_of}
use Rattle.cost_tables.specs.Shapes.{IsShort}
use Rattle.cost_tables.proofs.cost.are_short.Given as goal

abbrev pub invariant-loop-cost : goal.invariant-loop-cost
invariant-loop-cost l = All (λ cost. IsShort (value_of cost)) (take l.cost-index l.costs)
