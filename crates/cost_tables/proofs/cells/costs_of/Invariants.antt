use Rattle.std.proofs.Common.{◌≡◌, map, take}
use Rattle.cost_tables.specs.TableRows.{value_of}
use Rattle.cost_tables.specs.Entries.{entry}
use Rattle.cost_tables.proofs.cells.costs_of.Given as goal

abbrev pub invariant-loop-n : goal.invariant-loop-n
invariant-loop-n l = map value_of l.costs.items ≡ map entry (take l.n-index l.numbers)
