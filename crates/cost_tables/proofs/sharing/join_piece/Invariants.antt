use Rattle.std.proofs.Common.{◌≡◌, ◌++◌, take}
use Rattle.cost_tables.specs.Rows.{row_in}
use Rattle.cost_tables.proofs.sharing.join_piece.Given as goal

abbrev pub invariant-loop-slot : goal.invariant-loop-slot
invariant-loop-slot l = l.costs.items ≡ l.fn.costs.items ++ row_in l.q (take l.slot-index l.pieces)
