use Rattle.cost_tables.specs.Rows.{AreStarted}
use Rattle.cost_tables.proofs.sharing.rows_piece.Given as goal

abbrev pub invariant-loop-m : goal.invariant-loop-m
invariant-loop-m l = AreStarted l.rows l.forward l.count l.low l.m l.pieces.items
