use Rattle.cost_tables.specs.Rows.{IsPiece, split_in}
use Rattle.cost_tables.proofs.rows.finished.Given as goal

abbrev pub invariant-loop-m : goal.invariant-loop-m
invariant-loop-m l = IsPiece (split_in l.rows l.forward) 0 l.m l.costs.items
