use Rattle.std.proofs.Common.{◌+◌, ◌^◌, length}
use Rattle.cost_tables.specs.Rows.{partial_in, IsColumn}
use Rattle.cost_tables.proofs.columns.slot_piece.Given as goal

abbrev pub invariant-loop-q : goal.invariant-loop-q
invariant-loop-q l = IsColumn (2 ^ 61) l.q (λ q. partial_in l.rows l.forward (length l.rows) (length l.rows + q) l.m) l.costs.items
