use Rattle.std.proofs.Common.{ℕ, length}
use Rattle.cost_tables.specs.Rows.{IsPiece, ArePieces, cut_of}
use Rattle.cost_tables.proofs.sharing.joined.Given as goal

abbrev pub invariant-loop-part : goal.invariant-loop-part
invariant-loop-part l = (cost : ℕ → ℕ) → ArePieces cost l.q l.room l.parts → IsPiece cost 0 (cut_of l.room (length l.parts) l.part-index) l.costs.items
