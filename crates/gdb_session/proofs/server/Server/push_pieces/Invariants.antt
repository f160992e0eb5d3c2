use Rattle.std.proofs.Common.{length}
use Rattle.gdb_session.proofs.Pieces.{PiecesSoFar}
use Rattle.gdb_session.proofs.server.Server.push_pieces.Given as goal

-- the pieces so far were added
abbrev pub invariant-loop-rest : goal.invariant-loop-rest
invariant-loop-rest l = PiecesSoFar l.text l.rest l.fn.self l.self

abbrev pub decreases-loop-rest : goal.decreases-loop-rest
decreases-loop-rest l = length l.rest
