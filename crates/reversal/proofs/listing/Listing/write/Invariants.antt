use Rattle.std.proofs.Common.{◌≡◌, ◌≤◌, [], length}
use Rattle.std.specs.Vec.{vec_capacity}
use Rattle.reversal.specs.Listing.{ended_line, word_pieces}
use Rattle.reversal.proofs.Pieces.{IsWritten}
use Rattle.reversal.proofs.listing.Listing.write.Given as goal

-- some pieces were written, and behind them stand those of the words that are left
abbrev pub invariant-loop-rest : goal.invariant-loop-rest
invariant-loop-rest g l = record {
  so_far : IsWritten ended_line (word_pieces l.fn.self.words.items) [] l.rest (g.O.Sink.told l.fn.out) (g.O.Sink.told l.out) (g.O.Sink.call_count l.fn.out) (g.O.Sink.call_count l.out);
  room : 5184 ≤ vec_capacity l.piece;
  faults : g.O.Sink.fault_count l.out ≡ g.O.Sink.fault_count l.fn.out;
}

abbrev pub decreases-loop-rest : goal.decreases-loop-rest
decreases-loop-rest g l = length l.rest
