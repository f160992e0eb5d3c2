use Rattle.std.proofs.Common.{◌≡◌, ◌≤◌, ◌*◌, take, map}
use Rattle.std.specs.Vec.{vec_len, vec_capacity}
use Rattle.reversal.specs.Deeds.{bytes_of}
use Rattle.reversal.specs.Listing.{ended_line}
use Rattle.reversal.proofs.listing.next_piece.Given as goal

-- the piece has the lines of so many words
abbrev pub invariant-loop-word : goal.invariant-loop-word
invariant-loop-word l = record {
  piece : l.piece.items ≡ bytes_of (take l.word-index (map ended_line l.first));
  short : vec_len l.piece ≤ 81 * l.word-index;
  room : 5184 ≤ vec_capacity l.piece;
}
