use Rattle.std.proofs.Common.{◌∙◌, ap, arith}
use Rattle.std.proofs.lemmas.Option.{slice_get-get_or}
use Rattle.reversal.specs.Listing.{ended_line}
use Rattle.reversal.specs.Deeds.{bytes_of}
use Rattle.reversal.proofs.Pieces.{piece_more}
use Rattle.reversal.proofs.WordLists.{first_lines, words_left}
use Rattle.reversal.proofs.listing.next_piece.Goals as goal

pub loop-word-preserved : goal.loop-word-preserved
loop-word-preserved c =
    let inv = c.loop-word.invariant in
    let short = c.push_line.ensures.short in
    let room = c.push_line.ensures.capacity in
    record {
      piece = piece_more ended_line c.split_at.result.0.now c.loop-word.word-index _ _ _ (slice_get-get_or c.split_at.result.0.now c.loop-word.word-index 0 c.loop-word-test.true) inv.piece c.push_line.ensures.text;
      short = omega (arith, short, inv.short);
      room = omega (arith, room, inv.room);
    }

pub returns-clause-piece : goal.returns-clause-piece
returns-clause-piece c =
    c.loop-word.invariant.piece
    ∙ ap bytes_of (first_lines ended_line c.args.words.now c.split_at.result.0.now c.min.result c.loop-word.word-index c.split_at.ensures.front (omega arith) c.loop-word-test.false)

pub returns-clause-left : goal.returns-clause-left
returns-clause-left c = words_left c.args.words.now c.split_at.result.1.now c.min.result c.split_at.ensures.back (omega arith)
