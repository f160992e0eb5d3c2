use Rattle.keepers.specs.LineWrites.{seen}
use Rattle.cert_text.specs.LineWrites.{Puts}
use Rattle.cert_text.specs.Stretches.{entries_of}
use Rattle.cert_text.proofs.RowWrites.{entry_words}
use Rattle.cert_text.proofs.printing_rows.print_row.Given as goal

-- the entries so far were put behind the words before them
abbrev pub invariant-loop-l : goal.invariant-loop-l
invariant-loop-l g l =
    Puts (entry_words (entries_of l.stretches l.tables l.k l.m) l.l) l.initial.piece.room l.initial.piece.text l.piece.room l.piece.text
    (seen g.O.Sink l.initial.out) (seen g.O.Sink l.out)
