use Rattle.keepers.specs.LineWrites.{seen, AddsLines}
use Rattle.cert_text.specs.WordLines.{row_lines}
use Rattle.cert_text.specs.LineWrites.{writes}
use Rattle.cert_text.specs.Stretches.{letter_of, entries_of}
use Rattle.cert_text.proofs.printing_rows.print_rows.Given as goal

-- the lines so far were written
abbrev pub invariant-loop-m : goal.invariant-loop-m
invariant-loop-m g l =
    AddsLines (writes (row_lines (letter_of l.stretches) l.k l.tables.steps l.m (entries_of l.stretches l.tables l.k)))
    (seen g.O.Sink l.initial.out) (seen g.O.Sink l.out)
