use Rattle.std.proofs.Common.{◌≡◌}
use Rattle.cert_text.specs.Rows.{Keeps}
use Rattle.cert_text.specs.Stretches.{letter_of, entries_of}
use Rattle.cert_text.proofs.ReadRows.{RowsSoFar}
use Rattle.cert_text.proofs.nested.read_rows.Given as goal

-- the rows so far were read and put into the tables
abbrev pub invariant-loop-m : goal.invariant-loop-m
invariant-loop-m l = record {
  rows : RowsSoFar (letter_of l.stretches) l.k l.initial.tables.steps l.m (entries_of l.stretches l.tables l.k) l.initial.reader l.reader;
  keeps : Keeps l.stretches (λ i j n. i ≡ l.k) l.initial.tables l.tables;
}
