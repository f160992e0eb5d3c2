use Rattle.cert_text.proofs.ReaderSteps.{ReadsEntries}
use Rattle.cert_text.proofs.rows.entries.Given as goal

-- the entries so far were read
abbrev pub invariant-loop-i : goal.invariant-loop-i
invariant-loop-i l = ReadsEntries l.i l.row l.initial.words l.words
