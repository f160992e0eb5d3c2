use Rattle.cert_text.proofs.ReadRows.{LevelsSoFar}
use Rattle.cert_text.proofs.nested.read_levels.Given as goal

-- the levels so far were read
abbrev pub invariant-loop-k : goal.invariant-loop-k
invariant-loop-k l = LevelsSoFar l.k l.initial.tables l.tables l.initial.reader l.reader
