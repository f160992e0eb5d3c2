use Rattle.std.proofs.Common.{◌≡◌, length}
use Rattle.action_text.specs.Bytes.{behind_line}
use Rattle.action_text.proofs.cursor.after_line.Given as goal

abbrev pub invariant-loop-rest : goal.invariant-loop-rest
invariant-loop-rest l = behind_line l.rest ≡ behind_line l.bytes

abbrev pub decreases-loop-rest : goal.decreases-loop-rest
decreases-loop-rest l = length l.rest
