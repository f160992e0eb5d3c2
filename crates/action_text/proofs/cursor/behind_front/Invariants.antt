use Rattle.std.proofs.Common.{◌≡◌, length}
use Rattle.action_text.specs.Bytes.{behind_front}
use Rattle.action_text.proofs.cursor.behind_front.Given as goal

abbrev pub invariant-loop-due : goal.invariant-loop-due
invariant-loop-due l = behind_front l.rest l.due ≡ behind_front l.bytes l.others

abbrev pub decreases-loop-due : goal.decreases-loop-due
decreases-loop-due l = length l.due
