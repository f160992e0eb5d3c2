use Rattle.std.proofs.Common.{◌≡◌, ◌≤◌, length}
use Rattle.line_texts.specs.Parsers.{without_blanks}
use Rattle.line_texts.proofs.blank.after_blanks.Given as goal

abbrev pub invariant-loop-rest : goal.invariant-loop-rest
invariant-loop-rest l = (without_blanks l.rest ≡ without_blanks l.bytes) × (length l.rest ≤ length l.bytes)

abbrev pub decreases-loop-rest : goal.decreases-loop-rest
decreases-loop-rest l = length l.rest
