use Rattle.std.proofs.Common.{◌≡◌, length}
use Rattle.line_texts.specs.Parsers.{digits_at}
use Rattle.line_texts.proofs.number.digits.Given as goal

-- what is read from here on is what is read from the start
abbrev pub invariant-loop-rest : goal.invariant-loop-rest
invariant-loop-rest l = digits_at l.limit l.n l.rest ≡ digits_at l.limit 0 l.bytes

abbrev pub decreases-loop-rest : goal.decreases-loop-rest
decreases-loop-rest l = length l.rest
