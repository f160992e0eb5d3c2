use Rattle.rv_asm.proofs.CanonicalLines.{one_line, some_line}
use Rattle.rv_asm.proofs.laws.words_have_one_line.Goals as goal

pub returns-clause-one : goal.returns-clause-one
returns-clause-one c = one_line

pub returns-clause-some : goal.returns-clause-some
returns-clause-some c = some_line
