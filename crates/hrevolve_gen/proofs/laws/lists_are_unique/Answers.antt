use Rattle.hrevolve_gen.proofs.OnePart.{unique}
use Rattle.hrevolve_gen.proofs.laws.lists_are_unique.Goals as goal

pub returns : goal.returns
returns c = unique
