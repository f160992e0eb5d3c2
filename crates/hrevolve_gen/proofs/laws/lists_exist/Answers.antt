use Rattle.hrevolve_gen.proofs.ListExistence.{list_exists}
use Rattle.hrevolve_gen.proofs.laws.lists_exist.Goals as goal

pub returns : goal.returns
returns c = list_exists
