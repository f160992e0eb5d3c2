use Rattle.hrevolve_gen.proofs.EndForwards.{ends_forward}
use Rattle.hrevolve_gen.proofs.laws.lists_end_forward_at_the_first_tape.Goals as goal

pub returns : goal.returns
returns c = λ steps book t list some is. ends_forward steps book t list some is
