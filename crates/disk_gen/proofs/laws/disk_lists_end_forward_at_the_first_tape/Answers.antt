use Rattle.disk_gen.proofs.DiskEndForwards.{disk_ends_forward}
use Rattle.disk_gen.proofs.laws.disk_lists_end_forward_at_the_first_tape.Goals as goal

pub returns : goal.returns
returns c = λ steps book t list some is. disk_ends_forward steps book t list some is
