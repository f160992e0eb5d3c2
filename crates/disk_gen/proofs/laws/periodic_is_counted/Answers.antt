use Rattle.disk_gen.proofs.Lengths.{periodic_counted}
use Rattle.disk_gen.proofs.laws.periodic_is_counted.Goals as goal

pub returns : goal.returns
returns c = periodic_counted
