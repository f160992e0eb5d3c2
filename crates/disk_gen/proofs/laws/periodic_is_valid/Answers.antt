use Rattle.disk_gen.proofs.PeriodicValidity.{periodic_valid}
use Rattle.disk_gen.proofs.laws.periodic_is_valid.Goals as goal

pub returns : goal.returns
returns c = periodic_valid
