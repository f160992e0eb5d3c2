use Rattle.class_rules.proofs.Decidability.{disk_or_not}
use Rattle.class_rules.proofs.laws.disk_or_not.Goals as goal

pub returns : goal.returns
returns c = disk_or_not
