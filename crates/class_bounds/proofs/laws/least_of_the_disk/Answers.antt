use Rattle.class_bounds.proofs.DiskCosts.{disk_least}
use Rattle.class_bounds.proofs.laws.least_of_the_disk.Goals as goal

pub returns : goal.returns
returns c = disk_least
