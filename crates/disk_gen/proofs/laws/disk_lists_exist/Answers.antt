use Rattle.disk_gen.proofs.DiskExistence.{disk_list_exists}
use Rattle.disk_gen.proofs.laws.disk_lists_exist.Goals as goal

pub returns : goal.returns
returns c = disk_list_exists
