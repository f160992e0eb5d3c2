use Rattle.disk_gen.proofs.DiskExistence.{greatest_disk_exist}
use Rattle.disk_gen.proofs.laws.greatest_disk_tables_exist.Goals as goal

pub returns : goal.returns
returns c = greatest_disk_exist
