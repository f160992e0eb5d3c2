use Rattle.reversal_program.proofs.Levels.{begin_empty}
use Rattle.reversal_program.proofs.laws.levels_without_files_begin_empty.Goals as goal

pub returns : goal.returns
returns g c = begin_empty g.D.Disk.told
