use Rattle.reversal_program.proofs.LevelFiles.{leaves_images}
use Rattle.reversal_program.proofs.laws.runs_leave_the_images_of_their_schedule.Goals as goal

pub returns : goal.returns
returns g c = leaves_images g.D.Disk.told
