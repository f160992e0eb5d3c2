use Rattle.keepers.proofs.SlotImages.{get_there, level_empty}
use Rattle.keepers.proofs.laws.levels_hold_what_their_files_hold.Goals as goal

pub returns-clause-each : goal.returns-clause-each
returns-clause-each c = λ folder level slots slot files h. get_there folder level slots files slot h

pub returns-clause-none : goal.returns-clause-none
returns-clause-none c = level_empty
