use Rattle.keepers.proofs.Paths.{one_path}
use Rattle.keepers.proofs.SlotImages.{levels_apart}
use Rattle.keepers.proofs.laws.levels_have_files_of_their_own.Goals as goal

pub returns-clause-paths : goal.returns-clause-paths
returns-clause-paths c = one_path

pub returns-clause-apart : goal.returns-clause-apart
returns-clause-apart c = levels_apart
