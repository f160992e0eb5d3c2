use Rattle.reverse_runner.proofs.ResidueContents.{holds_spared, holds_put_to, holds_released}
use Rattle.reverse_runner.proofs.laws.refused_actions_leave_their_images.Goals as goal

pub returns-clause-spared : goal.returns-clause-spared
returns-clause-spared c = holds_spared

pub returns-clause-put_to : goal.returns-clause-put_to
returns-clause-put_to c = holds_put_to

pub returns-clause-released : goal.returns-clause-released
returns-clause-released c = holds_released
