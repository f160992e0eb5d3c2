use Rattle.rv_machine.proofs.StateInvariant.{number_is_state}
use Rattle.rv_machine.proofs.laws.runs_stay_in_machine_states.Goals as goal

pub returns : goal.returns
returns c = number_is_state
