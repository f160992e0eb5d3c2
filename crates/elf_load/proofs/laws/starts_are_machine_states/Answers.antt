use Rattle.elf_load.proofs.StartStates.{starts_are_states}
use Rattle.elf_load.proofs.laws.starts_are_machine_states.Goals as goal

pub returns : goal.returns
returns c = starts_are_states
