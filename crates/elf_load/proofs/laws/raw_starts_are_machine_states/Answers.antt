use Rattle.elf_load.proofs.StartStates.{raw_starts_are_states}
use Rattle.elf_load.proofs.laws.raw_starts_are_machine_states.Goals as goal

pub returns : goal.returns
returns c = raw_starts_are_states
