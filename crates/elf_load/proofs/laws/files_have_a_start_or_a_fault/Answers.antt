use Rattle.elf_load.proofs.StartExistence.{start_or_fault}
use Rattle.elf_load.proofs.laws.files_have_a_start_or_a_fault.Goals as goal

pub returns : goal.returns
returns c = start_or_fault
