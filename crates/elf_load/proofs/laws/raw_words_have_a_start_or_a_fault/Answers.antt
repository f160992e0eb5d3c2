use Rattle.elf_load.proofs.StartExistence.{raw_start_or_fault}
use Rattle.elf_load.proofs.laws.raw_words_have_a_start_or_a_fault.Goals as goal

pub returns : goal.returns
returns c = raw_start_or_fault
