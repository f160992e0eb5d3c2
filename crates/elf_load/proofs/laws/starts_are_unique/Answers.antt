use Rattle.elf_load.proofs.StartUniqueness.{one_start}
use Rattle.elf_load.proofs.laws.starts_are_unique.Goals as goal

pub returns : goal.returns
returns c = one_start
