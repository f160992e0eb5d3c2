use Rattle.elf_load.proofs.StartUniqueness.{one_raw_start}
use Rattle.elf_load.proofs.laws.raw_starts_are_unique.Goals as goal

pub returns : goal.returns
returns c = one_raw_start
