use Rattle.elf_load.proofs.StartUniqueness.{one_raw_fault, raw_programs_have_no_fault}
use Rattle.elf_load.proofs.laws.raw_faults_are_unique.Goals as goal

pub returns-clause-one : goal.returns-clause-one
returns-clause-one c = one_raw_fault

pub returns-clause-none : goal.returns-clause-none
returns-clause-none c = raw_programs_have_no_fault
