use Rattle.elf_load.proofs.StartUniqueness.{one_fault, programs_have_no_fault}
use Rattle.elf_load.proofs.laws.faults_are_unique.Goals as goal

pub returns-clause-one : goal.returns-clause-one
returns-clause-one c = one_fault

pub returns-clause-none : goal.returns-clause-none
returns-clause-none c = programs_have_no_fault
