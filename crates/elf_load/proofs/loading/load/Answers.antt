use Rattle.elf_load.specs.Elf.{IsProgram}
use Rattle.elf_load.specs.Faults.{FirstFault}
use Rattle.elf_load.proofs.StartUniqueness.{one_start, one_fault, programs_have_no_fault, loads}
use Rattle.elf_load.proofs.loading.load.Goals as goal

pub returns : goal.returns
returns c =
    let file = c.args.file.now in
    let stack = c.args.stack in
    loads (IsProgram file stack) (FirstFault file stack) (one_start file stack) (one_fault file stack) (programs_have_no_fault file stack) _ c.load_file.ensures.found c.load_file.ensures.refused
