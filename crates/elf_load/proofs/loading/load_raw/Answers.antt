use Rattle.elf_load.specs.Raw.{IsRawProgram}
use Rattle.elf_load.specs.Faults.{FirstRawFault}
use Rattle.elf_load.proofs.StartUniqueness.{one_raw_start, one_raw_fault, raw_programs_have_no_fault, loads}
use Rattle.elf_load.proofs.loading.load_raw.Goals as goal

pub returns : goal.returns
returns c =
    let bytes = c.args.bytes.now in
    let stack = c.args.stack in
    loads (IsRawProgram bytes stack) (FirstRawFault bytes stack) (one_raw_start bytes stack) (one_raw_fault bytes stack) (raw_programs_have_no_fault bytes stack) _ c.load_words.ensures.found c.load_words.ensures.refused
