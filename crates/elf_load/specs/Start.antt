-- The start state of a program, which is raw words or an ELF file, and the first fault of bytes that have none.
use Rattle.std.specs.Prelude.{ℕ, Bool, true, false, List}
use Rattle.rv_machine.specs.MachineState.{MachineState}
use Rattle.elf_load.specs.declared.fault.ElfFault.{ElfFault}
use Rattle.elf_load.specs.Elf.{IsProgram}
use Rattle.elf_load.specs.Raw.{IsRawProgram}
use Rattle.elf_load.specs.Faults.{FirstFault, FirstRawFault}

abbrev pub IsStartOf : (is_raw : Bool) (stack_pages : ℕ) → List ℕ → MachineState → Type 0
IsStartOf true stack bytes = IsRawProgram bytes stack
IsStartOf false stack bytes = IsProgram bytes stack

abbrev pub HasProgramFault : (is_raw : Bool) (stack_pages : ℕ) → List ℕ → ElfFault → Type 0
HasProgramFault true stack bytes = FirstRawFault bytes stack
HasProgramFault false stack bytes = FirstFault bytes stack
