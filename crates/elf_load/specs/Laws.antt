-- What the definitions of programs and of their faults imply.
use Rattle.std.specs.Prelude.{◌≡◌, ◌⊎◌, ◌≤◌, ◌<◌, ℕ, List}
use Rattle.std.specs.List.{All}
use Rattle.rv_machine.specs.MachineState.{MachineState, IsMachineState}
use Rattle.elf_load.specs.declared.fault.ElfFault.{ElfFault}
use Rattle.elf_load.specs.Raw.{IsRawProgram}
use Rattle.elf_load.specs.Elf.{IsProgram}
use Rattle.elf_load.specs.Faults.{FirstFault, FirstRawFault}

-- a file has one start state at most
abbrev pub OneStart : Type 0
OneStart = (file : List ℕ) (stack : ℕ) (s t : MachineState) → IsProgram file stack s → IsProgram file stack t → s ≡ t

-- it has one first fault at most, and none if it has a start state
abbrev pub OneFault : Type 0
OneFault = (file : List ℕ) (stack : ℕ) (a b : ElfFault) → FirstFault file stack a → FirstFault file stack b → a ≡ b

abbrev pub ProgramsHaveNoFault : Type 0
ProgramsHaveNoFault = (file : List ℕ) (stack : ℕ) (s : MachineState) (fault : ElfFault) → IsProgram file stack s → FirstFault file stack fault → ⊥

-- every file has a start state or a first fault
abbrev pub StartOrFault : Type 0
StartOrFault =
    (file : List ℕ) (stack : ℕ) →
    ((s : MachineState) × IsProgram file stack s) ⊎ ((fault : ElfFault) × FirstFault file stack fault)

-- the start state of a file of bytes is a machine state
abbrev pub StartsAreStates : Type 0
StartsAreStates = (file : List ℕ) (stack : ℕ) (s : MachineState) → All (λ b. b < 256) file → IsProgram file stack s → IsMachineState s

-- raw words have one start state at most
abbrev pub OneRawStart : Type 0
OneRawStart = (bytes : List ℕ) (stack : ℕ) (s t : MachineState) → IsRawProgram bytes stack s → IsRawProgram bytes stack t → s ≡ t

abbrev pub OneRawFault : Type 0
OneRawFault = (bytes : List ℕ) (stack : ℕ) (a b : ElfFault) → FirstRawFault bytes stack a → FirstRawFault bytes stack b → a ≡ b

abbrev pub RawProgramsHaveNoFault : Type 0
RawProgramsHaveNoFault = (bytes : List ℕ) (stack : ℕ) (s : MachineState) (fault : ElfFault) → IsRawProgram bytes stack s → FirstRawFault bytes stack fault → ⊥

abbrev pub RawStartOrFault : Type 0
RawStartOrFault =
    (bytes : List ℕ) (stack : ℕ) →
    ((s : MachineState) × IsRawProgram bytes stack s) ⊎ ((fault : ElfFault) × FirstRawFault bytes stack fault)

abbrev pub RawStartsAreStates : Type 0
RawStartsAreStates = (bytes : List ℕ) (stack : ℕ) (s : MachineState) → stack ≤ 1024 → All (λ b. b < 256) bytes → IsRawProgram bytes stack s → IsMachineState s
