-- What a loader answers for bytes: the start state of their program, or their first fault.
use Rattle.std.specs.Prelude.{◌≡◌, ◌≢◌, ◌⊎◌, Result, MatchResult, IfOk, IfErr}
use Rattle.rv_machine.specs.MachineState.{MachineState}
use Rattle.elf_load.specs.declared.fault.ElfFault.{ElfFault}
use Rattle.elf_load.specs.declared.fault.ElfFault.TheVariants.{Memory}

pub record Loads (IsStart : MachineState → Type 0) (IsFirst : ElfFault → Type 0) (result : Result MachineState ElfFault) : Type 0 where
  -- the state that is loaded is the program's start state
  pub found : IfOk result IsStart
  -- a program is loaded, unless memory runs out
  pub only : (s : MachineState) → IsStart s → MatchResult result (λ state. state ≡ s) (λ fault. fault ≡ Memory)
  -- a refusal has the first fault
  pub refused : IfErr result (λ fault. fault ≢ Memory → IsFirst fault)
  -- bytes with a fault are refused for it, unless memory runs out
  pub first : (fault : ElfFault) → IsFirst fault → MatchResult result (λ _. ⊥) (λ answer. (answer ≡ fault) ⊎ (answer ≡ Memory))
