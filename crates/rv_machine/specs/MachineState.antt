-- A state of the machine: what the next step depends on, independent of how the code keeps it.
use Rattle.std.specs.Prelude.{◌≡◌, ℕ, ◌%◌, ◌^◌, ◌<◌, ◌==◌, List, [], ◌∷◌, length, slice_index, IsTrue}
use Rattle.std.specs.List.{All, list_any}
use Rattle.rv_pages.specs.Memory.{Memory, IsMemory}
use Rattle.rv_machine.specs.declared.status.Status.{Status}
use Rattle.rv_machine.specs.declared.status.Status.TheVariants.{Running, Exited, Trapped}

pub record MachineState : Type 0 where
  -- the address of the next instruction
  pub pc : ℕ
  -- x0 to x31
  pub registers : List ℕ
  pub status : Status
  -- the place in the recorded input: an item, and an offset in it
  pub item : ℕ
  pub offset : ℕ
  -- how many bytes the program has written, modulo 2 ^ 64
  pub written : ℕ
  -- the mapped addresses with their bytes
  pub memory : Memory

-- The causes of traps: a misaligned jump, an illegal word, EBREAK, and unmapped memory at a fetch, a load or a store.
-- They are the exception codes of the RISC-V privileged manual, chapter "Machine-Level ISA", section "Machine Cause
-- Register (mcause)".
abbrev pub trap_causes : List ℕ
trap_causes = 0 ∷ 1 ∷ 2 ∷ 3 ∷ 5 ∷ 7 ∷ []

-- a possible status: an exit code is a byte, and a trap has one of the causes
abbrev pub IsStatus : Status → Type 0
IsStatus Running = Unit {0}
IsStatus (Exited code) = code < 256
IsStatus (Trapped cause) = IsTrue (list_any (λ c. c == cause) trap_causes)

-- A state that a machine can be in. Registers and pc are words of 32 bits, x0 is 0, and pc is aligned to words.
pub record IsMachineState (s : MachineState) : Type 0 where
  pub pc : s.pc < 2 ^ 32
  pub aligned : s.pc % 4 ≡ 0
  pub registers : length s.registers ≡ 32
  pub words : All (λ x. x < 2 ^ 32) s.registers
  pub zero : slice_index s.registers 0 ≡ 0
  pub status : IsStatus s.status
  pub item : s.item < 2 ^ 32
  pub offset : s.offset < 2 ^ 32
  pub written : s.written < 2 ^ 64
  pub memory : IsMemory s.memory
