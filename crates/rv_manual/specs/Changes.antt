-- What instructions do to registers, pc and memory. Traps are our own choice, where the manual leaves them to the
-- execution environment. A trap changes only the status.
use Rattle.std.specs.Prelude.{ℕ, ◌==◌, Bool, cond, List, slice_index, slice_set, Option, Some, None, ℤ, pos, ◌+ℤ◌}
use Rattle.rv_pages.specs.Memory.{Memory}
use Rattle.rv_machine.specs.MachineState.{MachineState}
use Rattle.rv_machine.specs.StateChanges.{trapped}
use Rattle.rv_manual.specs.Fields.{bits, rs1}
use Rattle.rv_manual.specs.Integers.{word_of}

-- the register with a number
abbrev pub x : MachineState → ℕ → ℕ
x s n = slice_index s.registers n

-- the registers with the word of an integer in rd; x0 is hardwired to 0
abbrev pub with_rd : List ℕ → ℕ → ℤ → List ℕ
with_rd registers rd value = slice_set (slice_set registers rd (word_of value)) 0 0

-- the address of the next instruction
abbrev pub following : MachineState → ℤ
following s = pos s.pc +ℤ pos 4

-- rd gets a value, and pc moves to the next instruction
abbrev pub gives : MachineState → ℕ → ℤ → MachineState
gives s rd value = record s { pc = word_of (following s); registers = with_rd s.registers rd value }

-- pc becomes the target, and rd gets the address of the next instruction. Trap 0: the target is not aligned to four bytes
abbrev pub jumps : MachineState → ℕ → ℕ → MachineState
jumps s rd target = cond (bits 1 0 target == 0) (record s { pc = target; registers = with_rd s.registers rd (following s) }) (trapped s 0)

-- pc becomes the target where the branch is taken. Trap 0: that is not aligned to four bytes
abbrev pub branches : Bool → MachineState → ℕ → MachineState
branches taken s target = cond taken (cond (bits 1 0 target == 0) (record s { pc = target }) (trapped s 0)) (record s { pc = word_of (following s) })

-- rd gets the integer of what was loaded. Trap 5: a byte of it is not mapped
abbrev pub loads : (ℕ → ℤ) → MachineState → ℕ → Option ℕ → MachineState
loads integer s rd None = trapped s 5
loads integer s rd (Some n) = gives s rd (integer n)

-- memory changes, if all stored bytes are mapped. Trap 7: one is not
abbrev pub stores : Bool → MachineState → Memory → MachineState
stores mapped s memory = cond mapped (record s { pc = word_of (following s); memory = memory }) (trapped s 7)

-- register rs1 and an immediate
abbrev pub address : MachineState → ℕ → ℤ → ℕ
address s w immediate = word_of (pos (x s (rs1 w)) +ℤ immediate)
