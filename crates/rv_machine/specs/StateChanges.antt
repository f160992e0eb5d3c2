-- What a step may do to a state, for any instruction.
use Rattle.std.specs.Prelude.{ℕ, zero, suc, ◌+◌, ◌==◌, cond, List, [], ◌∷◌, slice_set}
use Rattle.rv_pages.specs.Memory.{wrapped}
use Rattle.rv_machine.specs.declared.status.Status.TheVariants.{Trapped}
use Rattle.rv_machine.specs.MachineState.{MachineState}

-- the registers with this value in the one with the number n; x0 stays 0
abbrev pub with_register : List ℕ → ℕ → ℕ → List ℕ
with_register registers n value = cond (n == 0) registers (slice_set registers n value)

-- the status is a trap with this cause, and nothing else is changed
abbrev pub trapped : MachineState → ℕ → MachineState
trapped s cause = record s { status = Trapped cause }

-- pc moves to the next word
abbrev pub gone_on : MachineState → MachineState
gone_on s = record s { pc = wrapped (s.pc + 4) }

-- a register gets a value, and pc moves to the next word
abbrev pub put : MachineState → ℕ → ℕ → MachineState
put s rd value = record s { pc = wrapped (s.pc + 4); registers = with_register s.registers rd value }

-- so many addresses from one on, modulo 2 ^ 32
abbrev pub addresses : ℕ → ℕ → List ℕ
addresses at zero = []
addresses at (suc n) = wrapped at ∷ addresses (at + 1) n
