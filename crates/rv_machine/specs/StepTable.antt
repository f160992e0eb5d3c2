-- One step of the machine: what the effect of an instruction does to a state, and the traps. The traps are our own
-- choice where the manual leaves them to the execution environment. Memory is a map of single bytes.
use Rattle.std.specs.Prelude.{ℕ, ◌+◌, ◌*◌, ◌%◌, ◌==◌, Bool, true, false, cond, List, [], slice_index, Option, Some, None, is_some}
use Rattle.std.specs.Option.{option_and_then, option_map_or}
use Rattle.rv_pages.specs.Memory.{wrapped, number_at, word_at, with_number}
use Rattle.rv_decode.specs.declared.instruction.Inst.{Inst}
use Rattle.rv_decode.specs.Formats.{sign_extended}
use Rattle.rv_decode.specs.Rows.{decoded}
use Rattle.rv_machine.specs.declared.effect.Effect.{Effect}
use Rattle.rv_machine.specs.declared.effect.Effect.TheVariants.{Put, Jump, Branch, Load, Store, Nothing, Call, Break}
use Rattle.rv_machine.specs.declared.effect.Width.{Width}
use Rattle.rv_machine.specs.declared.status.Status.{Status}
use Rattle.rv_machine.specs.declared.status.Status.TheVariants.{Running}
use Rattle.rv_machine.specs.MachineState.{MachineState}
use Rattle.rv_machine.specs.Effects.{effect_of, bytes_of}
use Rattle.rv_machine.specs.StateChanges.{with_register, trapped, gone_on, put, addresses}
use Rattle.rv_machine.specs.SystemCalls.{called, written_by_call}

-- a jump, which leaves the address of the next word in a register. Trap 0: the target is not aligned to words
abbrev pub jumped : MachineState → ℕ → ℕ → MachineState
jumped s rd target = cond (target % 4 == 0) (record s { pc = target; registers = with_register s.registers rd (wrapped (s.pc + 4)) }) (trapped s 0)

-- A load of a number whose bytes are all mapped, as a word, with sign extension or without. Trap 5: they are not
-- mapped.
abbrev pub loaded : MachineState → ℕ → Width → Bool → Option ℕ → MachineState
loaded s rd width with_sign None = trapped s 5
loaded s rd width with_sign (Some n) = put s rd (cond with_sign (sign_extended (8 * bytes_of width) n) n)

-- a store of the lowest bytes of a value. Trap 7: one of them is not mapped
abbrev pub stored : MachineState → ℕ → Width → ℕ → MachineState
stored s at width value = cond (is_some (number_at s.memory at (bytes_of width))) (record s {
  pc = wrapped (s.pc + 4);
  memory = with_number s.memory at (bytes_of width) value;
}) (trapped s 7)

-- What an effect does, with the recorded input. A taken branch is a jump that writes no register. Trap 3: EBREAK.
abbrev pub applied : MachineState → List (List ℕ) → Effect → MachineState
applied s journal (Put rd value) = put s rd value
applied s journal (Jump rd target) = jumped s rd target
applied s journal (Branch taken target) = cond taken (jumped s 0 target) (gone_on s)
applied s journal (Load rd at width with_sign) = loaded s rd width with_sign (number_at s.memory at (bytes_of width))
applied s journal (Store at width value) = stored s at width value
applied s journal Nothing = gone_on s
applied s journal Call = called s journal
applied s journal Break = trapped s 3

-- the effect of an instruction in a state
abbrev pub effect_in : MachineState → Inst → Effect
effect_in s inst = effect_of (λ n. slice_index s.registers n) s.pc inst

-- what a word means in a state. Trap 2: it is illegal
abbrev pub said : MachineState → List (List ℕ) → Option Inst → MachineState
said s journal None = trapped s 2
said s journal (Some inst) = applied s journal (effect_in s inst)

-- what the word at pc does. Trap 1: it is not mapped
abbrev pub executed : MachineState → List (List ℕ) → Option ℕ → MachineState
executed s journal None = trapped s 1
executed s journal (Some w) = said s journal (decoded w)

-- whether a status is that of a machine that runs
abbrev pub is_running : Status → Bool
is_running Running = true
is_running _ = false

-- the state after one step with the recorded input; a stopped state is its own successor
abbrev pub next : MachineState → List (List ℕ) → MachineState
next s journal = cond (is_running s.status) (executed s journal (word_at s.memory s.pc)) s

-- the addresses that an effect writes: those of a store that does not trap, and those of a read
abbrev pub written_by : MachineState → List (List ℕ) → Option Effect → List ℕ
written_by s journal (Some (Store at width value)) = cond (is_some (number_at s.memory at (bytes_of width))) (addresses at (bytes_of width)) []
written_by s journal (Some Call) = written_by_call s journal
written_by s journal _ = []

-- the effect of the word at pc, if it is mapped and an instruction
abbrev pub effect_at_pc : MachineState → Option Effect
effect_at_pc s = option_and_then (λ w. option_and_then (λ inst. Some (effect_in s inst)) (decoded w)) (word_at s.memory s.pc)

-- the register that an effect writes, if it doesn't trap; x0 means none
abbrev pub register_of : Effect → ℕ
register_of (Put rd value) = rd
register_of (Jump rd target) = rd
register_of (Load rd at width with_sign) = rd
register_of Call = 10
register_of _ = 0

-- the one register that the next step may change
abbrev pub register_changed : MachineState → ℕ
register_changed s = cond (is_running s.status) (option_map_or register_of (effect_at_pc s) 0) 0

-- the addresses that the next step writes, even with unchanged bytes
abbrev pub written : MachineState → List (List ℕ) → List ℕ
written s journal = cond (is_running s.status) (written_by s journal (effect_at_pc s)) []
