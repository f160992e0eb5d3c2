-- What the steps of a run write to the program's output. A state keeps only the number of these bytes.
use Rattle.std.specs.Prelude.{ℕ, zero, suc, ◌==◌, cond, if◌then◌else◌, List, [], ◌++◌, Option, Some, unwrap_or}
use Rattle.rv_pages.specs.Memory.{bytes_at}
use Rattle.rv_machine.specs.declared.effect.Effect.{Effect}
use Rattle.rv_machine.specs.declared.effect.Effect.TheVariants.{Call}
use Rattle.rv_machine.specs.MachineState.{MachineState}
use Rattle.rv_machine.specs.StepTable.{effect_at_pc, is_running}
use Rattle.rv_machine.specs.States.{state_number}
use Rattle.rv_machine.specs.SystemCalls.{argument}

-- write (64): the a2 bytes at a1, if all of them are mapped
abbrev pub output_of_call : MachineState → List ℕ
output_of_call s = if argument s 7 == 64 then unwrap_or (bytes_at s.memory (argument s 1) (argument s 2)) [] else []

abbrev pub output_by : MachineState → Option Effect → List ℕ
output_by s (Some Call) = output_of_call s
output_by s _ = []

-- the bytes that the next step writes to the output
abbrev pub output : MachineState → List ℕ
output s = cond (is_running s.status) (output_by s (effect_at_pc s)) []

-- the bytes that the first n steps of a run write, in their order
abbrev pub outputs : MachineState → List (List ℕ) → ℕ → List ℕ
outputs first journal zero = []
outputs first journal (suc n) = outputs first journal n ++ output (state_number first journal n)
