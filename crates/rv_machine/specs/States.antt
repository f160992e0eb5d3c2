-- The states of a run: the state after each number of steps from a first one. This file doesn't mention programs,
-- images or schedules.
use Rattle.std.specs.Prelude.{ℕ, zero, suc, List}
use Rattle.rv_machine.specs.MachineState.{MachineState}
use Rattle.rv_machine.specs.StepTable.{next}

-- the state with the number n of the run from s
abbrev pub state_number : MachineState → List (List ℕ) → ℕ → MachineState
state_number s journal zero = s
state_number s journal (suc n) = next (state_number s journal n) journal
