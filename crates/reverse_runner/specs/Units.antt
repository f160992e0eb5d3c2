-- The states of a run at the ends of units of so many steps, by unit.
use Rattle.std.specs.Prelude.{ℕ, ◌*◌, List}
use Rattle.rv_machine.specs.MachineState.{MachineState}
use Rattle.rv_machine.specs.States.{state_number}

abbrev pub unit_states : MachineState → List (List ℕ) → ℕ → ℕ → MachineState
unit_states first journal unit n = state_number first journal (unit * n)
