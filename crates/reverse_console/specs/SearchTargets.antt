-- No public clause cites this file. What is wanted of consecutive states.
use Rattle.std.specs.Prelude.{ℕ, ◌-◌, ◌≤◌, List}
use Rattle.rv_pages.specs.declared.pages.TheConstants.{LAST_WORD}
use Rattle.rv_machine.specs.MachineState.{MachineState}
use Rattle.rv_machine.specs.States.{state_number}
use Rattle.reverse_console.specs.declared.order.Sought.{Sought}
use Rattle.reverse_console.specs.declared.order.Sought.TheVariants.{Pc, Change, Write}
use Rattle.reverse_console.specs.StateSources.{HasPc, Changes, Writes}

-- a state has the wanted property
abbrev pub Meets : Sought → List (List ℕ) → MachineState → Type 0
Meets (Pc address) journal s = HasPc address s
Meets (Change word) journal s = Changes journal word s
Meets (Write word) journal s = Writes journal word s

-- a word ends within the addresses
abbrev pub IsSought : Sought → Type 0
IsSought (Pc address) = Unit {0}
IsSought (Change word) = word ≤ LAST_WORD
IsSought (Write word) = word ≤ LAST_WORD

-- the state with a number has it, counted from a state with the number `from`
abbrev pub MeetsFrom : Sought → List (List ℕ) → MachineState → ℕ → ℕ → Type 0
MeetsFrom sought journal s from n = (from ≤ n) × Meets sought journal (state_number s journal (n - from))
