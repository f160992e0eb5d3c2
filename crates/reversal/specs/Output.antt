-- What is written of a run: lines of its states, in descending order of their numbers.
use Rattle.std.specs.Prelude.{◌≡◌, ℕ, List, [], ◌∷◌, ◌++◌}
use Rattle.std.specs.List.{flat_map}
use Rattle.rv_machine.specs.MachineState.{MachineState}
use Rattle.state_image.specs.Line.{line}
use Rattle.reverse_runner.specs.StateOrder.{countdown}

-- the line of the state with the number n, and a line end
abbrev pub line_of : (ℕ → MachineState) → ℕ → List ℕ
line_of states n = line n (states n) ++ 10 ∷ []

-- the lines of the states n, n − 1, and so on to 0
abbrev pub lines_down : (ℕ → MachineState) → ℕ → List ℕ
lines_down states n = flat_map (line_of states) (countdown n)

-- a beginning of these bytes was added
abbrev pub AddsFrontOf : List ℕ → List ℕ → List ℕ → Type 0
AddsFrontOf bytes old new = (front : List ℕ) × (rest : List ℕ) × (bytes ≡ front ++ rest) × (new ≡ old ++ front)

-- these bytes were added
abbrev pub Adds : List ℕ → List ℕ → List ℕ → Type 0
Adds bytes old new = new ≡ old ++ bytes
