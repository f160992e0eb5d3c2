-- No public clause cites this file. How lines are written, each in one call.
use Rattle.std.specs.Prelude.{◌≡◌, ℕ, ◌+◌, List, [], ◌∷◌, ◌++◌, length, take, slice_get, Option, Some}
use Rattle.keepers.specs.Counts.{raised}
use Rattle.keepers.specs.Claims.{Tells}
use Rattle.rv_machine.specs.MachineState.{MachineState}
use Rattle.state_image.specs.Line.{line}
use Rattle.reversal.specs.Output.{Adds}
use Rattle.reversal.specs.Deeds.{bytes_of}
use Rattle.reversal.specs.Course.{AddsAndPart}

-- the line of each state with the number at its place, and a line end
abbrev pub lines_for : List ℕ → List MachineState → List (List ℕ)
lines_for (n ∷ numbers) (s ∷ states) = (line n s ++ 10 ∷ []) ∷ lines_for numbers states
lines_for _ _ = []

-- these lines were written, each in one call
pub record Writes {X : Type 0} (told : X → Option (List ℕ)) (calls : X → ℕ) (lines : List (List ℕ)) (x y : X) : Type 0 where
  pub added : Tells (told x) (told y) (Adds (bytes_of lines))
  pub called : calls y ≡ raised (calls x) (length lines)

-- some of these lines were written, each in one call; the next write failed after a part
pub record BreaksLines {X : Type 0} (told : X → Option (List ℕ)) (calls : X → ℕ) (lines : List (List ℕ)) (x y : X) : Type 0 where
  pub whole : ℕ
  pub piece : List ℕ
  pub next : slice_get lines whole ≡ Some piece
  pub added : Tells (told x) (told y) (AddsAndPart (bytes_of (take whole lines)) piece)
  pub called : calls y ≡ raised (calls x) (whole + 1)
