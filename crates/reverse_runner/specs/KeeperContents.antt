-- A keeper holds just the images of some states of a run, each in its own slot.
use Rattle.std.specs.Prelude.{◌≡◌, ℕ, true, Some, IsSome}
use Rattle.std.specs.FinSet as set
use Rattle.std.specs.FinMap as finmap
use Rattle.keepers.specs.Claims.{Images}
use Rattle.rv_machine.specs.MachineState.{MachineState}
use Rattle.state_image.specs.Image.{image}
use Rattle.reverse_runner.specs.HoldingsOfRun.{Numbers}

pub record HoldsJust (states : ℕ → MachineState) (numbers : Numbers) (images : Images) : Type 0 where
  -- the slot of the state with each number
  pub slot_of : ℕ → ℕ
  pub own : (m n : ℕ) → set.contains numbers m ≡ true → set.contains numbers n ≡ true → slot_of m ≡ slot_of n → m ≡ n
  pub each : (n : ℕ) → set.contains numbers n ≡ true → finmap.get images (slot_of n) ≡ Some (image (states n))
  pub only : (slot : ℕ) → IsSome (finmap.get images slot) → (n : ℕ) × ((set.contains numbers n ≡ true) × (slot_of n ≡ slot))
