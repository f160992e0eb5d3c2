-- What the files of a level hold when a run is done.
use Rattle.std.specs.Prelude.{◌≡◌, ℕ, ◌<◌, List, true, Option, Some, IsSome, slice_get}
use Rattle.std.specs.FinSet as set
use Rattle.std.specs.FinMap as finmap
use Rattle.plan_types.specs.declared.limits.TheConstants.{MOST_SLOTS}
use Rattle.keepers.specs.Claims.{Files}
use Rattle.keepers.specs.SlotFiles.{slot_path, disk_of}
use Rattle.keepers.specs.AnyKeeper.{AnyKeeper}
use Rattle.keepers.specs.declared.either_keeper.EitherKeeper.TheVariants.{Second}
use Rattle.keepers.specs.declared.file_keeper.FileKeeper.{FileKeeper}
use Rattle.rv_machine.specs.MachineState.{MachineState}
use Rattle.state_image.specs.Image.{image}
use Rattle.reverse_runner.specs.HoldingsOfRun.{Numbers}

-- The files of a level's slots in a folder are just the images of the states with these numbers. Each is in the file of
-- its own slot. No other slot has a file.
pub record FilesHoldJust (states : ℕ → MachineState) (numbers : Numbers) (folder : List ℕ) (level : ℕ) (files : Files) : Type 0 where
  pub slot_of : ℕ → ℕ
  pub own : (m n : ℕ) → set.contains numbers m ≡ true → set.contains numbers n ≡ true → slot_of m ≡ slot_of n → m ≡ n
  pub within : (n : ℕ) → set.contains numbers n ≡ true → slot_of n < MOST_SLOTS
  pub each : (n : ℕ) → set.contains numbers n ≡ true → finmap.get files (slot_path folder level (slot_of n)) ≡ Some (image (states n))
  pub only : (slot : ℕ) → slot < MOST_SLOTS → IsSome (finmap.get files (slot_path folder level slot)) → (n : ℕ) × ((set.contains numbers n ≡ true) × (slot_of n ≡ slot))

-- and they are on the disk of the level's keeper, which claims its files
pub record LevelHoldsJust {D : Type 0} (told : D → Option Files) (states : ℕ → MachineState) (numbers : Numbers) (folder : List ℕ) (level : ℕ) (keepers : List (AnyKeeper D)) : Type 0 where
  pub keeper : FileKeeper D
  pub there : slice_get keepers level ≡ Some (Second keeper)
  pub files : Files
  pub tells : told (disk_of keeper) ≡ Some files
  pub hold : FilesHoldJust states numbers folder level files
