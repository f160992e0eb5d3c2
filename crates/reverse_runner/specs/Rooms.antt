-- When no action runs out of memory: how much room the keepers need, and how long stored images are.
use Rattle.std.specs.Prelude.{◌≡◌, ℕ, ◌<◌, ◌≤◌, List, Option, None, Some}
use Rattle.keepers.specs.declared.storage.Storage.{Ghosts}
use Rattle.rv_machine.specs.MachineState.{MachineState}
use Rattle.state_image.specs.ImageForm.{memory_room}
use Rattle.image_store.specs.declared.shelf.Kept.{Kept}
use Rattle.image_store.specs.Shelves.{ShelfState, kept_at}
use Rattle.reverse_runner.specs.KeepersSeen.{by_number}

-- the most bytes of an image of a state with this one's pages
abbrev pub image_room : MachineState → ℕ
image_room s = memory_room s.memory

-- a keeper, or none, has a room of at least so many bytes
abbrev pub IsRoomy : ℕ → Option ℕ → Type 0
IsRoomy bytes None = ⊥
IsRoomy bytes (Some room) = bytes ≤ room

-- the rooms of keepers, by the numbers of their levels
abbrev pub rooms_by : {K : Type 0} → Ghosts K → List K → ℕ → Option ℕ
rooms_by seen keepers = by_number None seen.room_bytes keepers

-- each of the first so many levels has a keeper with a room of at least so many bytes
abbrev pub AreRoomy : ℕ → ℕ → (ℕ → Option ℕ) → Type 0
AreRoomy bytes levels rooms = (k : ℕ) → k < levels → IsRoomy bytes (rooms k)

-- the keepers' rooms are unchanged
abbrev pub SameRooms : (ℕ → Option ℕ) → (ℕ → Option ℕ) → Type 0
SameRooms old new = (k : ℕ) → new k ≡ old k

-- each image that a level keeps has at most so many bytes
abbrev pub AreShort : ℕ → List ShelfState → Type 0
AreShort bytes store = (k n : ℕ) (kept : Kept) → kept_at store k n ≡ Some kept → kept.length ≤ bytes
