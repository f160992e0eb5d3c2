-- The digests of the states that an undo list leads back over.
use Rattle.std.specs.Prelude.{◌≡◌, ℕ, List, reverse, slice_get, Option, Some}
use Rattle.rv_pages.specs.Memory.{page_numbers}
use Rattle.rv_machine.specs.MachineState.{MachineState}
use Rattle.sha2.specs.Sha256.{sha256}
use Rattle.state_image.specs.Image.{image}
use Rattle.unit_undo.specs.Entry.{Entry}
use Rattle.unit_undo.specs.UndoTrail.{led_back}

-- the states that entries lead back over, from the state after them, in the order of the run
abbrev pub states_of : List Entry → MachineState → List MachineState
states_of entries after = reverse (led_back entries after)

-- a known digest is that of the state's image
abbrev pub AreDigests : List (Option (List ℕ)) → List MachineState → Type 0
AreDigests known states =
    (k : ℕ) (s : MachineState) (digest : List ℕ) → slice_get states k ≡ Some s → slice_get known k ≡ Some (Some digest) → digest ≡ sha256 (image s)

-- the digest of the state with this number is known
abbrev pub IsKnown : List (Option (List ℕ)) → ℕ → Type 0
IsKnown known n = (digest : List ℕ) × (slice_get known n ≡ Some (Some digest))

-- these are the pages that this state maps
abbrev pub HasPages : MachineState → List ℕ → Type 0
HasPages s pages = pages ≡ page_numbers s.memory
