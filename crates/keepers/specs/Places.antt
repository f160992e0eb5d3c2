-- The images in the places of a keeper in memory. The first place is slot 0's.
use Rattle.std.specs.Prelude.{ℕ, suc, ◌≤◌, List, [], ◌∷◌, cond}
use Rattle.std.specs.FinMap as finmap
use Rattle.std.specs.List.{AllByRecursion}
use Rattle.std.specs.Vec.{vec_capacity}
use Rattle.keepers.specs.Claims.{Images}
use Rattle.keepers.specs.declared.place.Place.{Place}

-- the images of these places by their slots, from this slot on
abbrev pub filled_from : ℕ → List Place → List (ℕ × List ℕ)
filled_from slot [] = []
filled_from slot (place ∷ places) = cond place.filled ((slot, place.bytes.items) ∷ filled_from (suc slot) places) (filled_from (suc slot) places)

abbrev pub images_of : List Place → Images
images_of places = finmap.from_entries (filled_from 0 places)

-- each place has memory for so many bytes
abbrev pub HaveRoom : ℕ → List Place → Type 0
HaveRoom bytes places = AllByRecursion (λ place. bytes ≤ vec_capacity place.bytes) places
