-- Where the folders of the levels' files are in the words.
use Rattle.std.specs.Prelude.{ℕ, ◌+◌, ◌-◌, ◌==◌, if◌then◌else◌, List, [], ◌∷◌, length, map, drop, slice_get, Option, None, Some}
use Rattle.std.specs.Option.{option_map}
use Rattle.requests.specs.declared.places.KeepAt.{KeepAt}
use Rattle.requests.specs.declared.places.KeepAt.TheVariants.{Memory, Folder}
use Rattle.requests.specs.Request.{Choice, raw, stack, workers, units, files, files_front}

abbrev pub levels : List ℕ
levels = 0 ∷ 1 ∷ 2 ∷ 3 ∷ []

-- The place of a level among options, the first of which is the word with this number. It is the option of the level's
-- files; the folder's name comes after its prefix.
abbrev pub place_from : ℕ → ℕ → List Choice → KeepAt
place_from level word [] = Memory
place_from level word (raw ∷ options) = place_from level (word + 1) options
place_from level word (stack pages ∷ options) = place_from level (word + 1) options
place_from level word (workers count ∷ options) = place_from level (word + 1) options
place_from level word (units count ∷ options) = place_from level (word + 1) options
place_from level word (files k folder ∷ options) = if level == k then Folder word (length (files_front level)) else place_from level (word + 1) options

-- the places of all levels, where words are counted from 1
abbrev pub places_of : List Choice → List KeepAt
places_of options = map (λ level. place_from level 1 options) levels

abbrev pub all_in_memory : List KeepAt
all_in_memory = map (λ level. Memory) levels

-- the folder that the options name for a level
abbrev pub folder_said : ℕ → List Choice → Option (List ℕ)
folder_said level [] = None
folder_said level (raw ∷ options) = folder_said level options
folder_said level (stack pages ∷ options) = folder_said level options
folder_said level (workers count ∷ options) = folder_said level options
folder_said level (units count ∷ options) = folder_said level options
folder_said level (files k folder ∷ options) = if level == k then Some folder else folder_said level options

-- What is at a place of the words. They are counted from 1 in a place, so subtracting 1 doesn't truncate.
abbrev pub folder_at : List (List ℕ) → KeepAt → Option (List ℕ)
folder_at words Memory = None
folder_at words (Folder word start) = option_map (drop start) (slice_get words (word - 1))
