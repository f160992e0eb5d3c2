-- Which mapped pages are stored, by their indices.
use Rattle.std.specs.Prelude.{◌≡◌, ℕ, ◌<◌, Bool, false, List, length, slice_index, slice_index_or}
use Rattle.rv_pages.specs.Memory.{Memory, page_numbers}
use Rattle.state_image.specs.Image.{is_stored}

-- the mark of each mapped page says whether it is stored
abbrev pub MarksStored : Memory → List Bool → Type 0
MarksStored m marks = (k : ℕ) → k < length (page_numbers m) → slice_index_or marks k false ≡ is_stored m (slice_index (page_numbers m) k)
