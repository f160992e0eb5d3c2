-- What an object claims of its content. Each object chooses: it claims it always or never.
use Rattle.std.specs.Prelude.{◌≡◌, ℕ, ◌≤◌, List, [], ◌++◌, length, take, Option, None, Some, unwrap_or}
use Rattle.std.specs.Ordering.{nat_cmp}
use Rattle.std.specs.Cmp.Lexicographic.{slice_cmp}
use Rattle.std.specs.FinMap as finmap
use Rattle.std.specs.Io.KnownBytes.{Consumes}

-- the images in slots
abbrev pub Images : Type 0
Images = finmap.FinMap nat_cmp (List ℕ)

-- Where images are: in the files of a folder that carry a level's number, or in no file.
abbrev pub Location : Type 0
Location = Option (List ℕ × ℕ)

-- inputs by their names, or files by their paths
abbrev pub Files : Type 0
Files = finmap.FinMap (slice_cmp nat_cmp) (List ℕ)

-- If the object claimed its content before, it does so now, and the two contents are related by this. If it claimed
-- nothing, it claims nothing now.
abbrev pub Tells : {A : Type 0} → Option A → Option A → (A → A → Type 0) → Type 0
Tells None None related = Unit {0}
Tells (Some old) (Some new) related = related old new
Tells None (Some new) related = ⊥
Tells (Some old) None related = ⊥

-- a fact about the claimed content, if any is claimed
abbrev pub WhereTold : {A : Type 0} → Option A → (A → Type 0) → Type 0
WhereTold None P = Unit {0}
WhereTold (Some told) P = P told

-- the image in a slot; an empty slot counts as no bytes
abbrev pub image_in : Images → ℕ → List ℕ
image_in images slot = unwrap_or (finmap.get images slot) []

-- all slots but this one hold what they held
abbrev pub SameButAt : ℕ → Images → Images → Type 0
SameButAt slot old new = (other : ℕ) → (other ≡ slot → ⊥) → finmap.get new other ≡ finmap.get old other

-- the bytes of a file; one that isn't there counts as no bytes
abbrev pub bytes_in : Files → List ℕ → List ℕ
bytes_in files name = unwrap_or (finmap.get files name) []

-- all files but the one of this name hold what they held
abbrev pub SameButNamed : List ℕ → Files → Files → Type 0
SameButNamed name old new = (other : List ℕ) → (other ≡ name → ⊥) → finmap.get new other ≡ finmap.get old other

-- these bytes begin those
abbrev pub Begins : List ℕ → List ℕ → Type 0
Begins front bytes = (rest : List ℕ) × (bytes ≡ front ++ rest)

-- a prefix of the piece was added
abbrev pub AddsPrefix : List ℕ → List ℕ → List ℕ → Type 0
AddsPrefix piece old new = (k : ℕ) × (new ≡ old ++ take k piece)

-- at most so many bytes were taken from the rest of a file, if that rest is claimed
abbrev pub TakesAtMost : ℕ → Option (List ℕ) → Option (List ℕ) → Type 0
TakesAtMost most before after = (taken : List ℕ) × ((length taken ≤ most) × Consumes before after taken)
