-- Which images a store represents over keepers that claim their content, level by level.
use Rattle.std.specs.Prelude.{◌≡◌, ◌==◌, ℕ, ◌<◌, cond, List, length, Option, None, Some, IsSome}
use Rattle.std.specs.FinMap as finmap
use Rattle.sha2.specs.Sha256.{sha256}
use Rattle.keepers.specs.Claims.{Images}
use Rattle.image_store.specs.declared.shelf.Kept.{Kept}
use Rattle.image_store.specs.Pairs.{pair_at, HaveOwnSlots}
use Rattle.image_store.specs.Shelves.{ShelfState, level_of}

-- The pair is held exactly if it has bytes. Those are in its slot, and its length and digest are theirs.
abbrev pub IsKeptAs : Images → Option Kept → Option (List ℕ) → Type 0
IsKeptAs images None None = Unit {0}
IsKeptAs images (Some kept) (Some bytes) = (finmap.get images kept.slot ≡ Some bytes) × (kept.length ≡ length bytes) × (kept.digest ≡ sha256 bytes)
IsKeptAs images None (Some bytes) = ⊥
IsKeptAs images (Some kept) None = ⊥

-- the pairs of a level represent these bytes, over a map of images
pub record KeepsAs (pairs : List (Option Kept)) (bytes : Images) (images : Images) : Type 0 where
  pub own : HaveOwnSlots pairs
  pub each : (n : ℕ) → IsKeptAs images (pair_at pairs n) (finmap.get bytes n)

-- content is claimed, and this holds of it
abbrev pub IsToldAnd : Option Images → (Images → Type 0) → Type 0
IsToldAnd None P = ⊥
IsToldAnd (Some images) P = P images

-- A level represents a map from numbers to bytes, over a keeper that claims its content.
abbrev pub LevelStands : ShelfState → Option Images → Images → Type 0
LevelStands shelf told bytes = IsToldAnd told (KeepsAs shelf.pairs bytes)

-- no slot but those of the pairs has an image
abbrev pub Alone : List (Option Kept) → Images → Type 0
Alone pairs images = (slot : ℕ) → IsSome (finmap.get images slot) → (n : ℕ) × ((kept : Kept) × (pair_at pairs n ≡ Some kept) × (kept.slot ≡ slot))

abbrev pub LevelAlone : ShelfState → Option Images → Type 0
LevelAlone shelf told = IsToldAnd told (Alone shelf.pairs)

-- A store represents a map from levels and numbers to bytes, over what the keepers of its levels claim.
abbrev pub StandsFor : List ShelfState → (ℕ → Option Images) → (ℕ → Images) → Type 0
StandsFor store told bytes = (k : ℕ) → k < length store → LevelStands (level_of store k) (told k) (bytes k)

abbrev pub StandsAlone : List ShelfState → (ℕ → Option Images) → Type 0
StandsAlone store told = (k : ℕ) → k < length store → LevelAlone (level_of store k) (told k)

-- what keepers claim, or what bytes there are, with one level changed
abbrev pub at_level : {A : Type 0} → (ℕ → A) → ℕ → A → ℕ → A
at_level f k x j = cond (j == k) x (f j)
