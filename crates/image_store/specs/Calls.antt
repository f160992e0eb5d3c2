-- What a call does to a level of a store and to what its keeper claims, over any keeper.
use Rattle.std.specs.Prelude.{◌≡◌, ◌⊎◌, ℕ, ◌<◌, List, length, slice_set, take, Option, None, Some}
use Rattle.std.specs.FinMap as finmap
use Rattle.sha2.specs.Sha256.{sha256}
use Rattle.keepers.specs.Claims.{Images, Tells, WhereTold, SameButAt, image_in}
use Rattle.image_store.specs.declared.shelf.Kept.{Kept}
use Rattle.image_store.specs.Pairs.{IsFreeSlot}
use Rattle.image_store.specs.Shelves.{ShelfState}

-- the level with this pair
abbrev pub with_pair : ShelfState → ℕ → Kept → ShelfState
with_pair shelf n kept = record shelf { pairs = slice_set shelf.pairs n (Some kept) }

-- the level without this pair
abbrev pub without_pair : ShelfState → ℕ → ShelfState
without_pair shelf n = record shelf { pairs = slice_set shelf.pairs n None }

-- what is kept of an image in a slot
abbrev pub kept_in : ℕ → List ℕ → Kept
kept_in slot image = record { slot = slot; length = length image; digest = sha256 image }

-- A pair is kept in a free slot of the level. The keeper claims the image there, and all else is as before.
pub record IsKept (old new : ShelfState) (n : ℕ) (image : List ℕ) (before after : Option Images) : Type 0 where
  pub slot : ℕ
  pub within : slot < old.room
  pub unused : IsFreeSlot old.pairs slot
  pub pairs : new ≡ with_pair old n (kept_in slot image)
  pub told : Tells before after (λ images images'. images' ≡ finmap.insert images slot image)

-- a pair isn't kept: one slot of the level without a pair may hold anything
pub record IsNotKept (old : ShelfState) (before after : Option Images) : Type 0 where
  pub slot : ℕ
  pub within : slot < old.room
  pub unused : IsFreeSlot old.pairs slot
  pub told : Tells before after (SameButAt slot)

-- the bytes got for a pair: the first bytes of what the keeper claims there, as many as were put
abbrev pub IsGot : Kept → Option Images → List ℕ → Type 0
IsGot kept told got = WhereTold told (λ images. got ≡ take kept.length (image_in images kept.slot))

-- the slot of a pair is emptied, and all else is as before
abbrev pub IsFreed : Kept → Option Images → Option Images → Type 0
IsFreed kept before after = Tells before after (λ images images'. images' ≡ finmap.remove images kept.slot)

-- the slot of a pair isn't emptied: it is unchanged, or empty
abbrev pub IsNotFreed : Kept → Option Images → Option Images → Type 0
IsNotFreed kept before after = Tells before after (λ images images'. (images' ≡ images) ⊎ (images' ≡ finmap.remove images kept.slot))
