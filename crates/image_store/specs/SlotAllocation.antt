-- No public clause cites this file. It says how the pairs of a level are stored.
use Rattle.std.specs.Prelude.{◌≡◌, ℕ, zero, suc, ◌+◌, ◌<◌, ◌^◌, List, [], map, length, slice_index_or, Option, None, Some}
use Rattle.image_store.specs.declared.shelf.Fingerprint.{Fingerprint}
use Rattle.image_store.specs.declared.shelf.Kept.{Kept}
use Rattle.image_store.specs.Pairs.{pair_at, held, IsFreeSlot, HaveOwnSlots}

-- the fingerprint of the bytes in a slot
abbrev pub fingerprint_at : List Fingerprint → ℕ → Fingerprint
fingerprint_at fingerprints slot = slice_index_or fingerprints slot (record { length = 0; digest = [] })

-- The pair with this number as its entry. 0: it isn't held. Any other number is one more than its slot.
abbrev pub pair_in : List Fingerprint → ℕ → Option Kept
pair_in fingerprints zero = None
pair_in fingerprints (suc slot) = Some (record {
  slot = slot;
  length = (fingerprint_at fingerprints slot).length;
  digest = (fingerprint_at fingerprints slot).digest;
})

-- the pairs whose places are these
abbrev pub pairs_in : List Fingerprint → List ℕ → List (Option Kept)
pairs_in fingerprints places = map (pair_in fingerprints) places

-- The first `count` of `free` are the slots without a pair, each once. There are as many slots as `free` has entries.
pub record SharesOut (pairs : List (Option Kept)) (free : List ℕ) (count : ℕ) : Type 0 where
  pub counted : held pairs + count ≡ length free
  pub within : (i : ℕ) → i < count → slice_index_or free i 0 < length free
  pub once : (i j : ℕ) → i < count → j < count → slice_index_or free i 0 ≡ slice_index_or free j 0 → i ≡ j
  pub unused : (i : ℕ) → i < count → IsFreeSlot pairs (slice_index_or free i 0)
  pub slots : (n : ℕ) (kept : Kept) → pair_at pairs n ≡ Some kept → kept.slot < length free
  pub own : HaveOwnSlots pairs

-- the invariant of the places, the fingerprints and the free slots of a level
pub record IsShelf (fingerprints : List Fingerprint) (places free : List ℕ) (count : ℕ) : Type 0 where
  pub shares : SharesOut (pairs_in fingerprints places) free count
  pub each : length fingerprints ≡ length free
  pub small : length free < 2 ^ 32
