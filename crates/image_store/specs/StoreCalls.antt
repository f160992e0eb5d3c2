-- What a call does to a level of a store and to its keeper, over all that is seen of the keeper.
use Rattle.std.specs.Prelude.{◌≡◌, ◌≢◌, ℕ, ◌<◌, ◌≤◌, ◌^◌, List, length, Vec, Result, Err, None, Some, IsSome, IfOk, OnOk, OnErr}
use Rattle.std.specs.Vec.{vec_len, vec_capacity}
use Rattle.std.specs.FinMap as finmap
use Rattle.sha2.specs.Sha256.{sha256}
use Rattle.keepers.specs.Calls.{OnePut, OneGet, OneFree, Remains}
use Rattle.keepers.specs.Claims.{Images}
use Rattle.keepers.specs.declared.storage.Storage.{Ghosts}
use Rattle.image_store.specs.declared.shelf.Kept.{Kept}
use Rattle.image_store.specs.declared.shelf.StoreFault.{StoreFault}
use Rattle.image_store.specs.declared.shelf.StoreFault.TheVariants.{Keeper, Damaged, Memory}
use Rattle.image_store.specs.Calls.{IsKept, IsNotKept, IsGot, IsFreed, IsNotFreed, without_pair}
use Rattle.image_store.specs.Pairs.{pair_at, held}
use Rattle.image_store.specs.Shelves.{ShelfState}
use Rattle.image_store.specs.StoredImages.{LevelStands, LevelAlone}

-- An image and its digest can be kept as a new pair of a level, over a keeper of so many slots.
pub record CanKeep (level : ShelfState) (count n : ℕ) (image digest : List ℕ) : Type 0 where
  pub number : n < length level.pairs
  pub new : pair_at level.pairs n ≡ None
  pub room : held level.pairs < level.room
  pub slots : level.room ≤ count
  pub size : length image < 2 ^ 32
  pub sum : digest ≡ sha256 image

-- a pair is held, over a keeper of so many slots
pub record HasPair (level : ShelfState) (count n : ℕ) : Type 0 where
  pub held : IsSome (pair_at level.pairs n)
  pub slots : level.room ≤ count

module _ {K : Type 0} (g : Ghosts K) where
  -- An image is put into a slot without a pair, and kept as a pair. After a refusal the pairs are unchanged.
  pub record KeepsPair (n : ℕ) (image : List ℕ) (answer : Result (Unit {0}) StoreFault) (old new : ShelfState) (before after : K) : Type 0 where
    pub ok : OnOk answer (IsKept old new n image (g.told before) (g.told after))
    pub stands : (bytes : Images) → LevelStands old (g.told before) bytes → OnOk answer (LevelStands new (g.told after) (finmap.insert bytes n image))
    pub alone : LevelAlone old (g.told before) → OnOk answer (LevelAlone new (g.told after))
    pub refused : OnErr answer (new ≡ old)
    pub still : (bytes : Images) → LevelStands old (g.told before) bytes → OnErr answer (LevelStands new (g.told after) bytes)
    pub left : OnErr answer (IsNotKept old (g.told before) (g.told after))
    pub whole : (put got : List ℕ) → answer ≢ Err (Damaged put got)
    pub counted : OnePut g before after
    pub rest : Remains g (answer ≡ Err Keeper) before after
    pub roomy : (room : ℕ) → g.room_bytes before ≡ Some room → length image ≤ room → answer ≢ Err Memory

  -- The bytes of a held pair are got into a buffer, and their digest is returned. Damaged: it isn't the digest of the
  -- bytes that were put.
  pub record FetchesPair {Z : Type 0} (n : ℕ) (into into' : Vec ℕ Z) (answer : Result (List ℕ) StoreFault) (level : ShelfState) (before after : K) : Type 0 where
    pub ok : OnOk answer ((kept : Kept) → pair_at level.pairs n ≡ Some kept →
        IsGot kept (g.told before) into'.items × (vec_len into' ≤ kept.length) × (sha256 into'.items ≡ kept.digest))
    pub digest : IfOk answer (λ digest. digest ≡ sha256 into'.items)
    pub short : OnOk answer (vec_len into' < 2 ^ 32)
    pub damaged : (put got : List ℕ) → answer ≡ Err (Damaged put got) → (kept : Kept) → pair_at level.pairs n ≡ Some kept →
        IsGot kept (g.told before) into'.items × (put ≡ kept.digest) × (got ≡ sha256 into'.items) × (got ≢ put)
    pub stands : (bytes : Images) → LevelStands level (g.told before) bytes → OnOk answer (finmap.get bytes n ≡ Some into'.items)
    pub sound : (bytes : Images) → LevelStands level (g.told before) bytes → (put got : List ℕ) → answer ≢ Err (Damaged put got)
    pub same : g.told after ≡ g.told before
    pub reserved : vec_capacity into ≤ vec_capacity into'
    pub counted : OneGet g before after
    pub rest : Remains g (answer ≡ Err Keeper) before after
    pub roomy : (room : ℕ) (kept : Kept) → g.room_bytes before ≡ Some room → pair_at level.pairs n ≡ Some kept →
        kept.length ≤ vec_capacity into → answer ≢ Err Memory

  -- The slot of a held pair is freed, and the pair is dropped. After a refusal the pairs are unchanged.
  pub record ReleasesPair (n : ℕ) (answer : Result (Unit {0}) StoreFault) (old new : ShelfState) (before after : K) : Type 0 where
    pub ok : OnOk answer (new ≡ without_pair old n)
    pub freed : OnOk answer ((kept : Kept) → pair_at old.pairs n ≡ Some kept → IsFreed kept (g.told before) (g.told after))
    pub stands : (bytes : Images) → LevelStands old (g.told before) bytes → OnOk answer (LevelStands new (g.told after) (finmap.remove bytes n))
    pub alone : LevelAlone old (g.told before) → OnOk answer (LevelAlone new (g.told after))
    pub refused : OnErr answer (new ≡ old)
    pub left : OnErr answer ((kept : Kept) → pair_at old.pairs n ≡ Some kept → IsNotFreed kept (g.told before) (g.told after))
    pub whole : (put got : List ℕ) → answer ≢ Err (Damaged put got)
    pub counted : OneFree g before after
    pub rest : Remains g (answer ≡ Err Keeper) before after
    pub roomy : (room : ℕ) → g.room_bytes before ≡ Some room → answer ≢ Err Memory
