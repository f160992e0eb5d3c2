-- What a call on an image of level k wants, and what it does to a store, to its keepers and to a buffer.
use Rattle.std.specs.Prelude.{◌≡◌, ◌≢◌, ℕ, ◌<◌, ◌≤◌, ◌^◌, List, length, Vec, Result, Err, None, Some, IfOk, IfErr, OnOk, OnErr}
use Rattle.std.specs.Vec.{vec_len, vec_capacity}
use Rattle.sha2.specs.Sha256.{sha256}
use Rattle.keepers.specs.Claims.{Images}
use Rattle.keepers.specs.declared.storage.Storage.{Ghosts}
use Rattle.image_store.specs.declared.shelf.Kept.{Kept}
use Rattle.image_store.specs.Pairs.{held}
use Rattle.image_store.specs.Calls.{IsNotKept, IsNotFreed}
use Rattle.image_store.specs.Shelves.{ShelfState, level_of, kept_at}
use Rattle.image_store.specs.StoredImages.{LevelStands}
use Rattle.reverse_runner.specs.declared.fault.RunFault.{RunFault}
use Rattle.reverse_runner.specs.declared.fault.RunFault.TheVariants.{Damaged, Memory}
use Rattle.reverse_runner.specs.ActionEffects.{Levels, IsAsBefore, IsFetched, Keeps, Releases}
use Rattle.reverse_runner.specs.Desks.{KeepersAre}
use Rattle.reverse_runner.specs.KeepersSeen.{by_number, told_by, calls_to, Called}
use Rattle.reverse_runner.specs.Rooms.{IsRoomy, rooms_by, AreShort}
use Rattle.reverse_runner.specs.KeeperCallEffects.{one_put, one_get, one_free, IsKeeping, IsFetching, IsOther}

-- Level k has a store and a keeper, which has as many slots.
pub record IsOnLevel {K : Type 0} (g : Ghosts K) (k : ℕ) (store : List ShelfState) (ks : List K) : Type 0 where
  pub there : k < length ks
  pub level : k < length store
  pub slots : (level_of store k).room ≤ by_number 0 g.slot_count ks k

module _ {K : Type 0} (g : Ghosts K) (k n : ℕ) where
  -- the levels of a store over what these keepers claim
  abbrev pub levels_on : List ShelfState → List K → Levels
  levels_on store ks = record { store = store; told = told_by g ks }

  -- Pair n may be kept: the level doesn't hold it, and has a free slot. The bytes in the buffer have this digest.
  pub record MayKeep {Z : Type 0} (buffer : Vec ℕ Z) (hash : List ℕ) (store : List ShelfState) (ks : List K) : Type 0 where
    pub on : IsOnLevel g k store ks
    pub number : n < length (level_of store k).pairs
    pub new : kept_at store k n ≡ None
    pub room : held (level_of store k).pairs < (level_of store k).room
    pub size : vec_len buffer < 2 ^ 32
    pub digest : hash ≡ sha256 buffer.items

  -- The bytes of a buffer are kept as pair n. After a refusal the slot that was tried may hold anything.
  pub record KeepGives {Z : Type 0} (buffer : Vec ℕ Z) (r : Result (Unit {0}) RunFault) (old new : List ShelfState) (ks ls : List K) : Type 0 where
    pub keeps : OnOk r (Keeps (levels_on old ks) (levels_on new ls) k n buffer.items)
    pub left : OnErr r (IsNotKept (level_of old k) (told_by g ks k) (told_by g ls k))
    pub others : (j : ℕ) → j ≢ k → IsAsBefore (levels_on old ks) (levels_on new ls) j
    pub count : length new ≡ length old
    pub called : Called (one_put k) (calls_to g ks) (calls_to g ls)
    pub are : KeepersAre g (λ j. j ≡ k) r ks ls
    pub fault : IfErr r (IsKeeping k)
    pub short : (most : ℕ) → vec_len buffer ≤ most → AreShort most old → AreShort most new
    pub roomy : (most : ℕ) → IsRoomy most (rooms_by g ks k) → vec_len buffer ≤ most → r ≢ Err Memory

  -- The bytes of pair n are got into a buffer, and their digest is returned.
  pub record FetchGives {Z : Type 0} (into into' : Vec ℕ Z) (r : Result (List ℕ) RunFault) (old new : List ShelfState) (ks ls : List K) : Type 0 where
    pub fetched : OnOk r (IsFetched (levels_on old ks) k n into'.items)
    pub damaged : (j : ℕ) (put got : List ℕ) → r ≡ Err (Damaged j put got) → (j ≡ k) × IsOther (levels_on old ks) k n put got
    pub sound : (images : Images) → LevelStands (level_of old k) (told_by g ks k) images → IfErr r (IsKeeping k)
    pub digest : IfOk r (λ digest. digest ≡ sha256 into'.items)
    pub fault : IfErr r (IsFetching k)
    pub few : (most : ℕ) → AreShort most old → OnOk r (vec_len into' ≤ most)
    pub roomy : (most : ℕ) → IsRoomy most (rooms_by g ks k) → AreShort most old → most ≤ vec_capacity into → r ≢ Err Memory
    pub same : (j : ℕ) → IsAsBefore (levels_on old ks) (levels_on new ls) j
    pub short : OnOk r (vec_len into' < 2 ^ 32)
    pub reserved : vec_capacity into ≤ vec_capacity into'
    pub called : Called (one_get k) (calls_to g ks) (calls_to g ls)
    pub are : KeepersAre g (λ j. j ≡ k) r ks ls

  -- Pair n is dropped, and its slot is freed. After a refusal the slot is unchanged, or empty.
  pub record ReleaseGives (r : Result (Unit {0}) RunFault) (old new : List ShelfState) (ks ls : List K) : Type 0 where
    pub releases : OnOk r (Releases (levels_on old ks) (levels_on new ls) k n)
    pub left : OnErr r ((kept : Kept) → kept_at old k n ≡ Some kept → IsNotFreed kept (told_by g ks k) (told_by g ls k))
    pub others : (j : ℕ) → j ≢ k → IsAsBefore (levels_on old ks) (levels_on new ls) j
    pub count : length new ≡ length old
    pub called : Called (one_free k) (calls_to g ks) (calls_to g ls)
    pub are : KeepersAre g (λ j. j ≡ k) r ks ls
    pub fault : IfErr r (IsKeeping k)
    pub short : (most : ℕ) → AreShort most old → AreShort most new
    pub roomy : (most : ℕ) → IsRoomy most (rooms_by g ks k) → r ≢ Err Memory
