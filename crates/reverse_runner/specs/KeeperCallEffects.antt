-- No public clause cites this file. What a call on one level's keeper does to all keepers, and how it is refused.
use Rattle.std.specs.Prelude.{◌≡◌, ◌≢◌, ℕ, ◌==◌, ◌≤◌, List, map, slice_get, Some}
use Rattle.keepers.specs.Claims.{Location}
use Rattle.sha2.specs.Sha256.{sha256}
use Rattle.image_store.specs.declared.shelf.Kept.{Kept}
use Rattle.image_store.specs.Shelves.{kept_at}
use Rattle.image_store.specs.Calls.{IsGot}
use Rattle.image_store.specs.declared.shelf.StoreFault.{StoreFault}
use Rattle.image_store.specs.declared.shelf.StoreFault.TheVariants as store
use Rattle.reverse_runner.specs.declared.fault.RunFault.{RunFault}
use Rattle.reverse_runner.specs.declared.fault.RunFault.TheVariants.{Keeper, Damaged, Visitor, Memory, Ended}
use Rattle.reverse_runner.specs.ActionEffects.{Levels}
use Rattle.reverse_runner.specs.KeepersSeen.{Calls, one_if, by_number}

-- one put on level k, one get from it, one free there
abbrev pub one_put : ℕ → Calls
one_put k = record { puts = λ j. one_if (k == j); gets = λ _. 0; frees = λ _. 0 }

abbrev pub one_get : ℕ → Calls
one_get k = record { puts = λ _. 0; gets = λ j. one_if (k == j); frees = λ _. 0 }

abbrev pub one_free : ℕ → Calls
one_free k = record { puts = λ _. 0; gets = λ _. 0; frees = λ j. one_if (k == j) }

-- the keepers have the same slots, in the same places, and no count of faults fell
pub record Remain {K : Type 0} (slots : K → ℕ) (places : K → Location) (faults : K → ℕ) (old new : List K) : Type 0 where
  pub slots_same : map slots new ≡ map slots old
  pub places_same : map places new ≡ map places old
  pub later : (k : ℕ) → by_number 0 faults old k ≤ by_number 0 faults new k

-- all keepers but that of level k are unchanged
abbrev pub OthersRemain : {K : Type 0} → ℕ → List K → List K → Type 0
OthersRemain k old new = (j : ℕ) → j ≢ k → slice_get new j ≡ slice_get old j

-- a fault of the storage of level k, as a session answers it
abbrev pub fault_on : ℕ → StoreFault → RunFault
fault_on k store.Keeper = Keeper k
fault_on k (store.Damaged put got) = Damaged k put got
fault_on k store.Memory = Memory

-- the fault is that the keeper of level k failed, or that memory ran out
abbrev pub IsKeeping : ℕ → RunFault → Type 0
IsKeeping k (Keeper j) = j ≡ k
IsKeeping k Memory = Unit {0}
IsKeeping k _ = ⊥

-- or that what it gave is damaged
abbrev pub IsFetching : ℕ → RunFault → Type 0
IsFetching k (Keeper j) = j ≡ k
IsFetching k (Damaged j put got) = j ≡ k
IsFetching k Memory = Unit {0}
IsFetching k _ = ⊥

-- the bytes that were got of a pair have another digest than those that were put
pub record IsOther (s : Levels) (k n : ℕ) (put got : List ℕ) : Type 0 where
  pub kept : Kept
  pub held : kept_at s.store k n ≡ Some kept
  pub bytes : List ℕ
  pub told : IsGot kept (s.told k) bytes
  pub put_digest : put ≡ kept.digest
  pub got_digest : got ≡ sha256 bytes
  pub other : got ≢ put

-- the fault is one of the storage
abbrev pub IsOfStorage : RunFault → Type 0
IsOfStorage Visitor = ⊥
IsOfStorage Ended = ⊥
IsOfStorage _ = Unit {0}
