-- What a call on an image of one level does to the keepers, and what any call leaves of them.
use Rattle.std.specs.Prelude.{◌≡◌, ◌≢◌, ℕ, ◌≤◌, List, map, slice_get, slice_set, None, Some, Result, Ok, Err}
use Rattle.keepers.specs.Counts.{Rose}
use Rattle.keepers.specs.declared.storage.Storage.{Ghosts}
use Rattle.image_store.specs.declared.shelf.StoreFault.{StoreFault}
use Rattle.reverse_runner.specs.declared.fault.RunFault.{RunFault}
use Rattle.reverse_runner.specs.declared.fault.RunFault.TheVariants.{Keeper}
use Rattle.reverse_runner.specs.KeepersSeen.{by_number, slot_counts}
use Rattle.reverse_runner.specs.KeeperCallEffects.{fault_on}

-- what a call on the storage of level k answers, by what its store answers
abbrev pub answer_on : {A : Type 0} → ℕ → Result A StoreFault → Result A RunFault
answer_on k (Ok x) = Ok x
answer_on k (Err fault) = Err (fault_on k fault)

-- The keeper of level k was called once, and the call did this by its answer. The other keepers are unchanged.
pub record CallsAt {K A : Type 0} (k : ℕ) (Does : Result A StoreFault → K → K → Type 0) (result : Result A RunFault) (old new : List K) : Type 0 where
  pub answer : Result A StoreFault
  pub is : result ≡ answer_on k answer
  pub before : K
  pub after : K
  pub was : slice_get old k ≡ Some before
  pub others : new ≡ slice_set old k after
  pub does : Does answer before after

-- What a call leaves of keepers. They have the same slots and rooms, in the same places. A keeper that is said to have
-- failed is one that the call may touch. Its count of faults rose, and no other count changed. The keepers that the call
-- may not touch are unchanged.
pub record KeepersAre {K A : Type 0} (g : Ghosts K) (MayTouch : ℕ → Type 0) (result : Result A RunFault) (old new : List K) : Type 0 where
  pub slots : slot_counts g new ≡ slot_counts g old
  pub places : map g.place new ≡ map g.place old
  pub rooms : (k : ℕ) → by_number None g.room_bytes new k ≡ by_number None g.room_bytes old k
  pub cause : (k : ℕ) → result ≡ Err (Keeper k) → MayTouch k × Rose (by_number 0 g.fault_count old k) (by_number 0 g.fault_count new k)
  pub quiet : (k : ℕ) → result ≢ Err (Keeper k) → by_number 0 g.fault_count new k ≡ by_number 0 g.fault_count old k
  pub later : (k : ℕ) → by_number 0 g.fault_count old k ≤ by_number 0 g.fault_count new k
  pub others : (k : ℕ) → (MayTouch k → ⊥) → slice_get new k ≡ slice_get old k
