-- What a call does to storage, over all that is seen of it.
use Rattle.std.specs.Prelude.{◌≡◌, ◌≢◌, ◌⊎◌, ℕ, ◌≤◌, List, length, take, Vec, Some, Err, OnOk, OnErr}
use Rattle.std.specs.Vec.{vec_len, vec_capacity}
use Rattle.std.specs.FinMap as finmap
use Rattle.keepers.specs.Counts.{Rose, raised}
use Rattle.keepers.specs.CallEffects.{Answer}
use Rattle.keepers.specs.Claims.{Tells, WhereTold, image_in, SameButAt}
use Rattle.keepers.specs.declared.keeper.KeepFault.TheVariants.{Failed, Memory}
use Rattle.keepers.specs.declared.storage.CallCounts.{CallCounts}
use Rattle.keepers.specs.declared.storage.Storage.{Ghosts}

module _ {K : Type 0} (g : Ghosts K) where
  abbrev pub counts_of : K → CallCounts
  counts_of k = record { puts = g.put_count k; gets = g.get_count k; frees = g.free_count k; faults = g.fault_count k }

  -- one put was counted, and no other call
  pub record OnePut (old new : K) : Type 0 where
    pub puts : g.put_count new ≡ raised (g.put_count old) 1
    pub gets : g.get_count new ≡ g.get_count old
    pub frees : g.free_count new ≡ g.free_count old

  pub record OneGet (old new : K) : Type 0 where
    pub gets : g.get_count new ≡ raised (g.get_count old) 1
    pub puts : g.put_count new ≡ g.put_count old
    pub frees : g.free_count new ≡ g.free_count old

  pub record OneFree (old new : K) : Type 0 where
    pub frees : g.free_count new ≡ raised (g.free_count old) 1
    pub puts : g.put_count new ≡ g.put_count old
    pub gets : g.get_count new ≡ g.get_count old

  -- The slots, the room and the place are unchanged. The count of faults rose if the storage failed, and otherwise is
  -- unchanged.
  pub record Remains (HasFailed : Type 0) (old new : K) : Type 0 where
    pub slots : g.slot_count new ≡ g.slot_count old
    pub room : g.room_bytes new ≡ g.room_bytes old
    pub place : g.place new ≡ g.place old
    pub quiet : (HasFailed → ⊥) → g.fault_count new ≡ g.fault_count old
    pub later : g.fault_count old ≤ g.fault_count new
    pub cause : HasFailed → Rose (g.fault_count old) (g.fault_count new)

  -- A put of an image into a slot. After a refusal the slot may hold anything. An image within the room takes no memory.
  pub record Puts (slot : ℕ) (image : List ℕ) (answer : Answer) (old new : K) : Type 0 where
    pub ok : OnOk answer (Tells (g.told old) (g.told new) (λ old new. new ≡ finmap.insert old slot image))
    pub refused : OnErr answer (Tells (g.told old) (g.told new) (SameButAt slot))
    pub counted : OnePut old new
    pub rest : Remains (answer ≡ Err Failed) old new
    pub roomy : (room : ℕ) → g.room_bytes old ≡ Some room → length image ≤ room → answer ≢ Err Memory

  -- A get of the first `len` bytes of the image in a slot, replacing what was in a buffer. Storage with a room takes no
  -- memory if the buffer has room for `len` bytes.
  pub record Gets {Z : Type 0} (slot len : ℕ) (before after : Vec ℕ Z) (answer : Answer) (old new : K) : Type 0 where
    pub ok : OnOk answer (WhereTold (g.told old) (λ old. after.items ≡ take len (image_in old slot)))
    pub short : OnOk answer (vec_len after ≤ len)
    pub reserved : vec_capacity before ≤ vec_capacity after
    pub same : g.told new ≡ g.told old
    pub counted : OneGet old new
    pub rest : Remains (answer ≡ Err Failed) old new
    pub roomy : (room : ℕ) → g.room_bytes old ≡ Some room → len ≤ vec_capacity before → answer ≢ Err Memory

  -- A slot is emptied. After a refusal it is unchanged, or empty. Storage with a room takes no memory.
  pub record Frees (slot : ℕ) (answer : Answer) (old new : K) : Type 0 where
    pub ok : OnOk answer (Tells (g.told old) (g.told new) (λ old new. new ≡ finmap.remove old slot))
    pub refused : OnErr answer (Tells (g.told old) (g.told new) (λ old new. (new ≡ old) ⊎ (new ≡ finmap.remove old slot)))
    pub counted : OneFree old new
    pub rest : Remains (answer ≡ Err Failed) old new
    pub roomy : (room : ℕ) → g.room_bytes old ≡ Some room → answer ≢ Err Memory
