-- No public clause cites this file. What holds of a desk and of keepers while marks are set and fetched.
use Rattle.std.specs.Prelude.{◌≡◌, ◌≢◌, ℕ, ◌+◌, ◌<◌, List, length, slice_index_or, Option, Result, Err, IfOk, IfErr, OnOk}
use Rattle.keepers.specs.Claims.{Images}
use Rattle.keepers.specs.declared.storage.Storage.{Ghosts}
use Rattle.level_book.specs.declared.book.Slots.TheVariants.{Count}
use Rattle.rv_machine.specs.MachineState.{MachineState, IsMachineState}
use Rattle.rv_machine.specs.States.{state_number}
use Rattle.image_store.specs.Shelves.{ShelfState, level_of}
use Rattle.reverse_runner.specs.declared.fault.RunFault.{RunFault}
use Rattle.reverse_runner.specs.declared.fault.RunFault.TheVariants.{Keeper, Damaged, Memory, Ended}
use Rattle.reverse_runner.specs.declared.desk.Desk.{Desk}
use Rattle.reverse_runner.specs.Desks.{KeepersAre}
use Rattle.reverse_runner.specs.KeepersSeen.{Calls, told_by, calls_to, Called, HaveRoom}
use Rattle.reverse_runner.specs.HoldingsOfRun.{LevelStandsAt, IsLevelLaidOut}
use Rattle.reverse_runner.specs.Rooms.{image_room, rooms_by, AreRoomy, AreShort}
use Rattle.reverse_runner.specs.SessionState.{SamePages}
use Rattle.reverse_runner.specs.DeskFields.{Fits, levels_in}
use Rattle.reverse_runner.specs.KeeperCallEffects.{one_put}
use Rattle.reverse_console.specs.Costs.{Effort, gets_of}
use Rattle.reverse_console.specs.Marks.{MarkPlan, span, marked, marked_on, mark_count, mark_level}
use Rattle.reverse_console.specs.Refusals.{IsOfPutting, IsNotGot}
use Rattle.reverse_console.specs.StateSources.{Source}
use Rattle.reverse_console.specs.MarksOfRun.{IsMarkKept}

-- each level of a store holds the first i marks of its own
pub record AreSet (p : MarkPlan) (i : ℕ) (store : List ShelfState) : Type 0 where
  pub levels : length store ≡ length p.slots
  pub each : (k : ℕ) → k < length store → IsLevelLaidOut (span p) (slice_index_or p.slots k (Count 0)) (marked_on p i k) (level_of store k)

-- and the level of each mark has its image in a run
abbrev pub StandAt : MachineState → List (List ℕ) → MarkPlan → ℕ → List ShelfState → (ℕ → Option Images) → Type 0
StandAt first journal p i store told =
    (k j : ℕ) → j < mark_count p → mark_level p j ≡ k → LevelStandsAt (state_number first journal) (marked_on p i k) (level_of store k) (told k)

-- of the first i marks a store keeps the length and digest of their images in a run
abbrev pub AreKept : MachineState → List (List ℕ) → MarkPlan → ℕ → List ShelfState → Type 0
AreKept first journal p i store = (j : ℕ) → j < i → IsMarkKept first journal p store j

-- Setting a mark puts its image on its level, once.
pub record PutsMark {T : Type 0} (p : MarkPlan) (mark : ℕ) (result : Result T RunFault) (calls calls' : Calls) : Type 0 where
  pub called : Called (one_put (mark_level p mark)) calls calls'
  pub putting : IfErr result (IsOfPutting p)
  pub on_level : (k : ℕ) → result ≡ Err (Keeper k) → mark_level p mark ≡ k

-- then the store has one mark more, of each run of which this is its state
pub record SetsMark {T : Type 0} (p : MarkPlan) (mark : ℕ) (state : MachineState) (result : Result T RunFault)
    (store store' : List ShelfState) (told told' : ℕ → Option Images) : Type 0 where
  pub set : OnOk result (AreSet p (mark + 1) store')
  pub stand :
      (first : MachineState) (journal : List (List ℕ)) → StandAt first journal p mark store told → state ≡ state_number first journal (marked p mark) →
      OnOk result (StandAt first journal p (mark + 1) store' told')
  pub kept :
      (first : MachineState) (journal : List (List ℕ)) → AreKept first journal p mark store → state ≡ state_number first journal (marked p mark) →
      OnOk result (AreKept first journal p (mark + 1) store')

-- Mark i can be set: those before it are, and there are keepers with so many slots.
pub record MaySet (p : MarkPlan) (i : ℕ) (w : Desk) (counts : List ℕ) : Type 0 where
  pub set : AreSet p i w.store
  pub room : HaveRoom (span p) p.slots counts
  pub fits : Fits w

-- What setting marks leaves of a desk and of the keepers. Over keepers with room for the images, memory doesn't run out.
pub record LeavesDesk {K T : Type 0} (seen : Ghosts K) (p : MarkPlan) (result : Result T RunFault) (w w' : Desk) (old new : List K) : Type 0 where
  pub fits : Fits w'
  pub are : KeepersAre seen (λ k. k < length p.slots) result old new
  pub short : AreShort (image_room w.work) w.store → OnOk result (AreShort (image_room w.work) w'.store)
  pub roomy : AreRoomy (image_room w.work) (length p.slots) (rooms_by seen old) → result ≢ Err Memory

-- marks can be fetched: all are set, and there are keepers with so many slots
pub record IsReady (p : MarkPlan) (w : Desk) (counts : List ℕ) : Type 0 where
  pub set : AreSet p (mark_count p) w.store
  pub room : HaveRoom (span p) p.slots counts
  pub fits : Fits w
  pub short : AreShort (image_room w.work) w.store

-- where states come from that are fetched onto a desk
abbrev pub source : MarkPlan → List (List ℕ) → Desk → (ℕ → Option Images) → Source
source p journal w told = record { plan = p; journal = journal; levels = levels_in w told; machine = w.work }

-- these marks were fetched, and nothing else was done
pub record Reads {K : Type 0} (seen : Ghosts K)
    (p : MarkPlan) (marks : List ℕ) (w w' : Desk) (old new : List K) : Type 0 where
  pub machine : SamePages w'.work w.work
  pub fits : Fits w'
  pub store : w'.store ≡ w.store
  pub told_same : (k : ℕ) → told_by seen new k ≡ told_by seen old k
  pub called : Called (gets_of p marks) (calls_to seen old) (calls_to seen new)

-- What a call did that fetches these marks, and what it leaves of the keepers. If the marks represent a run, no refusal
-- is damage. Over keepers with room for the images, memory doesn't run out.
pub record Gets {K T : Type 0} (seen : Ghosts K)
    (p : MarkPlan) (journal : List (List ℕ)) (marks : List ℕ) (result : Result T RunFault) (w w' : Desk) (old new : List K) : Type 0 where
  pub reads : Reads seen p marks w w' old new
  pub are : KeepersAre seen (λ k. k < length p.slots) result old new
  pub lasting : result ≢ Err Ended
  pub undamaged :
      (first : MachineState) → IsMachineState first → SamePages w.work first → StandAt first journal p (mark_count p) w.store (told_by seen old) →
      (k : ℕ) (put got : List ℕ) → result ≢ Err (Damaged k put got)
  pub roomy : AreRoomy (image_room w.work) (length p.slots) (rooms_by seen old) → result ≢ Err Memory

-- What a search for a place did: how it looks, and where it may stop, by its answer.
pub record Looks {K : Type 0} (seen : Ghosts K)
    (p : MarkPlan) (journal : List (List ℕ)) (how : Option ℕ → Effort) (Breaks : ℕ → Effort → Type 0)
    (result : Result (Option ℕ) RunFault) (w w' : Desk) (old new : List K) (steps steps' : ℕ) : Type 0 where
  pub effort : Effort
  pub got : Gets seen p journal effort.marks result w w' old new
  pub counted : steps' ≡ steps + effort.steps
  pub done : IfOk result (λ answer. effort ≡ how answer)
  pub broken : IfErr result (λ fault. (mark : ℕ) × (Breaks mark effort × IsNotGot (source p journal w (told_by seen old)) mark fault))
