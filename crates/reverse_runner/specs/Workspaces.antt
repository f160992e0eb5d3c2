-- No public clause cites this file. What a workspace holds, and what holds of it.
use Rattle.std.specs.Prelude.{◌≡◌, ℕ, ◌*◌, ◌≤◌, List, length, Option, MatchOption, Result, Contains}
use Rattle.std.specs.Vec.{vec_capacity}
use Rattle.plan_types.specs.declared.action.Action.{Action}
use Rattle.plan_types.specs.declared.limits.TheConstants.{MOST_STEPS}
use Rattle.keepers.specs.Claims.{Images}
use Rattle.keepers.specs.declared.storage.Storage.{Ghosts}
use Rattle.level_book.specs.declared.book.Slots.{Slots}
use Rattle.level_book.specs.Configuration.{Configuration}
use Rattle.level_book.specs.Rules.{levels_named}
use Rattle.schedule_rules.specs.Reachability.{IsSound}
use Rattle.schedule_rules.specs.Situation.{Situation}
use Rattle.input_journal.specs.Form.{IsRecorded}
use Rattle.rv_pages.specs.Memory.{page_numbers}
use Rattle.unit_undo.specs.UndoTrail.{LeadsBack, led_back, IsMadeFor}
use Rattle.unit_digests.specs.Digests.{states_of, AreDigests}
use Rattle.reverse_runner.specs.declared.fault.RunFault.{RunFault}
use Rattle.reverse_runner.specs.declared.workspace.Workspace.{Workspace}
use Rattle.reverse_runner.specs.ActionOutcome.{ActionEnds, HasReason, IsSafe}
use Rattle.reverse_runner.specs.Desks.{KeepersAre}
use Rattle.reverse_runner.specs.ActionEffects.{TapeState, Levels, Holdings}
use Rattle.reverse_runner.specs.KeepersSeen.{HaveRoom, calls_to, told_by}
use Rattle.reverse_runner.specs.HoldingsOfRun.{IsLaidOut}
use Rattle.reverse_runner.specs.Rooms.{image_room, rooms_by, AreShort}
use Rattle.reverse_runner.specs.SessionState.{SamePages}

-- its levels over what the keepers claim, and all that it holds
abbrev pub levels_in : Workspace → (ℕ → Option Images) → Levels
levels_in w told = record { store = w.desk.store; told = told }

-- the tape: the states over which its undo list leads back from the state after them
abbrev pub tape_in : Workspace → TapeState
tape_in w = record { states = led_back w.undo.entries w.tape; after = w.tape }

-- where a configuration's tape isn't empty, there is an entry for each step of a unit
abbrev pub IsTaped : ℕ → Configuration → Workspace → Type 0
IsTaped unit c w = MatchOption c.tape (Unit {0}) (λ n. length w.undo.entries ≡ unit)

abbrev pub holdings_in : Workspace → (ℕ → Option Images) → Holdings
holdings_in w told = record { work = w.desk.work; tape = tape_in w; levels = levels_in w told }

-- The undo list leads back from the tape. A known digest of a state on the tape is that of its image.
pub record HasTape (w : Workspace) : Type 0 where
  pub back : LeadsBack w.undo.entries w.tape (led_back w.undo.entries w.tape)
  pub known : AreDigests w.known.items (states_of w.undo.entries w.tape)

-- Its states map the same pages. The buffer has room for the image of each. The undo list leads back from the tape. A
-- known digest of a state on the tape is that of its image. There is room for the digests of a whole unit.
pub record IsInOrder (w : Workspace) : Type 0 where
  pub pages : SamePages w.tape w.desk.work
  pub few : length (page_numbers w.desk.work.memory) ≤ 4096
  pub back : LeadsBack w.undo.entries w.tape (led_back w.undo.entries w.tape)
  pub known : AreDigests w.known.items (states_of w.undo.entries w.tape)
  pub some : 1 ≤ w.undo.unit
  pub room : w.undo.unit ≤ vec_capacity w.known
  pub buffer : image_room w.desk.work ≤ vec_capacity w.desk.buffer

-- A workspace stays in order. Its states map the same pages as before. No stored image becomes longer than one of the
-- state in work can be.
pub record StaysInOrder (old new : Workspace) : Type 0 where
  pub fits : IsInOrder new
  pub pages : SamePages old.desk.work new.desk.work
  pub short : AreShort (image_room old.desk.work) old.desk.store → AreShort (image_room old.desk.work) new.desk.store

-- An action is allowed at a sound configuration. The levels hold the configuration's pairs, and there are keepers with
-- so many slots.
pub record IsReady (steps : ℕ) (slots : List Slots) (c : Configuration) (w : Workspace) (counts : List ℕ) : Type 0 where
  pub sound : IsSound steps slots c
  pub laid : IsLaidOut steps slots c w.desk.store
  pub room : HaveRoom steps slots counts
  pub fits : IsInOrder w

-- The undo list is made for units of so many steps with this recorded input. It holds one if the tape isn't empty.
pub record HasUnits (unit : ℕ) (journal : List (List ℕ)) (steps : ℕ) (c : Configuration) (w : Workspace) : Type 0 where
  pub taped : IsTaped unit c w
  pub made : IsMadeFor journal w.undo
  pub same : w.undo.unit ≡ unit
  pub small : unit * steps ≤ MOST_STEPS

-- How an action ended: what it did or left, the cause of a refusal, which refusals can't happen, and what is left of the
-- keepers. The workspace stays in order.
pub record Ends {K A : Type 0} (g : Ghosts K) (result : Result A RunFault) (unit : ℕ) (journal : List (List ℕ)) (s : Situation) (action : Action)
    (old new : Workspace) (ks ls : List K) (steps steps' : ℕ) : Type 0 where
  pub does : ActionEnds result unit journal action (holdings_in old (told_by g ks)) (holdings_in new (told_by g ls)) steps steps'
      (calls_to g ks) (calls_to g ls)
  pub caused : HasReason result action (holdings_in old (told_by g ks)) (told_by g ls)
  pub spared : IsRecorded journal → AreShort (image_room old.desk.work) old.desk.store →
      IsSafe result journal unit s.at (holdings_in old (told_by g ks)) (length s.slots) (rooms_by g ks)
  pub kept : KeepersAre g (λ k. Contains (levels_named action) k) result ks ls
  pub order : StaysInOrder old new
