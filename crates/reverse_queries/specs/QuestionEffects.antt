-- What a question does to a session, and which faults it can't have: relations that its contracts share.
use Rattle.std.specs.Prelude.{◌≡◌, ◌≢◌, ℕ, ◌+◌, ◌*◌, ◌<◌, List, length, Option, Result, Err, IfOk, IfErr, OnOk}
use Rattle.keepers.specs.Claims.{Images}
use Rattle.keepers.specs.declared.storage.Storage.{Ghosts}
use Rattle.plan_types.specs.declared.action.Action.{Action}
use Rattle.level_book.specs.CostFold.{forward}
use Rattle.rv_machine.specs.MachineState.{MachineState, IsMachineState}
use Rattle.rv_machine.specs.States.{state_number}
use Rattle.reverse_runner.specs.declared.fault.RunFault.{RunFault}
use Rattle.reverse_runner.specs.declared.fault.RunFault.TheVariants.{Damaged, Memory, Visitor, Ended}
use Rattle.reverse_runner.specs.CallOutcome.{Stays}
use Rattle.reverse_runner.specs.Desks.{KeepersAre}
use Rattle.reverse_runner.specs.KeepersSeen.{Calls, Called, calls_to, told_by}
use Rattle.reverse_runner.specs.Rooms.{image_room, rooms_by, AreRoomy}
use Rattle.reverse_runner.specs.SessionState.{SessionState, holdings_of}
use Rattle.reverse_runner.specs.SessionOfRun.{StandsAt}
use Rattle.reverse_queries.specs.Queries.{IsLast, up_to}
use Rattle.reverse_queries.specs.HoldingsTrace.{IsFoundOn}
use Rattle.reverse_queries.specs.ListExecution.{calls_of_all, PerformsAll, RefusedIn}

-- Exactly the actions of a list were performed. The session went over them. The count of machine steps rose by theirs,
-- and the keepers were called as they call them.
pub record Performed (old : SessionState) (list : List Action) (new : SessionState) (steps steps' : ℕ) (calls calls' : Calls) : Type 0 where
  pub performs : PerformsAll old list new
  pub counted : steps' ≡ steps + old.unit * forward list
  pub called : Called (calls_of_all list) calls calls'

-- A session that hasn't ended doesn't say that it has. Over keepers with room for its images, memory doesn't run out.
-- If the session is at its start, no bytes are damaged.
pub record IsSpared {A : Type 0} (result : Result A RunFault) (session : SessionState) (told : ℕ → Option Images) (rooms : ℕ → Option ℕ) : Type 0 where
  pub not_ended : result ≢ Err Ended
  pub roomy : AreRoomy (image_room session.work) (length session.situation.slots) rooms → result ≢ Err Memory
  pub undamaged : (first : MachineState) → IsMachineState first → StandsAt first session told → (k : ℕ) (put got : List ℕ) → result ≢ Err (Damaged k put got)

-- The last step of a run with a property was looked for, which is one of the states by number. The first answer is that
-- in the run, if the session is at its start. The second is that by the states which were given on the way, over any
-- keepers. No visitor of the caller can fail.
pub record FindsLast {K : Type 0} (g : Ghosts K) (Property : (ℕ → MachineState) → ℕ → Type 0) (result : Result (Option ℕ) RunFault)
    (list : List Action) (old new : SessionState) (ks ls : List K) (steps steps' : ℕ) : Type 0 where
  pub answer : (first : MachineState) → IsMachineState first → StandsAt first old (told_by g ks) →
      IfOk result (IsLast (Property (state_number first old.journal)) (old.unit * old.situation.steps))
  pub found : IfOk result (λ answer. IsFoundOn (λ states. IsLast (Property states) (old.unit * old.situation.steps) answer)
      old.unit old.situation.steps old.journal (up_to old.unit old.situation.steps answer list)
      (holdings_of old (told_by g ks)) (holdings_of new (told_by g ls)))
  pub performed : IfOk result (λ answer. Performed old (up_to old.unit old.situation.steps answer list) new steps steps' (calls_to g ks) (calls_to g ls))
  pub stays : OnOk result (Stays old (told_by g ks) new (told_by g ls))
  pub refused : IfErr result (λ fault. RefusedIn (λ action held. ⊥) list fault old new (told_by g ks) steps steps' (calls_to g ks) (calls_to g ls))
  pub not_visitor : result ≢ Err Visitor
  pub spared : IsSpared result old (told_by g ks) (rooms_by g ks)
  pub kept : KeepersAre g (λ k. k < length old.situation.slots) result ks ls
