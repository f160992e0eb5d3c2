-- What an order does, and what orders leave.
use Rattle.std.specs.Prelude.{◌≡◌, ◌≢◌, ℕ, ◌<◌, Bool, false, List, length, Option, Some, Result, Err, IfOk, IfErr, OnOk, OnErr}
use Rattle.keepers.specs.Claims.{Images}
use Rattle.keepers.specs.declared.storage.Storage.{Ghosts}
use Rattle.rv_machine.specs.MachineState.{MachineState, IsMachineState}
use Rattle.rv_machine.specs.States.{state_number}
use Rattle.reverse_runner.specs.Desks.{KeepersAre}
use Rattle.reverse_runner.specs.KeepersSeen.{Calls, told_by}
use Rattle.reverse_runner.specs.Rooms.{image_room, rooms_by, AreRoomy}
use Rattle.reverse_runner.specs.declared.fault.RunFault.{RunFault}
use Rattle.reverse_runner.specs.declared.fault.RunFault.TheVariants.{Damaged, Memory, Visitor, Ended}
use Rattle.reverse_console.specs.declared.order.Order.{Order}
use Rattle.reverse_console.specs.Answer.{IsAnswer, IsGiven, found_at}
use Rattle.reverse_console.specs.ConsoleState.{ConsoleState, GoesOn}
use Rattle.reverse_console.specs.Costs.{effort_of, Takes, TookUntil}
use Rattle.reverse_console.specs.Marks.{mark_of}
use Rattle.reverse_console.specs.StateSources.{Source, ComesFrom, IsAnswerSeen}
use Rattle.reverse_console.specs.MarksOfRun.{Stands}

-- what a visitor does with a state of a journal: `got` or `missed`
abbrev pub Visits : Type 0 → Type 1
Visits V = V → ℕ → MachineState → List (List ℕ) → V → Type 0

-- By the fetched bytes: the answer with what it took, or the refusal with what was done before.
pub record IsPerformed {V : Type 0} (got missed : Visits V) (from : Source) (place place' : ℕ) (order : Order)
    (result : Result Bool RunFault) (visitor visitor' : V) (steps steps' : ℕ) (calls calls' : Calls) : Type 0 where
  pub answered :
      IfOk result (λ found. (new : Option ℕ) × (IsAnswerSeen from place order new
      × IsGiven (λ before n s after. got before n s from.journal after) (λ n s. ComesFrom from (mark_of from.plan n) n s) new found place place' visitor visitor'))
  pub takes : IfOk result (λ found. Takes from.plan (effort_of from.plan place order (found_at found place')) steps steps' calls calls')
  pub misses :
      result ≡ Err Visitor → (n : ℕ) × ((s : MachineState) × (IsAnswerSeen from place order (Some n) × ComesFrom from (mark_of from.plan n) n s
      × missed visitor n s from.journal visitor' × Takes from.plan (effort_of from.plan place order (Some n)) steps steps' calls calls'))
  pub took_until : IfErr result (λ fault. TookUntil from place order fault steps steps' calls calls')

-- In the run from `first` that the console represents: the answer, and that the console still represents the run.
pub record IsPerformedIn {V : Type 0} (got missed : Visits V) (first : MachineState) (old new : ConsoleState) (order : Order)
    (result : Result Bool RunFault) (visitor visitor' : V) (told' : ℕ → Option Images) : Type 0 where
  pub answered :
      IfOk result (λ found. (answer : Option ℕ) × (IsAnswer first old.journal old.plan.count old.place order answer
      × IsGiven (λ before n s after. got before n s old.journal after) (λ n s. s ≡ state_number first old.journal n) answer found old.place new.place
      visitor visitor'))
  pub stands : OnOk result (Stands first new told')
  pub misses :
      result ≡ Err Visitor → (n : ℕ) × (IsAnswer first old.journal old.plan.count old.place order (Some n)
      × missed visitor n (state_number first old.journal n) old.journal visitor')
  pub undamaged : (k : ℕ) (put got : List ℕ) → result ≢ Err (Damaged k put got)

-- The console lasts unless an order was refused, and is then where it was.
pub record LeavesConsole {T : Type 0} (result : Result T RunFault) (old new : ConsoleState) : Type 0 where
  pub goes_on : GoesOn old new
  pub lasts : OnOk result (new.ended ≡ false)
  pub stays : OnErr result (new.place ≡ old.place)

-- The keepers claim what they claimed. Those past the levels of the book are unchanged.
pub record LeavesKeepers {K T : Type 0} (seen : Ghosts K) (levels : ℕ) (result : Result T RunFault) (old new : List K) : Type 0 where
  pub same : (k : ℕ) → told_by seen new k ≡ told_by seen old k
  pub are : KeepersAre seen (λ k. k < levels) result old new

-- Refusals that can't happen: the console had not ended; no image of a run is damaged; with room, memory suffices.
pub record AreSpared {K T : Type 0} (seen : Ghosts K) (console : ConsoleState) (result : Result T RunFault) (keepers : List K) : Type 0 where
  pub not_ended : result ≢ Err Ended
  pub undamaged :
      (first : MachineState) → IsMachineState first → Stands first console (told_by seen keepers) →
      (k : ℕ) (put got : List ℕ) → result ≢ Err (Damaged k put got)
  pub roomy : AreRoomy (image_room console.work) (length console.plan.slots) (rooms_by seen keepers) → result ≢ Err Memory
