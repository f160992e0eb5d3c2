-- What becomes of a session that performs a list, to its end or up to a refusal.
use Rattle.std.specs.Prelude.{◌≡◌, ℕ, zero, suc, ◌+◌, ◌*◌, ◌-◌, ◌^◌, ◌<◌, false, true, min, List, length, take, count_by, slice_get, Option, Some}
use Rattle.keepers.specs.Claims.{Images}
use Rattle.plan_types.specs.declared.action.Action.{Action}
use Rattle.level_book.specs.CostFold.{forward, writes, reads}
use Rattle.level_book.specs.Configuration.{start as start_of}
use Rattle.level_book.specs.Valid.{Valid, Leads}
use Rattle.rv_machine.specs.MachineState.{MachineState, IsMachineState}
use Rattle.rv_machine.specs.States.{state_number}
use Rattle.reverse_runner.specs.declared.fault.RunFault.{RunFault}
use Rattle.reverse_runner.specs.declared.fault.RunFault.TheVariants.{Keeper, Damaged, Visitor, Memory, Ended}
use Rattle.reverse_runner.specs.ActionEffects.{Holdings}
use Rattle.reverse_runner.specs.StateOrder.{handed_by}
use Rattle.reverse_runner.specs.KeepersSeen.{Calls, CalledBetween, HaveRoom, calls_of, is_release}
use Rattle.reverse_runner.specs.VisitorCalls.{states_out}
use Rattle.reverse_runner.specs.SessionState.{SessionState, holdings_of}
use Rattle.reverse_runner.specs.SessionOfRun.{StandsAt, IsDamage}
use Rattle.reverse_queries.specs.HoldingsTrace.{GoesThrough}

-- the calls of the keepers that the actions of a list make
abbrev pub calls_of_all : List Action → Calls
calls_of_all list = record { puts = λ k. writes k list; gets = λ k. reads k list; frees = λ k. count_by (is_release k) list }

-- a count of performed actions after so many more; it stops at the greatest u64
abbrev pub done_after : ℕ → ℕ → ℕ
done_after done zero = done
done_after done (suc n) = min (done + suc n) (2 ^ 64 - 1)

-- A session is at its start and has not ended, and a list is valid from there. There are keepers with so many slots.
pub record AwaitsList (s : SessionState) (list : List Action) (counts : List ℕ) : Type 0 where
  pub start : s.situation.at ≡ start_of s.situation.steps s.situation.slots
  pub lasts : s.ended ≡ false
  pub valid : Valid s.situation.steps s.situation.slots list
  pub room : HaveRoom s.situation.steps s.situation.slots counts

-- all actions of a list were performed
pub record PerformsAll (old : SessionState) (list : List Action) (new : SessionState) : Type 0 where
  pub leads : Leads old.situation.steps old.situation.slots old.situation.at list new.situation.at
  pub steps : new.situation.steps ≡ old.situation.steps
  pub slots : new.situation.slots ≡ old.situation.slots
  pub unit : new.unit ≡ old.unit
  pub journal : new.journal ≡ old.journal
  pub done : new.done ≡ done_after old.done (length list)
  pub lasts : new.ended ≡ false

-- an action calls the keeper of a level: it puts an image there, gets one or frees one
abbrev pub CallsKeeper : Action → ℕ → Type 0
CallsKeeper a k = 0 < (calls_of a).puts k + (calls_of a).gets k + (calls_of a).frees k

-- an action gives a state with this number, from what is held before it
pub record IsOut (unit steps n : ℕ) (s : MachineState) (a : Action) (held : Holdings) : Type 0 where
  pub place : ℕ
  pub number : slice_get (handed_by unit steps a) place ≡ Some n
  pub state : slice_get (states_out a held.work held.tape.states) place ≡ Some s

-- if a session is at its start, this is state n of its run
abbrev pub IsOfRun : SessionState → (ℕ → Option Images) → ℕ → MachineState → Type 0
IsOfRun session told n s = (first : MachineState) → IsMachineState first → StandsAt first session told → s ≡ state_number first session.journal n

-- a visitor got state n of these
pub record GetsState {V : Type 0} (got : V → ℕ → MachineState → List (List ℕ) → V → Type 0) (session : SessionState) (told : ℕ → Option Images)
    (n : ℕ) (old new : V) (states : ℕ → MachineState) : Type 0 where
  pub gets : got old n (states n) session.journal new
  pub of_run : IsOfRun session told n (states n)

-- a visitor missed state n, which an action gives from what is held before it
pub record MissesState {V : Type 0} (missed : V → ℕ → MachineState → List (List ℕ) → V → Type 0) (session : SessionState) (told : ℕ → Option Images)
    (n : ℕ) (old new : V) (a : Action) (held : Holdings) : Type 0 where
  pub state : MachineState
  pub out : IsOut session.unit session.situation.steps n state a held
  pub misses : missed old n state session.journal new
  pub of_run : IsOfRun session told n state

-- A fault fits an action that does what failed, over what is held before it. The action calls the level's keeper, got
-- damaged bytes there, failed to give a state, or calls a keeper. No action fits the fault of a session that has ended.
-- The question says which states the visitor can miss.
abbrev pub FaultFits : (Action → Holdings → Type 0) → RunFault → Action → Holdings → Type 0
FaultFits Misses (Keeper k) a held = CallsKeeper a k
FaultFits Misses (Damaged k put got) a held = IsDamage a held k put got
FaultFits Misses Visitor a held = Misses a held
FaultFits Misses Memory a held = (k : ℕ) × CallsKeeper a k
FaultFits Misses Ended a held = ⊥

-- The next action of a list was refused with a fault that fits it. The actions before it were performed, and the count
-- of machine steps rose by theirs. The keepers were called as often as those actions do, and at most as with the next
-- one.
pub record RefusedIn (Misses : Action → Holdings → Type 0) (list : List Action) (fault : RunFault) (old new : SessionState) (told : ℕ → Option Images)
    (steps steps' : ℕ) (calls calls' : Calls) : Type 0 where
  -- how many actions come before the refused one
  pub place : ℕ
  pub within : place < length list
  -- the refused one
  pub next : Action
  pub there : slice_get list place ≡ Some next
  -- what was held before it: the earlier actions lead there, by the fetched bytes
  pub held : Holdings
  pub states : ℕ → MachineState
  pub through : GoesThrough old.unit old.situation.steps old.journal (take place list) (holdings_of old told) held states
  pub fits : FaultFits Misses fault next held
  pub leads : Leads old.situation.steps old.situation.slots old.situation.at (take place list) new.situation.at
  pub done : new.done ≡ done_after old.done place
  pub over : new.ended ≡ true
  pub counted : steps' ≡ steps + old.unit * forward (take place list)
  pub called : CalledBetween (calls_of_all (take place list)) (calls_of_all (take (place + 1) list)) calls calls'
