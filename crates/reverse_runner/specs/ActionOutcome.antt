-- What a performed action did, what a refused one leaves, and which faults occur: relations that contracts share.
use Rattle.std.specs.Prelude.{◌≡◌, ◌≢◌, ℕ, ◌+◌, ◌*◌, List, Option, Result, Err, OnOk, OnErr, IsTrue, Contains}
use Rattle.keepers.specs.Claims.{Images}
use Rattle.plan_types.specs.declared.action.Action.{Action}
use Rattle.level_book.specs.Configuration.{Configuration}
use Rattle.level_book.specs.CostFold.{steps_of}
use Rattle.level_book.specs.Rules.{levels_named}
use Rattle.rv_machine.specs.MachineState.{MachineState, IsMachineState}
use Rattle.reverse_runner.specs.declared.fault.RunFault.{RunFault}
use Rattle.reverse_runner.specs.declared.fault.RunFault.TheVariants.{Keeper, Damaged, Memory}
use Rattle.reverse_runner.specs.ActionEffects.{Levels, Holdings, Acts}
use Rattle.reverse_runner.specs.KeepersSeen.{Calls, calls_of, Called, CalledAtMost}
use Rattle.reverse_runner.specs.RefusalResidue.{MayLeave, NotReached}
use Rattle.reverse_runner.specs.HoldingsOfRun.{HoldingsStandAt}
use Rattle.reverse_runner.specs.VisitorCalls.{calls_keepers}
use Rattle.reverse_runner.specs.Rooms.{image_room, AreRoomy}
use Rattle.reverse_runner.specs.SessionOfRun.{IsDamage}

-- An action was performed. The holdings became what it makes of them. The count of machine steps rose by its own, and
-- the keepers were called as it calls them.
pub record Acted (unit : ℕ) (journal : List (List ℕ)) (action : Action) (old new : Holdings) (steps steps' : ℕ) (calls calls' : Calls) : Type 0 where
  pub acts : Acts unit journal action old new
  pub counted : steps' ≡ steps + unit * steps_of action
  pub called : Called (calls_of action) calls calls'

-- An action was refused. The levels are as it may leave them. No machine step was counted, and at most its own calls
-- were made.
pub record Leaves (action : Action) (old : Levels) (told : ℕ → Option Images) (steps steps' : ℕ) (calls calls' : Calls) : Type 0 where
  pub left : MayLeave action old told
  pub uncounted : steps' ≡ steps
  pub called_at_most : CalledAtMost (calls_of action) calls calls'

-- How an action ended: it was performed, or this is what its refusal leaves.
pub record ActionEnds {A : Type 0} (result : Result A RunFault) (unit : ℕ) (journal : List (List ℕ)) (action : Action) (old new : Holdings)
    (steps steps' : ℕ) (calls calls' : Calls) : Type 0 where
  pub acted : OnOk result (Acted unit journal action old new steps steps' calls calls')
  pub leaves : OnErr result (Leaves action old.levels new.levels.told steps steps' calls calls')

-- A fault has its reason in the action. A keeper that failed is that of a level which the action names. Damaged bytes
-- are those of the pair that it reads, and what the keepers claim is unchanged. If a keeper failed, the claims of the
-- levels after it are unchanged. Memory runs out only if it calls keepers.
pub record HasReason {A : Type 0} (result : Result A RunFault) (action : Action) (old : Holdings) (told : ℕ → Option Images) : Type 0 where
  pub named : (k : ℕ) → result ≡ Err (Keeper k) → Contains (levels_named action) k
  pub damaged : (k : ℕ) (put got : List ℕ) → result ≡ Err (Damaged k put got) → IsDamage action old k put got
  pub unreached : (k j : ℕ) → result ≡ Err (Keeper k) → NotReached action k j → told j ≡ old.levels.told j
  pub whole : (k : ℕ) (put got : List ℕ) → result ≡ Err (Damaged k put got) → (j : ℕ) → told j ≡ old.levels.told j
  pub wants : result ≡ Err Memory → IsTrue (calls_keepers action)

-- Over keepers with room for the images, memory doesn't run out. If the holdings are at a configuration, no bytes are
-- damaged.
pub record IsSafe {A : Type 0} (result : Result A RunFault) (journal : List (List ℕ)) (unit : ℕ) (at : Configuration) (old : Holdings)
    (levels : ℕ) (rooms : ℕ → Option ℕ) : Type 0 where
  pub roomy : AreRoomy (image_room old.work) levels rooms → result ≢ Err Memory
  pub undamaged : (first : MachineState) → IsMachineState first → HoldingsStandAt first journal unit at old → (k : ℕ) (put got : List ℕ) →
      result ≢ Err (Damaged k put got)
