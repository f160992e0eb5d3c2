-- At which configuration of a run a session is, and what becomes of it through actions.
use Rattle.std.specs.Prelude.{◌≡◌, ◌≢◌, ◌⊎◌, ℕ, ◌+◌, ◌^◌, ◌-◌, true, false, min, List, [], Option, None, Some, Result, OnOk, OnErr}
use Rattle.sha2.specs.Sha256.{sha256}
use Rattle.keepers.specs.Claims.{Images}
use Rattle.plan_types.specs.declared.action.Action.{Action}
use Rattle.plan_types.specs.declared.action.Action.TheVariants.{Copy, Move}
use Rattle.level_book.specs.declared.book.Slots.{Slots}
use Rattle.level_book.specs.Configuration.{start}
use Rattle.level_book.specs.Moves.{Goes}
use Rattle.rv_machine.specs.MachineState.{MachineState, IsMachineState}
use Rattle.state_image.specs.Image.{image}
use Rattle.image_store.specs.declared.shelf.Kept.{Kept}
use Rattle.image_store.specs.Shelves.{kept_at, no_pairs_on}
use Rattle.image_store.specs.Calls.{IsGot}
use Rattle.reverse_runner.specs.SessionState.{SessionState, SamePages, holdings_of}
use Rattle.reverse_runner.specs.declared.fault.RunFault.{RunFault}
use Rattle.reverse_runner.specs.ActionEffects.{Holdings}
use Rattle.reverse_runner.specs.HoldingsOfRun.{HoldingsStandAt}

-- a session that has just begun
abbrev pub begun : MachineState → List (List ℕ) → ℕ → ℕ → List Slots → SessionState
begun first journal unit steps slots = record {
  situation = record { steps = steps; slots = slots; at = start steps slots };
  unit = unit;
  work = first;
  tape = record { states = []; after = first };
  store = no_pairs_on slots steps;
  journal = journal;
  done = 0;
  ended = false;
}

-- The next configuration of a session after an action. `Acts` says what becomes of its states and levels.
pub record Performs (old : SessionState) (action : Action) (new : SessionState) : Type 0 where
  pub goes : Goes old.situation.steps old.situation.slots old.situation.at action new.situation.at
  pub steps : new.situation.steps ≡ old.situation.steps
  pub slots : new.situation.slots ≡ old.situation.slots
  pub unit : new.unit ≡ old.unit
  pub journal : new.journal ≡ old.journal
  pub done : new.done ≡ min (old.done + 1) (2 ^ 64 - 1)
  pub lasts : new.ended ≡ false

-- an action was refused: the session has ended, at the same configuration
pub record SessionEnds (old new : SessionState) : Type 0 where
  pub situation : new.situation ≡ old.situation
  pub unit : new.unit ≡ old.unit
  pub journal : new.journal ≡ old.journal
  pub done : new.done ≡ old.done
  pub over : new.ended ≡ true

-- What an action makes of a session: the next configuration, or its end. Its states map the same pages as before.
pub record SessionAfter {A : Type 0} (result : Result A RunFault) (old : SessionState) (action : Action) (new : SessionState) : Type 0 where
  pub performs : OnOk result (Performs old action new)
  pub refused : OnErr result (SessionEnds old new)
  pub pages : SamePages old.work new.work

-- Over what its keepers claim, a session is at its configuration of the run from `first`. Its states are the run's. Its
-- levels have the images of the states that they hold.
abbrev pub StandsAt : MachineState → SessionState → (ℕ → Option Images) → Type 0
StandsAt first s told = HoldingsStandAt first s.journal s.unit s.situation.at (holdings_of s told)

-- the pair that an action reads: the number of its state, and its level
abbrev pub pair_read : Action → Option (ℕ × ℕ)
pair_read (Copy n k to) = Some (n, k)
pair_read (Move n k to) = Some (n, k)
pair_read _ = None

-- these bytes are the image of no machine state with this one's pages
abbrev pub IsNoImage : MachineState → List ℕ → Type 0
IsNoImage s bytes = (state : MachineState) → IsMachineState state → SamePages state s → image state ≢ bytes

-- The bytes of the pair that an action reads have another digest than those that were put. Or they have the same
-- digest, and are no image.
pub record IsDamage (action : Action) (s : Holdings) (k : ℕ) (put got : List ℕ) : Type 0 where
  pub number : ℕ
  pub pair : pair_read action ≡ Some (number, k)
  pub kept : Kept
  pub held : kept_at s.levels.store k number ≡ Some kept
  pub bytes : List ℕ
  pub told : IsGot kept (s.levels.told k) bytes
  pub put_digest : put ≡ kept.digest
  pub got_digest : got ≡ sha256 bytes
  pub wrong : (got ≢ put) ⊎ IsNoImage s.work bytes
