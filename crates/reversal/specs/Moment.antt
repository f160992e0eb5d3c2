-- One moment of a sink, of keepers and of the count of steps: what they claim and count.
use Rattle.std.specs.Prelude.{◌≡◌, ◌≢◌, ℕ, ◌<◌, List, Option, Some, IsSome}
use Rattle.std.specs.FinMap as finmap
use Rattle.keepers.specs.Counts.{Rose}
use Rattle.keepers.specs.Claims.{Images}
use Rattle.keepers.specs.declared.sink.Sink as sink
use Rattle.keepers.specs.declared.storage.Storage as storage
use Rattle.reverse_runner.specs.KeepersSeen.{Calls, by_number, told_by, calls_to}

pub record Moment : Type 0 where
  -- the bytes that the sink claims, how often it was called, and how often it failed
  pub told : Option (List ℕ)
  pub writes : ℕ
  pub faults : ℕ
  -- the steps of the machine
  pub steps : ℕ
  -- how often the keepers were called, the images that they claim, and how often they failed, by level
  pub calls : Calls
  pub images : ℕ → Option Images
  pub keeper_faults : ℕ → ℕ

-- one moment of a sink, of keepers and of a count of steps
abbrev pub moment : {X K : Type 0} → sink.Ghosts X → storage.Ghosts K → X → List K → ℕ → Moment
moment writing seen out keepers steps = record {
  told = writing.told out;
  writes = writing.call_count out;
  faults = writing.fault_count out;
  steps = steps;
  calls = calls_to seen keepers;
  images = told_by seen keepers;
  keeper_faults = by_number 0 seen.fault_count keepers;
}

-- one moment of a sink and a count of steps, with keepers as at another moment
abbrev pub beside : {X : Type 0} → sink.Ghosts X → Moment → X → ℕ → Moment
beside writing other out steps = record {
  told = writing.told out;
  writes = writing.call_count out;
  faults = writing.fault_count out;
  steps = steps;
  calls = other.calls;
  images = other.images;
  keeper_faults = other.keeper_faults;
}

-- ---- failures, as the objects count them

-- no keeper failed
abbrev pub KeepersAreQuiet : Moment → Moment → Type 0
KeepersAreQuiet old new = (k : ℕ) → new.keeper_faults k ≡ old.keeper_faults k

-- nothing failed
pub record NothingFails (old new : Moment) : Type 0 where
  pub sink : new.faults ≡ old.faults
  pub keepers : KeepersAreQuiet old new

-- no count of faults rose
pub record NothingRises (old new : Moment) : Type 0 where
  pub sink : Rose old.faults new.faults → ⊥
  pub keepers : (k : ℕ) → Rose (old.keeper_faults k) (new.keeper_faults k) → ⊥

-- the sink failed, and no keeper
pub record SinkFails (old new : Moment) : Type 0 where
  pub sink : Rose old.faults new.faults
  pub keepers : KeepersAreQuiet old new

-- the keeper of this level failed, and neither the sink nor another keeper
pub record KeeperFails (level : ℕ) (old new : Moment) : Type 0 where
  pub sink : new.faults ≡ old.faults
  pub keeper : Rose (old.keeper_faults level) (new.keeper_faults level)
  pub others : (j : ℕ) → j ≢ level → new.keeper_faults j ≡ old.keeper_faults j

-- ---- keepers that claim their content

-- the keepers of so many levels claim their content, and are empty
abbrev pub AllTell : ℕ → (ℕ → Option Images) → Type 0
AllTell levels images = (k : ℕ) → k < levels → IsSome (images k)

abbrev pub AllEmpty : ℕ → (ℕ → Option Images) → Type 0
AllEmpty levels images = (k : ℕ) → k < levels → images k ≡ Some finmap.empty
