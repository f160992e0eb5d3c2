-- How far a list was performed over a run, what was held then, and which states were given.
use Rattle.std.specs.Prelude.{◌≡◌, ◌⊎◌, ℕ, ◌<◌, ◌≤◌, true, List, length, take, slice_get, slice_index_or, Option, Some}
use Rattle.plan_types.specs.declared.action.Action.{Action}
use Rattle.level_book.specs.CostFold.{is_write}
use Rattle.level_book.specs.Configuration.{Configuration, start, held_on}
use Rattle.level_book.specs.Valid.{Leads}
use Rattle.level_book.specs.declared.book.Slots.TheVariants.{Count}
use Rattle.schedule_rules.specs.Reachability.{IsWithin}
use Rattle.rv_machine.specs.MachineState.{MachineState}
use Rattle.image_store.specs.StoredImages.{IsToldAnd}
use Rattle.reverse_runner.specs.KeeperContents.{HoldsJust}
use Rattle.reverse_runner.specs.RefusalResidue.{Spares, NotReached, MayLeave, HoldsBesides, HoldsAllBut}
use Rattle.reverse_runner.specs.ActionEffects.{Holdings}
use Rattle.reverse_runner.specs.KeepersSeen.{is_release}
use Rattle.reverse_runner.specs.SessionState.{holdings_of}
use Rattle.reverse_runner.specs.SessionOfRun.{IsDamage, begun, pair_read}
use Rattle.reverse_queries.specs.Queries.{up_to}
use Rattle.reverse_queries.specs.HoldingsTrace.{GoesThrough, IsFoundOn}
use Rattle.reverse_queries.specs.ListExecution.{IsOut}
use Rattle.reversal.specs.Job.{Run, last_of, state_of, unit_state}
use Rattle.reversal.specs.Moment.{Moment, AllTell, AllEmpty}
use Rattle.reversal.specs.Deeds.{States}

-- the states that are shown are the run's, if the keepers of its levels claim their content
abbrev pub AreOfRun : Run → States → Moment → Type 0
AreOfRun run states old = AllTell (length run.slots) old.images → (n : ℕ) → n ≤ last_of run → states n ≡ state_of run n

-- what a session over a run holds before the first action, by what its keepers claim
abbrev pub held_at_start : Run → Moment → Holdings
held_at_start run old = holdings_of (begun run.first run.journal run.unit run.steps run.slots) old.images

-- Some actions of the list were performed from its start. The fetched bytes determine the states given. Each fetch had
-- the digest of its put.
abbrev pub GoesOver : Run → List Action → Moment → Holdings → States → Type 0
GoesOver run actions old held states = GoesThrough run.unit run.steps run.journal actions (held_at_start run old) held states

-- The list was performed as far as an answer needs, and this holds of the states that it gave. The keepers claim what
-- they claimed after the last action.
abbrev pub IsFound : (States → Type 0) → Run → Option ℕ → Moment → Moment → Type 0
IsFound Holds run answer old new =
    (last : Holdings) × (new.images ≡ last.levels.told)
    × IsFoundOn Holds run.unit run.steps run.journal (up_to run.unit run.steps answer run.list) (held_at_start run old) last

-- so many actions of the list were performed; this holds of the next one, and what was held before it
pub record ComesTo (Holds : Action → Holdings → Type 0) (run : Run) (performed : ℕ) (old : Moment) : Type 0 where
  pub held : Holdings
  pub states : States
  pub through : GoesOver run (take performed run.list) old held states
  pub next : Action
  pub there : slice_get run.list performed ≡ Some next
  pub holds : Holds next held

-- What came back for the pair that the next action reads is damaged. The digests are those of what was put and what was
-- got.
abbrev pub ComesToDamage : Run → (performed level : ℕ) → (put got : List ℕ) → Moment → Type 0
ComesToDamage run performed level put got old = ComesTo (λ action held. IsDamage action held level put got) run performed old

-- the first so many actions lead to a configuration
abbrev pub LeadTo : Run → ℕ → Configuration → Type 0
LeadTo run performed c = Leads run.steps run.slots (start run.steps run.slots) (take performed run.list) c

-- the levels that an ending says to be as the earlier actions left them
abbrev pub SameLevels : Type 1
SameLevels = Run → ℕ → ℕ → Type 0

-- all levels, since the next action put and released nothing
abbrev pub AllLevels : SameLevels
AllLevels run performed k = Unit {0}

-- the levels where the next action, if any, puts no image and releases none
abbrev pub SparesNext : SameLevels
SparesNext run performed k = (a : Action) → slice_get run.list performed ≡ Some a → Spares a k

-- those, and the ones that the next action didn't reach, if the keeper of this level failed in it
abbrev pub UnreachedNext : (level : ℕ) → SameLevels
UnreachedNext level run performed k = (a : Action) → slice_get run.list performed ≡ Some a → Spares a k ⊎ NotReached a level k

-- The first so many actions of the list were done. The facts about levels hold of these. The next action was refused,
-- and may have changed other levels.
pub record Went (Same : SameLevels) (run : Run) (performed : ℕ) (states : States) (old new : Moment) : Type 0 where
  -- What was held then. Each action changed the holdings as it does, by the fetched bytes, and gave the states that are
  -- shown. Each fetch had the digest of its put.
  pub held : Holdings
  pub through : GoesOver run (take performed run.list) old held states
  -- so are the shown states that the next action gives
  pub next : (a : Action) (n : ℕ) (state : MachineState) → slice_get run.list performed ≡ Some a → IsOut run.unit run.steps n state a held →
      states n ≡ state
  -- An unchanged level's keeper claims what it claimed then. On the others the next action left no more than it may.
  pub told : (k : ℕ) → Same run performed k → new.images k ≡ held.levels.told k
  pub left : (a : Action) → slice_get run.list performed ≡ Some a → MayLeave a held.levels new.images
  -- if the keepers claim their content and were empty, each holds just the images that these actions leave there
  pub just : AllEmpty (length run.slots) old.images → (c : Configuration) → LeadTo run performed c →
      (k : ℕ) → k < length run.slots → Same run performed k → IsToldAnd (new.images k) (HoldsJust (unit_state run) (held_on c k))
  -- on a level to which the next action puts an image, one more slot may hold anything
  pub put_to : AllEmpty (length run.slots) old.images → (c : Configuration) → LeadTo run performed c →
      (k : ℕ) → k < length run.slots → (a : Action) → slice_get run.list performed ≡ Some a → is_write k a ≡ true →
      IsToldAnd (new.images k) (HoldsBesides (unit_state run) (held_on c k))
  -- where the next action releases an image, that image may be gone
  pub released : AllEmpty (length run.slots) old.images → (c : Configuration) → LeadTo run performed c →
      (k n : ℕ) → k < length run.slots → (a : Action) → slice_get run.list performed ≡ Some a → is_release k a ≡ true → pair_read a ≡ Some (n, k) →
      IsToldAnd (new.images k) (HoldsAllBut (unit_state run) (held_on c k) n)

-- At a configuration each level of a run holds no more than its slots. If the keepers claim their content and were
-- empty, each claims just the images that its level holds there.
pub record IsWithinSlots (run : Run) (c : Configuration) (held : Holdings) (old : Moment) : Type 0 where
  pub within : (k : ℕ) → k < length run.slots → IsWithin (slice_index_or run.slots k (Count 0)) (held_on c k)
  pub just : AllEmpty (length run.slots) old.images → (k : ℕ) → k < length run.slots → IsToldAnd (held.levels.told k) (HoldsJust (unit_state run) (held_on c k))
