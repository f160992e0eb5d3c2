-- At which configuration of a run the holdings of a session are. The states in work and on the tape are the run's, by
-- their numbers. Each level has the images of the states that it holds.
use Rattle.std.specs.Prelude.{◌≡◌, ℕ, ◌+◌, ◌<◌, cond, false, List, length, slice_index_or, Option, None, Some, is_some, MatchOption}
use Rattle.std.specs.Ordering.{nat_cmp}
use Rattle.std.specs.FinSet as set
use Rattle.std.specs.FinMap as finmap
use Rattle.level_book.specs.declared.book.Slots.{Slots}
use Rattle.level_book.specs.declared.book.Slots.TheVariants.{Count}
use Rattle.level_book.specs.BookCosts.{least}
use Rattle.level_book.specs.Configuration.{Configuration, held_on}
use Rattle.keepers.specs.Claims.{Images}
use Rattle.rv_machine.specs.MachineState.{MachineState}
use Rattle.unit_undo.specs.UndoTrail.{states_below}
use Rattle.state_image.specs.Image.{image}
use Rattle.image_store.specs.Pairs.{pair_at, held}
use Rattle.image_store.specs.Shelves.{ShelfState, level_of}
use Rattle.image_store.specs.StoredImages.{LevelStands, LevelAlone}
use Rattle.reverse_runner.specs.Units.{unit_states}
use Rattle.reverse_runner.specs.ActionEffects.{TapeState, Levels, Holdings}

-- numbers of states
abbrev pub Numbers : Type 0
Numbers = set.FinSet nat_cmp

-- the images of the states with these numbers, and no more
abbrev pub AreImages : (ℕ → MachineState) → Numbers → Images → Type 0
AreImages states numbers images = (n : ℕ) → finmap.get images n ≡ cond (set.contains numbers n) (Some (image (states n))) None

-- a level that holds these numbers has their images
abbrev pub LevelStandsAt : (ℕ → MachineState) → Numbers → ShelfState → Option Images → Type 0
LevelStandsAt states numbers level told = (images : Images) × (AreImages states numbers images × LevelStands level told images)

-- On the tape is the unit with a number: the states before its steps, and the state after them.
pub record IsUnit (first : MachineState) (journal : List (List ℕ)) (unit n : ℕ) (tape : TapeState) : Type 0 where
  pub states : tape.states ≡ states_below (unit_states first journal unit n) journal unit
  pub after : tape.after ≡ unit_states first journal unit (n + 1)

pub record HoldingsStandAt (first : MachineState) (journal : List (List ℕ)) (unit : ℕ) (c : Configuration) (s : Holdings) : Type 0 where
  pub work : s.work ≡ unit_states first journal unit c.work
  pub tape : MatchOption c.tape (Unit {0}) (λ n. IsUnit first journal unit n s.tape)
  pub levels : (k : ℕ) → k < length s.levels.store → LevelStandsAt (unit_states first journal unit) (held_on c k) (level_of s.levels.store k) (s.levels.told k)

-- no keeper has an image but those of the pairs
abbrev pub AreAlone : Levels → Type 0
AreAlone s = (k : ℕ) → k < length s.store → LevelAlone (level_of s.store k) (s.told k)

-- A level that holds these numbers, with exactly a pair for each. It has a place for each state of a run of so many
-- steps. It has room for as many pairs as such a run can hold there. The last state is never held.
pub record IsLevelLaidOut (steps : ℕ) (slots : Slots) (numbers : Numbers) (level : ShelfState) : Type 0 where
  pub places : length level.pairs ≡ steps + 1
  pub room : level.room ≡ least slots steps
  pub pairs : (n : ℕ) → is_some (pair_at level.pairs n) ≡ set.contains numbers n
  pub count : held level.pairs ≡ set.len numbers
  pub last : set.contains numbers steps ≡ false

-- the levels of a store hold the pairs that a configuration names
pub record IsLaidOut (steps : ℕ) (slots : List Slots) (c : Configuration) (store : List ShelfState) : Type 0 where
  pub levels : length store ≡ length slots
  pub each : (k : ℕ) → k < length store → IsLevelLaidOut steps (slice_index_or slots k (Count 0)) (held_on c k) (level_of store k)
