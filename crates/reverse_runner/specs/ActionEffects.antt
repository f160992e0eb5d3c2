-- What an action does to a session's states and to its store's levels, by the fetched bytes. It holds over any keepers.
-- What a keeper claims matters only if it claims its content.
use Rattle.std.specs.Prelude.{◌≡◌, ◌≢◌, ℕ, ◌-◌, ◌*◌, ◌≤◌, List, [], length, Option, Some}
use Rattle.sha2.specs.Sha256.{sha256}
use Rattle.keepers.specs.Claims.{Images}
use Rattle.plan_types.specs.declared.action.Keep.TheVariants.{Nothing, Store, Tape}
use Rattle.plan_types.specs.declared.action.Dest.TheVariants.{Work, Level}
use Rattle.plan_types.specs.declared.action.Action.{Action}
use Rattle.plan_types.specs.declared.action.Action.TheVariants.{Forward, Reverse, Copy, Move, EndForward, EndReverse}
use Rattle.rv_pages.specs.Memory.{page_numbers}
use Rattle.rv_machine.specs.MachineState.{MachineState, IsMachineState}
use Rattle.rv_machine.specs.States.{state_number}
use Rattle.unit_undo.specs.UndoTrail.{states_below}
use Rattle.state_image.specs.Image.{image}
use Rattle.image_store.specs.declared.shelf.Kept.{Kept}
use Rattle.image_store.specs.Shelves.{ShelfState, level_of, kept_at}
use Rattle.image_store.specs.Calls.{IsKept, IsGot, IsFreed, without_pair}

-- the levels of a session: the pairs of its store, and what their keepers claim, by level
pub record Levels : Type 0 where
  pub store : List ShelfState
  pub told : ℕ → Option Images

-- the tape: the states of a unit, the last one first, and the state after them
pub record TapeState : Type 0 where
  pub states : List MachineState
  pub after : MachineState

-- what a session holds: the state in work, the tape, and its levels
pub record Holdings : Type 0 where
  pub work : MachineState
  pub tape : TapeState
  pub levels : Levels

-- nothing was done to a level
abbrev pub IsAsBefore : Levels → Levels → ℕ → Type 0
IsAsBefore old new k = (level_of new.store k ≡ level_of old.store k) × (new.told k ≡ old.told k)

-- The bytes of a pair were fetched. They are no more than were put, and have their digest. If the keeper claims its
-- content, they are what it claims.
abbrev pub IsFetched : Levels → ℕ → ℕ → List ℕ → Type 0
IsFetched old k n got =
    (kept : Kept) × (kept_at old.store k n ≡ Some kept) × IsGot kept (old.told k) got × (length got ≤ kept.length) × (sha256 got ≡ kept.digest)

-- these bytes were kept on a level
abbrev pub Keeps : Levels → Levels → ℕ → ℕ → List ℕ → Type 0
Keeps old new k n bytes = IsKept (level_of old.store k) (level_of new.store k) n bytes (old.told k) (new.told k)

-- a pair was released, and its slot emptied
abbrev pub Releases : Levels → Levels → ℕ → ℕ → Type 0
Releases old new k n =
    (level_of new.store k ≡ without_pair (level_of old.store k) n)
    × ((kept : Kept) × (kept_at old.store k n ≡ Some kept) × IsFreed kept (old.told k) (new.told k))

-- a machine state became one whose image these bytes are, with the same pages
abbrev pub IsDecoded : MachineState → MachineState → List ℕ → Type 0
IsDecoded before after bytes = IsMachineState after × (image after ≡ bytes) × (page_numbers after.memory ≡ page_numbers before.memory)

-- By the actions. A step of the schedule is so many steps of the machine. An allowed Forward has from < to, so to -
-- from doesn't truncate.
abbrev pub Does : ℕ → List (List ℕ) → Action → Holdings → Holdings → Type 0
Does unit journal (Forward from to Nothing) old new =
    (new.work ≡ state_number old.work journal (unit * (to - from))) × (new.tape ≡ old.tape) × ((k : ℕ) → IsAsBefore old.levels new.levels k)
Does unit journal (Forward from to (Store k)) old new =
    (new.work ≡ state_number old.work journal (unit * (to - from))) × (new.tape ≡ old.tape)
    × Keeps old.levels new.levels k from (image old.work) × ((j : ℕ) → j ≢ k → IsAsBefore old.levels new.levels j)
Does unit journal (Forward from to Tape) old new =
    (new.work ≡ state_number old.work journal (unit * (to - from)))
    × (new.tape ≡ record { states = states_below old.work journal (unit * (to - from)); after = new.work }) × ((k : ℕ) → IsAsBefore old.levels new.levels k)
Does unit journal (Reverse from to) old new = (new.work ≡ old.work) × (new.tape.states ≡ []) × ((k : ℕ) → IsAsBefore old.levels new.levels k)
Does unit journal (Copy n k Work) old new =
    ((got : List ℕ) × (IsFetched old.levels k n got × IsDecoded old.work new.work got)) × (new.tape ≡ old.tape) × ((j : ℕ) → IsAsBefore old.levels new.levels j)
Does unit journal (Copy n k (Level j)) old new =
    (new.work ≡ old.work) × (new.tape ≡ old.tape)
    × ((got : List ℕ) × (IsFetched old.levels k n got × Keeps old.levels new.levels j n got)) × ((i : ℕ) → i ≢ j → IsAsBefore old.levels new.levels i)
Does unit journal (Move n k Work) old new =
    ((got : List ℕ) × (IsFetched old.levels k n got × IsDecoded old.work new.work got)) × (new.tape ≡ old.tape)
    × Releases old.levels new.levels k n × ((j : ℕ) → j ≢ k → IsAsBefore old.levels new.levels j)
Does unit journal (Move n k (Level j)) old new =
    (new.work ≡ old.work) × (new.tape ≡ old.tape)
    × ((got : List ℕ) × (IsFetched old.levels k n got × Keeps old.levels new.levels j n got)) × Releases old.levels new.levels k n
    × ((i : ℕ) → i ≢ j → i ≢ k → IsAsBefore old.levels new.levels i)
Does unit journal EndForward old new = (new.work ≡ old.work) × (new.tape ≡ old.tape) × ((k : ℕ) → IsAsBefore old.levels new.levels k)
Does unit journal EndReverse old new = (new.work ≡ old.work) × (new.tape ≡ old.tape) × ((k : ℕ) → IsAsBefore old.levels new.levels k)

-- what becomes of a session's holdings after an action
pub record Acts (unit : ℕ) (journal : List (List ℕ)) (action : Action) (old new : Holdings) : Type 0 where
  pub count : length new.levels.store ≡ length old.levels.store
  pub does : Does unit journal action old new
