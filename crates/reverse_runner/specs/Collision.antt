-- What holds over any keepers. By the digests that the levels keep, a session is at a configuration of a run. The
-- exception is a collision: an action fetches an image with the right digest and other bytes.
use Rattle.std.specs.Prelude.{◌≡◌, ◌≢◌, ℕ, ◌<◌, List, length, Option, Some, None, MatchOption}
use Rattle.sha2.specs.Sha256.{sha256}
use Rattle.plan_types.specs.declared.action.Dest.TheVariants.{Work}
use Rattle.plan_types.specs.declared.action.Action.{Action}
use Rattle.plan_types.specs.declared.action.Action.TheVariants.{Copy, Move}
use Rattle.level_book.specs.Configuration.{Configuration}
use Rattle.rv_machine.specs.MachineState.{MachineState}
use Rattle.state_image.specs.Image.{image}
use Rattle.image_store.specs.declared.shelf.Kept.{Kept}
use Rattle.image_store.specs.Shelves.{ShelfState, kept_at}
use Rattle.reverse_runner.specs.ActionEffects.{Holdings}
use Rattle.reverse_runner.specs.HoldingsOfRun.{IsUnit}
use Rattle.reverse_runner.specs.Units.{unit_states}

-- for each pair a store keeps the SHA-256 of the image of its state
abbrev pub KeepsDigests : (ℕ → MachineState) → List ShelfState → Type 0
KeepsDigests states store = (k n : ℕ) (kept : Kept) → k < length store → kept_at store k n ≡ Some kept → kept.digest ≡ sha256 (image (states n))

-- The states in work and on the tape are the run's. The levels keep the digests of the images of the run's states.
pub record StandsByDigests (first : MachineState) (journal : List (List ℕ)) (unit : ℕ) (c : Configuration) (s : Holdings) : Type 0 where
  pub work : s.work ≡ unit_states first journal unit c.work
  pub tape : MatchOption c.tape (Unit {0}) (λ n. IsUnit first journal unit n s.tape)
  pub digests : KeepsDigests (unit_states first journal unit) s.levels.store

-- the number of the state that an action fetches into work, if any
abbrev pub taken_in : Action → Option ℕ
taken_in (Copy n k Work) = Some n
taken_in (Move n k Work) = Some n
taken_in _ = None

-- An action fetched a collision. The state's image differs from that of the run's state with its number, though both
-- have one SHA-256. Its image is the bytes that came back.
pub record Collides (states : ℕ → MachineState) (action : Action) (work : MachineState) : Type 0 where
  pub number : ℕ
  pub takes : taken_in action ≡ Some number
  pub other : image work ≢ image (states number)
  pub one_digest : sha256 (image work) ≡ sha256 (image (states number))
