-- When a console represents a run, and what it always keeps of the marks of a run.
use Rattle.std.specs.Prelude.{◌≡◌, ℕ, ◌<◌, List, length, Option, Some, IsSome}
use Rattle.sha2.specs.Sha256.{sha256}
use Rattle.keepers.specs.Claims.{Images}
use Rattle.rv_machine.specs.MachineState.{MachineState}
use Rattle.rv_machine.specs.States.{state_number}
use Rattle.state_image.specs.Image.{image}
use Rattle.image_store.specs.declared.shelf.Kept.{Kept}
use Rattle.image_store.specs.Shelves.{ShelfState, level_of, kept_at}
use Rattle.reverse_runner.specs.HoldingsOfRun.{LevelStandsAt}
use Rattle.reverse_runner.specs.SessionState.{SamePages}
use Rattle.reverse_console.specs.ConsoleState.{ConsoleState}
use Rattle.reverse_console.specs.Marks.{MarkPlan, mark_count, mark_level, marked, marked_on}
use Rattle.reverse_console.specs.StateSources.{Source}

-- the levels of the marks claim their content; others needn't
abbrev pub MarksTell : MarkPlan → (ℕ → Option Images) → Type 0
MarksTell p told = (i : ℕ) → i < mark_count p → IsSome (told (mark_level p i))

-- Over what its keepers claim, a console represents the run from `first`. Its machine maps the pages of the run. Each
-- level has the images of the states that are marked on it.
pub record Stands (first : MachineState) (c : ConsoleState) (told : ℕ → Option Images) : Type 0 where
  pub machine : SamePages c.work first
  pub levels : (k i : ℕ) → i < mark_count c.plan → mark_level c.plan i ≡ k →
      LevelStandsAt (state_number first c.journal) (marked_on c.plan (mark_count c.plan) k) (level_of c.store k) (told k)

-- for mark i a store keeps the length and SHA-256 of its image in the run from `first`
pub record IsMarkKept (first : MachineState) (journal : List (List ℕ)) (p : MarkPlan) (store : List ShelfState) (i : ℕ) : Type 0 where
  pub kept : Kept
  pub held : kept_at store (mark_level p i) (marked p i) ≡ Some kept
  pub length_is : kept.length ≡ length (image (state_number first journal (marked p i)))
  pub digest_is : kept.digest ≡ sha256 (image (state_number first journal (marked p i)))

-- A source is one of the marks of the run from `first`. Its machine maps the pages of the run. It keeps the length and
-- the SHA-256 of each mark's image. It also holds where keepers claim nothing, and then limits what can be fetched.
pub record KeepsMarks (first : MachineState) (from : Source) : Type 0 where
  pub machine : SamePages from.machine first
  pub marks : (i : ℕ) → i < mark_count from.plan → IsMarkKept first from.journal from.plan from.levels.store i
