-- The states that come from marks, where the marks stand for a run.
use Rattle.std.proofs.Common.{◌≡◌, ℕ, ◌+◌, ◌-◌, ◌<◌, List, refl, sym, ◌∙◌, ap, arith}
use Rattle.input_journal.specs.Form.{IsRecorded}
use Rattle.keepers.specs.Claims.{Images}
use Rattle.rv_pages.specs.Memory.{page_numbers}
use Rattle.rv_machine.specs.MachineState.{MachineState, IsMachineState}
use Rattle.rv_machine.specs.States.{state_number}
use Rattle.rv_machine.proofs.Runs.{state_number_keeps_pages, state_number-add}
use Rattle.rv_machine.proofs.StateInvariant.{number_is_state}
use Rattle.state_image.specs.Image.{image}
use Rattle.state_image.proofs.ImageInjectivity.{image_tells}
use Rattle.image_store.specs.Shelves.{level_of}
use Rattle.image_store.specs.StoredImages.{LevelStands}
use Rattle.reverse_runner.specs.ActionEffects.{IsFetched, IsDecoded}
use Rattle.reverse_runner.specs.SessionState.{SamePages}
use Rattle.reverse_runner.proofs.LevelsInvariant.{fetched_is}
use Rattle.reverse_console.specs.Marks.{marked, mark_count, mark_level, marked_on}
use Rattle.reverse_console.specs.MarkInvariant.{StandAt}
use Rattle.reverse_console.specs.StateSources.{Source, ComesFrom}
use Rattle.reverse_console.proofs.MarkedLevels.{is_marked}

-- a source stands for a run
pub record SourceStands (first : MachineState) (from : Source) : Type 0 where
  pub is : IsMachineState first
  pub recorded : IsRecorded from.journal
  pub machine : SamePages from.machine first
  pub levels : StandAt first from.journal from.plan (mark_count from.plan) from.levels.store from.levels.told

-- the state with a number of the run maps the pages of the machine
pages_of_run : (first : MachineState) (from : Source) (n : ℕ) → SourceStands first from → page_numbers (state_number first from.journal n).memory ≡ page_numbers from.machine.memory
pages_of_run first from n stands = state_number_keeps_pages first from.journal n ∙ sym stands.machine

-- the level of a mark stands for images among which that of its state is
pub mark_stands : (first : MachineState) (from : Source) (i : ℕ) → SourceStands first from → i < mark_count from.plan →
    (images : Images) × LevelStands (level_of from.levels.store (mark_level from.plan i)) (from.levels.told (mark_level from.plan i)) images
mark_stands first from i stands known =
    let level = stands.levels (mark_level from.plan i) i known refl in
    (level.0, level.1.1)

-- the bytes that are fetched of a mark are the image of its state
pub fetched_mark : (first : MachineState) (from : Source) (i : ℕ) (bytes : List ℕ) → SourceStands first from → i < mark_count from.plan →
    IsFetched from.levels (mark_level from.plan i) (marked from.plan i) bytes → bytes ≡ image (state_number first from.journal (marked from.plan i))
fetched_mark first from i bytes stands known fetched =
    let k = mark_level from.plan i in
    fetched_is (state_number first from.journal) (marked_on from.plan (mark_count from.plan) k) from.levels k (marked from.plan i) bytes (stands.levels k i known refl) (is_marked from.plan (mark_count from.plan) i known) fetched

-- what is decoded of them is its state
decoded_mark : (first : MachineState) (from : Source) (i : ℕ) (bytes : List ℕ) (s : MachineState) → SourceStands first from → i < mark_count from.plan →
    IsFetched from.levels (mark_level from.plan i) (marked from.plan i) bytes → IsDecoded from.machine s bytes → s ≡ state_number first from.journal (marked from.plan i)
decoded_mark first from i bytes s stands known fetched decoded =
    let n = marked from.plan i in
    image_tells s (state_number first from.journal n) decoded.0 (number_is_state first from.journal n stands.is stands.recorded) (decoded.2 ∙ sym (pages_of_run first from n stands))
    (decoded.1 ∙ fetched_mark first from i bytes stands known fetched)

-- a state that comes from a mark is the one with its number
pub comes_from_run : (first : MachineState) (from : Source) (i n : ℕ) (s : MachineState) → SourceStands first from → ComesFrom from i n s → s ≡ state_number first from.journal n
comes_from_run first from i n s stands comes =
    let m = marked from.plan i in
    let is = decoded_mark first from i comes.bytes comes.state stands comes.known comes.fetched comes.decoded in
    let below = comes.below in
    let whole : m + (n - m) ≡ n = omega (arith, below) in
    comes.there ∙ ap (λ x. state_number x from.journal (n - m)) is ∙ sym (state_number-add first from.journal m (n - m)) ∙ ap (state_number first from.journal) whole

-- an image of the run is decoded
pub mark_is_image : (first : MachineState) (from : Source) (i : ℕ) → SourceStands first from →
    IsMachineState (state_number first from.journal (marked from.plan i)) × (page_numbers (state_number first from.journal (marked from.plan i)).memory ≡ page_numbers from.machine.memory)
mark_is_image first from i stands = (number_is_state first from.journal (marked from.plan i) stands.is stands.recorded, pages_of_run first from (marked from.plan i) stands)
