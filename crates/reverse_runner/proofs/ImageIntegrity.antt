-- Where the holdings of a session stand, an image that is held is that of a state of the run, and can be decoded.
use Rattle.reverse_runner.proofs.Common.{◌≡◌, ℕ, ◌*◌, ◌∙◌, ap, sym, arith, List, Some, None, length, ◌<◌, true, cond, Configuration, held_on, Slots, page_numbers, IsRecorded, state_number_keeps_pages, number_is_state, MachineState, IsMachineState, image, Images, level_of, LevelStands, Holdings, IsFetched, IsLaidOut, HoldingsStandAt, LevelStandsAt, unit_states}
use Rattle.std.specs.FinSet as set
use Rattle.std.specs.FinMap as finmap
use Rattle.reverse_runner.proofs.LevelsInvariant.{fetched_is}

-- a level of the book stands for the images of the states that it holds
level_stands : (first : MachineState) (journal : List (List ℕ)) (unit steps : ℕ) (slots : List Slots) (c : Configuration) (s : Holdings) (k : ℕ) →
    HoldingsStandAt first journal unit c s → IsLaidOut steps slots c s.levels.store → k < length slots →
    LevelStandsAt (unit_states first journal unit) (held_on c k) (level_of s.levels.store k) (s.levels.told k)
level_stands first journal unit steps slots c s k stands laid within = stands.levels k (omega (arith, within, laid.levels))

-- the level stands for images among which that of the state is
pub held_stands : (first : MachineState) (journal : List (List ℕ)) (unit steps : ℕ) (slots : List Slots) (c : Configuration) (s : Holdings) (k n : ℕ) →
    HoldingsStandAt first journal unit c s → IsLaidOut steps slots c s.levels.store → k < length slots → set.contains (held_on c k) n ≡ true →
    (images : Images) × LevelStands (level_of s.levels.store k) (s.levels.told k) images × (finmap.get images n ≡ Some (image (unit_states first journal unit n)))
held_stands first journal unit steps slots c s k n stands laid within there =
    let level = level_stands first journal unit steps slots c s k stands laid within in
    let bytes = image (unit_states first journal unit n) in
    (level.0, level.1.1, level.1.0 n ∙ ap (λ b. cond b (Some bytes) None) there)

-- the bytes that are fetched of a level that holds the image are the image
pub fetched_image : (first : MachineState) (journal : List (List ℕ)) (unit steps : ℕ) (slots : List Slots) (c : Configuration) (s : Holdings) (k n : ℕ) (got : List ℕ) →
    HoldingsStandAt first journal unit c s → IsLaidOut steps slots c s.levels.store → k < length slots → set.contains (held_on c k) n ≡ true →
    IsFetched s.levels k n got → got ≡ image (unit_states first journal unit n)
fetched_image first journal unit steps slots c s k n got stands laid within there fetched =
    fetched_is (unit_states first journal unit) (held_on c k) s.levels k n got (level_stands first journal unit steps slots c s k stands laid within) there fetched

-- a state of the run is one that a machine can be in, with the pages of the state in work
pub state_of_run : (first : MachineState) (journal : List (List ℕ)) (unit : ℕ) (c : Configuration) (s : Holdings) (n : ℕ) → IsMachineState first → IsRecorded journal →
    HoldingsStandAt first journal unit c s →
    IsMachineState (unit_states first journal unit n) × (page_numbers (unit_states first journal unit n).memory ≡ page_numbers s.work.memory)
state_of_run first journal unit c s n is recorded stands =
    let here = state_number_keeps_pages first journal (unit * c.work) in
    let there = state_number_keeps_pages first journal (unit * n) in
    (number_is_state first journal (unit * n) is recorded, there ∙ sym here ∙ sym (ap (λ (x : MachineState). page_numbers x.memory) stands.work))
