-- Where the levels of a session stood and were alone, their keepers hold the images after an action that was refused, but for
-- what it may have left.
use Rattle.reverse_runner.proofs.Common.{◌≡◌, ℕ, ◌∙◌, sym, subst, ◌⊎◌, inl, inr, List, set as put, Option, Some, None, length, IsSome, ◌<◌, true, cases_eq, false≢true, Action, Configuration, held_on, is_write, MachineState, Images, SameButAt, removed, not_removed, stands_still, stands_less, alone_less, IsNotKept, IsNotFreed, pair_at, IsFreeSlot, ShelfState, level_of, KeepsAs, IsToldAnd, Alone, Kept, Holdings, Numbers, AreImages, HoldingsStandAt, AreAlone, HoldsJust, is_release, Spares, MayLeave, HoldsBesides, HoldsAllBut, pair_read, unit_states}
use Rattle.std.specs.FinSet as set
use Rattle.std.specs.FinMap as finmap
use Rattle.reverse_runner.proofs.ExactContents.{number_kept, just, holds_just}
use Rattle.reverse_runner.proofs.LevelsInvariant.{images_less}

-- what all slots but one hold, with this one emptied
same_besides : (images images' : Images) (slot other : ℕ) → SameButAt slot images images' → (other ≡ slot → ⊥) → finmap.get (finmap.remove images' slot) other ≡ finmap.get images other
same_besides images images' slot other same ne = not_removed images' slot other ne ∙ same other ne

-- an empty slot has no image
nothing_there : (images : Images) (slot at : ℕ) → at ≡ slot → IsSome (finmap.get (finmap.remove images slot) at) → ⊥
nothing_there images slot at e some = let P : Option (List ℕ) → Type 0 = λ o. IsSome o in false≢true (subst P (removed images slot at e) some)

alone_besides : (pairs : List (Option Kept)) (images images' : Images) (slot : ℕ) → SameButAt slot images images' → Alone pairs images → Alone pairs (finmap.remove images' slot)
alone_besides pairs images images' slot same alone at some = elim (cases_eq at slot) [
  | inl e ↦ absurd (nothing_there images' slot at e some)
  | inr ne ↦ let P : Option (List ℕ) → Type 0 = λ o. IsSome o in alone at (subst P (same_besides images images' slot at same ne) some)
]

-- the images of a level, and one slot that no pair has and that may hold anything
besides : (states : ℕ → MachineState) (numbers : Numbers) (pairs : List (Option Kept)) (bytes images images' : Images) (slot : ℕ) → IsFreeSlot pairs slot → SameButAt slot images images' →
    AreImages states numbers bytes → KeepsAs pairs bytes images → Alone pairs images → HoldsBesides states numbers images'
besides states numbers pairs bytes images images' slot unused same are keeps alone = record {
  spare = slot;
  rest = just states numbers pairs bytes (finmap.remove images' slot) are
      (stands_still pairs bytes images (finmap.remove images' slot) slot unused (λ other ne. same_besides images images' slot other same ne) keeps)
      (alone_besides pairs images images' slot same alone);
}

-- the same of what is told
besides_told : (states : ℕ → MachineState) (numbers : Numbers) (level : ShelfState) (bytes : Images) (before after : Option Images) → IsNotKept level before after →
    AreImages states numbers bytes → IsToldAnd before (KeepsAs level.pairs bytes) → IsToldAnd before (Alone level.pairs) → IsToldAnd after (HoldsBesides states numbers)
besides_told states numbers level bytes None after left are keeps alone = absurd keeps
besides_told states numbers level bytes (Some images) None left are keeps alone = absurd left.told
besides_told states numbers level bytes (Some images) (Some images') left are keeps alone =
    besides states numbers level.pairs bytes images images' left.slot left.unused left.told are keeps alone

-- the images of a level, or all but the one of a pair
all_but : (states : ℕ → MachineState) (numbers : Numbers) (pairs : List (Option Kept)) (bytes images images' : Images) (n : ℕ) (kept : Kept) → pair_at pairs n ≡ Some kept →
    (images' ≡ images) ⊎ (images' ≡ finmap.remove images kept.slot) → AreImages states numbers bytes → KeepsAs pairs bytes images → Alone pairs images → HoldsAllBut states numbers n images'
all_but states numbers pairs bytes images images' n kept is (inl same) are keeps alone =
    let H : Images → Type 0 = λ m. HoldsJust states numbers m in
    inl (subst H (sym same) (just states numbers pairs bytes images are keeps alone))
all_but states numbers pairs bytes images images' n kept is (inr gone) are keeps alone =
    let H : Images → Type 0 = λ m. HoldsJust states (set.remove numbers n) m in
    inr (subst H (sym gone) (just states (set.remove numbers n) (put pairs n None) (finmap.remove bytes n) (finmap.remove images kept.slot)
    (images_less states numbers bytes n are) (stands_less pairs bytes images n kept is keeps) (alone_less pairs images n kept is alone)))

-- the same of what is told
all_but_told : (states : ℕ → MachineState) (numbers : Numbers) (level : ShelfState) (bytes : Images) (before after : Option Images) (n : ℕ) →
    ((kept : Kept) → pair_at level.pairs n ≡ Some kept → IsNotFreed kept before after) → set.contains numbers n ≡ true →
    AreImages states numbers bytes → IsToldAnd before (KeepsAs level.pairs bytes) → IsToldAnd before (Alone level.pairs) → IsToldAnd after (HoldsAllBut states numbers n)
all_but_told states numbers level bytes None after n left there are keeps alone = absurd keeps
all_but_told states numbers level bytes (Some images) None n left there are keeps alone =
    let pair = number_kept states numbers level.pairs bytes images are keeps n there in
    absurd (left pair.0 pair.1)
all_but_told states numbers level bytes (Some images) (Some images') n left there are keeps alone =
    let pair = number_kept states numbers level.pairs bytes images are keeps n there in
    all_but states numbers level.pairs bytes images images' n pair.0 pair.1 (left pair.0 pair.1) are keeps alone

-- a level that the action spares
pub holds_spared : (first : MachineState) (journal : List (List ℕ)) (unit : ℕ) (c : Configuration) (a : Action) (s : Holdings) (told : ℕ → Option Images) → HoldingsStandAt first journal unit c s → AreAlone s.levels →
    MayLeave a s.levels told → (k : ℕ) → k < length s.levels.store → Spares a k → IsToldAnd (told k) (HoldsJust (unit_states first journal unit) (held_on c k))
holds_spared first journal unit c a s told stands alone left k within free =
    let T : Option Images → Type 0 = λ o. IsToldAnd o (HoldsJust (unit_states first journal unit) (held_on c k)) in
    subst T (sym (left.spared k free)) (holds_just first journal unit c s stands alone k within)

-- a level to which it puts an image
pub holds_put_to : (first : MachineState) (journal : List (List ℕ)) (unit : ℕ) (c : Configuration) (a : Action) (s : Holdings) (told : ℕ → Option Images) → HoldingsStandAt first journal unit c s → AreAlone s.levels →
    MayLeave a s.levels told → (k : ℕ) → k < length s.levels.store → is_write k a ≡ true → IsToldAnd (told k) (HoldsBesides (unit_states first journal unit) (held_on c k))
holds_put_to first journal unit c a s told stands alone left k within puts =
    let level = stands.levels k within in
    besides_told (unit_states first journal unit) (held_on c k) (level_of s.levels.store k) level.0 (s.levels.told k) (told k) (left.put_to k puts) level.1.0 level.1.1 (alone k within)

-- a level where it releases an image
pub holds_released : (first : MachineState) (journal : List (List ℕ)) (unit : ℕ) (c : Configuration) (a : Action) (s : Holdings) (told : ℕ → Option Images) → HoldingsStandAt first journal unit c s → AreAlone s.levels →
    MayLeave a s.levels told → (k n : ℕ) → k < length s.levels.store → is_release k a ≡ true → pair_read a ≡ Some (n, k) → set.contains (held_on c k) n ≡ true →
    IsToldAnd (told k) (HoldsAllBut (unit_states first journal unit) (held_on c k) n)
holds_released first journal unit c a s told stands alone left k n within frees pair there =
    let level = stands.levels k within in
    all_but_told (unit_states first journal unit) (held_on c k) (level_of s.levels.store k) level.0 (s.levels.told k) (told k) n (λ kept is. left.released k n kept frees pair is) there
    level.1.0 level.1.1 (alone k within)
