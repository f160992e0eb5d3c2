-- Images stay short, and keepers with a room never want memory.
use Rattle.reverse_runner.proofs.Common.{◌≡◌, ℕ, ◌+◌, ◌*◌, ◌∙◌, refl, ap, sym, subst, arith, ◌≢◌, ◌⊎◌, inl, inr, List, Option, Some, None, [], length, ◌<◌, ◌≤◌, ◌∷◌, zero, suc, slice_set, cases_eq, cases_lt, get_or-set_same, get_or-set_other, same_Some, none-some, Slots, MachineState, none_at, kept_in, without_pair, with_pair, pair_at, ShelfState, level_of, kept_at, no_pairs_on, Kept, StoreFault, fault_on, image_room, IsRoomy, AreRoomy, SameRooms, AreShort, SamePages}
use Rattle.state_image.specs.declared.layout.TheConstants.{PAGES, PAGE_FIELD}
use Rattle.image_store.specs.declared.shelf.StoreFault.TheVariants as store
use Rattle.reverse_runner.specs.declared.fault.RunFault.TheVariants.{Memory}

-- the room that there is
pub roomy_is : (bytes : ℕ) (o : Option ℕ) → IsRoomy bytes o → (room : ℕ) × (o ≡ Some room) × (bytes ≤ room)
roomy_is bytes None h = absurd h
roomy_is bytes (Some room) h = (room, refl, h)

pub roomy_still : (bytes : ℕ) (a b : Option ℕ) → b ≡ a → IsRoomy bytes a → IsRoomy bytes b
roomy_still bytes a b e h = subst (IsRoomy bytes) (sym e) h

pub roomy_as : (bytes most : ℕ) (o : Option ℕ) → most ≡ bytes → IsRoomy bytes o → IsRoomy most o
roomy_as bytes most o e h = subst (λ b. IsRoomy b o) (sym e) h

-- a fault of the store that is want of memory
pub memory_is : (level : ℕ) (fault : StoreFault) → fault_on level fault ≡ Memory → fault ≡ store.Memory
memory_is level store.Keeper e = absurd cc
memory_is level (store.Damaged p q) e = absurd cc
memory_is level store.Memory e = refl

-- two states with the same pages have images of the same room
pub same_room : (s t : MachineState) → SamePages s t → image_room s ≡ image_room t
same_room s t e = ap (λ (l : List ℕ). PAGES + PAGE_FIELD * length l) e

-- a pair that is set among the pairs of a level
pair_set : (pairs : List (Option Kept)) (n m : ℕ) (o : Option Kept) (kept : Kept) → pair_at (slice_set pairs n o) m ≡ Some kept → ((m ≡ n) × (o ≡ Some kept)) ⊎ (pair_at pairs m ≡ Some kept)
pair_set pairs n m o kept e = elim (cases_eq m n) [
  | inl same ↦ elim (cases_lt n (length pairs)) [
    | inl within ↦ inl (same, sym (get_or-set_same pairs n o None within) ∙ ap (λ i. pair_at (slice_set pairs n o) i) (sym same) ∙ e)
    | inr past ↦ inr (sym (set_past pairs n o m past) ∙ e)
  ]
  | inr apart ↦ inr (sym (get_or-set_other pairs n m o None apart) ∙ e)
]
  where
    set_past : (pairs : List (Option Kept)) (n : ℕ) (o : Option Kept) (m : ℕ) → length pairs ≤ n → pair_at (slice_set pairs n o) m ≡ pair_at pairs m
    set_past [] n o m h = refl
    set_past (x ∷ pairs) zero o m h = absurd (omega (arith, h))
    set_past (x ∷ pairs) (suc n) o zero h = refl
    set_past (x ∷ pairs) (suc n) o (suc m) h = set_past pairs n o m (omega (arith, h))

-- where one level changes
pub short_kept : (most level n slot : ℕ) (image : List ℕ) (old new : List ShelfState) → length image ≤ most → level_of new level ≡ with_pair (level_of old level) n (kept_in slot image) →
    ((j : ℕ) → j ≢ level → level_of new j ≡ level_of old j) → AreShort most old → AreShort most new
short_kept most level n slot image old new fits is others short k m kept e = elim (cases_eq k level) [
  | inl same ↦
      let there : pair_at (slice_set (level_of old level).pairs n (Some (kept_in slot image))) m ≡ Some kept =
      ap (λ (s : ShelfState). pair_at s.pairs m) (sym is) ∙ ap (λ i. kept_at new i m) (sym same) ∙ e in
      elim (pair_set (level_of old level).pairs n m (Some (kept_in slot image)) kept there) [
        | inl it ↦ subst (λ (x : Kept). x.length ≤ most) (same_Some (kept_in slot image) kept it.1) fits
        | inr it ↦ short level m kept it
      ]
  | inr apart ↦ short k m kept (ap (λ (s : ShelfState). pair_at s.pairs m) (sym (others k apart)) ∙ e)
]

pub short_released : (most level n : ℕ) (old new : List ShelfState) → level_of new level ≡ without_pair (level_of old level) n →
    ((j : ℕ) → j ≢ level → level_of new j ≡ level_of old j) → AreShort most old → AreShort most new
short_released most level n old new is others short k m kept e = elim (cases_eq k level) [
  | inl same ↦
      let there : pair_at (slice_set (level_of old level).pairs n None) m ≡ Some kept =
      ap (λ (s : ShelfState). pair_at s.pairs m) (sym is) ∙ ap (λ i. kept_at new i m) (sym same) ∙ e in
      elim (pair_set (level_of old level).pairs n m None kept there) [
        | inl it ↦ absurd (none-some kept it.1)
        | inr it ↦ short level m kept it
      ]
  | inr apart ↦ short k m kept (ap (λ (s : ShelfState). pair_at s.pairs m) (sym (others k apart)) ∙ e)
]

pub short_same : (most : ℕ) (old new : List ShelfState) → new ≡ old → AreShort most old → AreShort most new
short_same most old new e short = subst (AreShort most) (sym e) short

-- at the start no image is kept
pub begun_short : (most : ℕ) (slots : List Slots) (steps : ℕ) → AreShort most (no_pairs_on slots steps)
begun_short most slots steps k n kept e = absurd (none-some kept (sym (none_at slots steps k n) ∙ e))

-- keepers that keep their rooms have room still, while the states map the same pages
pub still_roomy : (s t : MachineState) (slots slots' : List Slots) (rooms rooms' : ℕ → Option ℕ) → SamePages t s → slots' ≡ slots → SameRooms rooms rooms' →
    AreRoomy (image_room s) (length slots) rooms → AreRoomy (image_room t) (length slots') rooms'
still_roomy s t slots slots' rooms rooms' pages same still roomy k within =
    let below : k < length slots = omega (arith, ap length same, within) in
    roomy_as (image_room s) (image_room t) (rooms' k) (same_room t s pages) (roomy_still (image_room s) (rooms k) (rooms' k) (still k) (roomy k below))
