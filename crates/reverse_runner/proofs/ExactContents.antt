-- The keeper of a level that stands and is alone holds just the images of the states that the level holds.
use Rattle.reverse_runner.proofs.Common.{◌≡◌, ℕ, ◌∙◌, false, refl, ap, sym, subst, List, Option, Some, None, length, IsSome, ◌<◌, Bool, true, cond, false≢true, option_map_or, Configuration, held_on, MachineState, image, Images, found, pair_at, level_of, IsKeptAs, KeepsAs, IsToldAnd, Alone, Kept, Holdings, Numbers, AreImages, HoldingsStandAt, AreAlone, HoldsJust, unit_states}
use Rattle.std.specs.FinSet as set
use Rattle.std.specs.FinMap as finmap

-- the slot of a pair, and 0 where it isn't held
abbrev slot_of : List (Option Kept) → ℕ → ℕ
slot_of pairs n = option_map_or (λ (kept : Kept). kept.slot) (pair_at pairs n) 0

-- a pair with bytes is held, and they are in its slot
kept_of : (images : Images) (o : Option Kept) (bytes : List ℕ) → IsKeptAs images o (Some bytes) →
    (kept : Kept) × (o ≡ Some kept) × (finmap.get images kept.slot ≡ Some bytes)
kept_of images None bytes h = absurd h
kept_of images (Some kept) bytes h = (kept, refl, h.0)

-- where there is an image of a number, the number is one of them
is_number : (b : Bool) (bytes : List ℕ) → IsSome (cond b (Some bytes) None) → b ≡ true
is_number true bytes h = refl
is_number false bytes h = absurd (false≢true h)

module _ (states : ℕ → MachineState) (numbers : Numbers) (pairs : List (Option Kept)) (bytes images : Images)
    (are : AreImages states numbers bytes) (keeps : KeepsAs pairs bytes images) where
  -- the pair of a number is held, and its slot has the image
  pub number_kept : (n : ℕ) → set.contains numbers n ≡ true →
      (kept : Kept) × (pair_at pairs n ≡ Some kept) × (finmap.get images kept.slot ≡ Some (image (states n)))
  number_kept n there =
      let state = image (states n) in
      let got = are n ∙ ap (λ b. cond b (Some state) None) there in
      kept_of images (pair_at pairs n) state (subst (IsKeptAs images (pair_at pairs n)) got (keeps.each n))

  -- the number of a pair that is held is one of them
  kept_number : (n : ℕ) (kept : Kept) → pair_at pairs n ≡ Some kept → set.contains numbers n ≡ true
  kept_number n kept is =
      let there = found pairs bytes images n kept is keeps in
      is_number (set.contains numbers n) (image (states n)) (subst (λ (o : Option (List ℕ)). IsSome o) (sym there.1.0 ∙ are n) refl)

  -- alone, it holds just the images of the numbers
  pub just : Alone pairs images → HoldsJust states numbers images
  just alone = record {
    slot_of = slot_of pairs;
    own = λ m n there_m there_n same.
        let a = number_kept m there_m in
        let b = number_kept n there_n in
        keeps.own m n a.0 b.0 a.1 b.1 (sym (at m a.0 a.1) ∙ same ∙ at n b.0 b.1);
    each = λ n there.
        let a = number_kept n there in
        ap (finmap.get images) (at n a.0 a.1) ∙ a.2;
    only = λ slot has.
        let pair = alone slot has in
        (pair.0, (kept_number pair.0 pair.1.0 pair.1.1, at pair.0 pair.1.0 pair.1.1 ∙ pair.1.2));
  }
    where
      at : (n : ℕ) (kept : Kept) → pair_at pairs n ≡ Some kept → slot_of pairs n ≡ kept.slot
      at n kept is = ap (λ (o : Option Kept). option_map_or (λ (kept : Kept). kept.slot) o 0) is

-- the same of what is told, where it is told
just_told : (states : ℕ → MachineState) (numbers : Numbers) (pairs : List (Option Kept)) (bytes : Images) (told : Option Images) →
    AreImages states numbers bytes → IsToldAnd told (KeepsAs pairs bytes) → IsToldAnd told (Alone pairs) → IsToldAnd told (HoldsJust states numbers)
just_told states numbers pairs bytes None are keeps alone = keeps
just_told states numbers pairs bytes (Some images) are keeps alone = just states numbers pairs bytes images are keeps alone

-- where the levels of a session stand and are alone, each keeper holds just the images that its level holds
pub holds_just : (first : MachineState) (journal : List (List ℕ)) (unit : ℕ) (c : Configuration) (s : Holdings) → HoldingsStandAt first journal unit c s → AreAlone s.levels →
    (k : ℕ) → k < length s.levels.store → IsToldAnd (s.levels.told k) (HoldsJust (unit_states first journal unit) (held_on c k))
holds_just first journal unit c s stands alone k within =
    let level = stands.levels k within in
    just_told (unit_states first journal unit) (held_on c k) (level_of s.levels.store k).pairs level.0 (s.levels.told k) level.1.0 level.1.1 (alone k within)
