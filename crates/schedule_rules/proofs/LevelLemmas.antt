-- What is seen of the levels that are kept, and what becomes of it where one level changes.
use Rattle.std.proofs.Common.{◌≡◌, ℕ, ◌/◌, ◌≤◌, ◌<◌, true, map, length, List, [], ◌∷◌, zero, suc, get_or, set as put, sym, ◌∙◌, ap, inl, inr, arith, true≢false}
use Rattle.std.specs.FinSet as set
use Rattle.std.specs.Ordering.{nat_cmp}
use Rattle.std.specs.List.{AllByRecursion}
use Rattle.std.proofs.Math.Seq.{map-set_same}
use Rattle.std.proofs.lemmas.List.{get_or_past, get_or_default, length-map, map-set, get_or-map}
use Rattle.std.proofs.lemmas.Bool.{cases_lt}
use Rattle.level_book.specs.Configuration.{held_on}
use Rattle.schedule_rules.specs.declared.config.Config.TheInside.{Inside}
use Rattle.schedule_rules.specs.declared.config.LevelHeld.{LevelHeld}
use Rattle.schedule_rules.specs.declared.positions.Positions.{Positions}
use Rattle.schedule_rules.specs.Situation.{Situation}
use Rattle.schedule_rules.specs.ConfigModel.{situation_of, IsKept}
use Rattle.schedule_rules.specs.BitRoom.{HasBits}
use Rattle.schedule_rules.specs.Levels.{slots_kept, images_kept, HasBit}
use Rattle.schedule_rules.specs.Bits.{set_of}
use Rattle.schedule_rules.proofs.BitsLemmas.{word_of_member}

-- the images of a level as the set that they are
abbrev images_of : LevelHeld → set.FinSet nat_cmp
images_of level = set_of level.images.words.items

-- a level that the book doesn't have holds nothing
pub held_on_past : (c : Inside) (s : Situation) (k : ℕ) → situation_of c ≡ s → length c.levels.items ≤ k → held_on s.at k ≡ set.empty
held_on_past c s k view past =
    ap (λ (s : Situation). held_on s.at k) (sym view)
    ∙ get_or_past _ k set.empty (omega (arith, length-map c.levels.items images_of))

-- what a level of the book holds
pub held_on_level : (c : Inside) (s : Situation) (k : ℕ) (level : LevelHeld) → situation_of c ≡ s → k < length c.levels.items → level ≡ get_or c.levels.items k level → held_on s.at k ≡ set_of level.images.words.items
held_on_level c s k level view within is =
    ap (λ (s : Situation). held_on s.at k) (sym view)
    ∙ get_or-map images_of c.levels.items k level set.empty within
    ∙ sym (ap images_of is)

-- with other images a level has the slots that it had
pub slots_kept-set : (levels : List LevelHeld) (k : ℕ) (old : LevelHeld) (images : Positions) → old ≡ get_or levels k old →
    slots_kept (put levels k (record { slots = old.slots; images = images })) ≡ slots_kept levels
slots_kept-set levels k old images is =
    let new : LevelHeld = record { slots = old.slots; images = images } in
    map-set_same (λ (level : LevelHeld). level.slots) levels k new old (ap (λ (level : LevelHeld). level.slots) is)

-- the images of one level change, and those of the others don't
pub images_kept-set : (levels : List LevelHeld) (k : ℕ) (old : LevelHeld) (images : Positions) (change : set.FinSet nat_cmp → set.FinSet nat_cmp) →
    k < length levels → old ≡ get_or levels k old → set_of images.words.items ≡ change (set_of old.images.words.items) →
    images_kept (put levels k (record { slots = old.slots; images = images })) ≡ put (images_kept levels) k (change (get_or (images_kept levels) k set.empty))
images_kept-set levels k old images change within is became =
    let new : LevelHeld = record { slots = old.slots; images = images } in
    let held = get_or-map images_of levels k old set.empty within ∙ sym (ap images_of is) in
    map-set images_of levels k new ∙ ap (put (map images_of levels) k) (became ∙ ap change (sym held))

one_of : (levels : List LevelHeld) (k : ℕ) → k < length levels → LevelHeld
one_of [] k h = absurd (omega arith)
one_of (level ∷ levels) k h = level

bits_at : (steps : ℕ) (levels : List LevelHeld) (k : ℕ) (d : LevelHeld) → AllByRecursion (HasBits steps) levels → k < length levels → HasBits steps (get_or levels k d)
bits_at steps [] k d all within = absurd (omega arith)
bits_at steps (level ∷ levels) zero d all within = all.0
bits_at steps (level ∷ levels) (suc k) d all within = bits_at steps levels k d all.1 (omega arith)

held_in_level : (c : Inside) (s : Situation) (n k : ℕ) (d : LevelHeld) → situation_of c ≡ s → IsKept c → set.contains (held_on s.at k) n ≡ true → k < length c.levels.items → n / 64 ≤ c.steps / 64
held_in_level c s n k d view kept there within =
    let level = get_or c.levels.items k d in
    let holds = held_on_level c s k level view within (get_or_default c.levels.items k d level within) in
    let word = word_of_member level.images.words.items n (ap (λ h. set.contains h n) (sym holds) ∙ there) in
    let bits = bits_at c.steps c.levels.items k d kept.bits within in
    omega (arith, word, bits)

-- what is held has a bit
pub member_has_bit : (c : Inside) (s : Situation) (n k : ℕ) → situation_of c ≡ s → IsKept c → set.contains (held_on s.at k) n ≡ true → n / 64 ≤ c.steps / 64
member_has_bit c s n k view kept there = elim (cases_lt k (length c.levels.items)) [
  | inr past ↦ absurd (true≢false (sym there ∙ ap (λ h. set.contains h n) (held_on_past c s k view past) ∙ set.contains-empty nat_cmp n))
  | inl within ↦ held_in_level c s n k (one_of c.levels.items k within) view kept there within
]

-- each level has a bit for a position up to the number of steps
pub bit_for : (levels : List LevelHeld) (steps n : ℕ) → AllByRecursion (HasBits steps) levels → n / 64 ≤ steps / 64 → AllByRecursion (HasBit n) levels
bit_for [] steps n all h = tt
bit_for (level ∷ levels) steps n all h = (omega (arith, all.0), bit_for levels steps n all.1 h)
