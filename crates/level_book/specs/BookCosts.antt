-- What a book says: the costs of the two kinds of step, and its levels, the fastest first.
use Rattle.std.specs.Prelude.{◌≡◌, ℕ, suc, ◌+◌, ◌≤◌, min, List, [], ◌∷◌, map, fold, slice_get, slice_index_or, Some, codes}
use Rattle.std.specs.List.{AllByRecursion}
use Rattle.plan_types.specs.declared.limits.TheConstants.{MOST_COST, MOST_SLOTS}
use Rattle.level_book.specs.declared.book.Level.{Level}
use Rattle.level_book.specs.declared.book.Slots.{Slots}
use Rattle.level_book.specs.declared.book.Slots.TheVariants.{Count, Unlimited}

pub record BookCosts : Type 0 where
  pub forward : ℕ
  pub reverse : ℕ
  pub levels : List Level

-- The slots of each level. Validity depends on nothing else of a book.
abbrev pub slots_of : BookCosts → List Slots
slots_of book = map (λ level. level.slots) book.levels

-- the names of the levels
abbrev pub names_of : BookCosts → List (List ℕ)
names_of book = map (λ level. level.name) book.levels

-- one level RAM that is free to write and to read, and steps that cost 1
abbrev pub plain : ℕ → BookCosts
plain slots = record {
  forward = 1;
  reverse = 1;
  levels = record { name = codes "RAM"; slots = Count slots; write = 0; read = 0 } ∷ [];
}

-- min(slots, steps): the slots that a run of so many steps can use
abbrev pub least : Slots → ℕ → ℕ
least (Count slots) steps = min slots steps
least Unlimited steps = steps

-- the slots of two levels together
abbrev pub both : Slots → Slots → Slots
both (Count slots) (Count more) = Count (slots + more)
both (Count slots) Unlimited = Unlimited
both Unlimited more = Unlimited

-- the most images on level k in a run of so many steps, and on all levels
abbrev pub room : BookCosts → ℕ → ℕ → ℕ
room book k steps = least (slice_index_or (slots_of book) k (Count 0)) steps

abbrev pub total_room : BookCosts → ℕ → ℕ
total_room book steps = least (fold both (Count 0) (slots_of book)) steps

-- the slots of a level, 0 if unlimited
abbrev pub slot_count : Slots → ℕ
slot_count (Count slots) = slots
slot_count Unlimited = 0

-- the costs of a level, and its slots if they are counted, are at most 1,000,000
pub record IsLevelWithinLimits (level : Level) : Type 0 where
  pub slots : slot_count level.slots ≤ MOST_SLOTS
  pub write : level.write ≤ MOST_COST
  pub read : level.read ≤ MOST_COST

-- all costs of a book, and all slots that it counts, are at most 1,000,000
pub record IsWithinLimits (book : BookCosts) : Type 0 where
  pub forward : book.forward ≤ MOST_COST
  pub reverse : book.reverse ≤ MOST_COST
  pub levels : AllByRecursion IsLevelWithinLimits book.levels

-- a level costs no less to write and to read than the one before it
pub record CostsNoLess (before level : Level) : Type 0 where
  pub write : before.write ≤ level.write
  pub read : before.read ≤ level.read

-- each level costs no less than the faster one before it
abbrev pub CostsRise : BookCosts → Type 0
CostsRise book =
    (k : ℕ) (before level : Level) → slice_get book.levels k ≡ Some before → slice_get book.levels (suc k) ≡ Some level → CostsNoLess before level
