-- The level of a book for the image at each place of a stack. Places are counted from 0.
use Rattle.std.specs.Prelude.{ℕ, zero, suc, ◌+◌, ◌-◌, ◌<◌, ◌==◌, cond, nat_lt, List, [], ◌∷◌, length, take, fold, slice_index_or}
use Rattle.level_book.specs.declared.book.Slots.{Slots}
use Rattle.level_book.specs.declared.book.Slots.TheVariants.{Count, Unlimited}
use Rattle.level_book.specs.BookCosts.{both}

-- The first level whose slots, summed with those of earlier levels, exceed the place. Each passed level's slots are
-- subtracted from the place.
abbrev pub level_at : List Slots → ℕ → ℕ
level_at [] p = 0
level_at (Count s ∷ slots) p = cond (nat_lt p s) 0 (suc (level_at slots (p - s)))
level_at (Unlimited ∷ slots) p = 0

-- the slots of the first k levels together
abbrev pub first_slots : List Slots → ℕ → Slots
first_slots slots k = fold both (Count 0) (take k slots)

-- how many of the first p places are on level k, by the level of each place
abbrev pub places_on : (ℕ → ℕ) → ℕ → ℕ → ℕ
places_on level k zero = 0
places_on level k (suc p) = places_on level k p + cond (level p == k) 1 0

-- a level has more slots than so many
abbrev pub HasMore : Slots → ℕ → Type 0
HasMore (Count slots) n = n < slots
HasMore Unlimited n = Unit {0}

-- Each of the first `room` places is on a level of the book. The level has a slot for it beside those of earlier
-- places.
pub record IsRoomy (slots : List Slots) (level : ℕ → ℕ) (room : ℕ) : Type 0 where
  pub known : (p : ℕ) → p < room → level p < length slots
  pub more : (p : ℕ) → p < room → HasMore (slice_index_or slots (level p) (Count 0)) (places_on level (level p) p)
