-- Where there is a periodic list, and why there is none.
use Rattle.std.specs.Prelude.{◌≡◌, ◌≢◌, ◌⊎◌, ℕ, ◌<◌, ◌≤◌, length, slice_index_or}
use Rattle.level_book.specs.declared.book.Slots.{Slots}
use Rattle.level_book.specs.declared.book.Slots.TheVariants.{Count, Unlimited}
use Rattle.level_book.specs.BookCosts.{BookCosts, slots_of, room}
use Rattle.revolve_gen.specs.declared.fault.GenFault.{GenFault}
use Rattle.revolve_gen.specs.declared.fault.GenFault.TheVariants.{NoPlan, Memory}
use Rattle.disk_gen.specs.PeriodicList.{images}

-- the slots of a level of a book
abbrev pub slots_at : BookCosts → ℕ → Slots
slots_at book k = slice_index_or (slots_of book) k (Count 0)

-- a level has slots for so many images, or counts fewer slots
abbrev pub HasSlots : Slots → ℕ → Type 0
HasSlots (Count slots) n = n ≤ slots
HasSlots Unlimited n = Unit {0}

abbrev pub LacksSlots : Slots → ℕ → Type 0
LacksSlots (Count slots) n = slots < n
LacksSlots Unlimited n = ⊥

-- level 0 has no slots, and both the run and the period have two or more steps
pub record IsStuck (steps period : ℕ) (book : BookCosts) : Type 0 where
  pub none : room book 0 steps ≡ 0
  pub more : 2 ≤ steps
  pub long : 2 ≤ period

-- There is a list. The book has two levels. The faster one has a slot where it is used, and the slower one has room for
-- its images.
pub record HasPeriodicPlan (steps period : ℕ) (book : BookCosts) : Type 0 where
  pub two : length book.levels ≡ 2
  pub fast : 2 ≤ steps → 2 ≤ period → 1 ≤ room book 0 steps
  pub slow : HasSlots (slots_at book 1) (images steps period)

-- Why there is none. Rule 2: the book hasn't two levels. Otherwise rule 1: level 0 has no slots where they are used.
-- Otherwise rule 4: level 1 has fewer slots than images. Memory can be short only where there is a plan.
abbrev pub IsFault : ℕ → ℕ → BookCosts → GenFault → Type 0
IsFault steps period book (NoPlan rule) =
    ((rule ≡ 2) × (length book.levels ≢ 2))
    ⊎ (((rule ≡ 1) × (length book.levels ≡ 2) × IsStuck steps period book)
    ⊎ ((rule ≡ 4) × (length book.levels ≡ 2) × (2 ≤ steps → 2 ≤ period → 1 ≤ room book 0 steps) × LacksSlots (slots_at book 1) (images steps period)))
IsFault steps period book Memory = HasPeriodicPlan steps period book
