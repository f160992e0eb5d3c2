-- Where there are tables for memory and an unlimited disk, and why there are none.
use Rattle.std.specs.Prelude.{◌≡◌, ◌≢◌, ◌⊎◌, length, slice_get, Some}
use Rattle.level_book.specs.declared.book.Slots.TheVariants.{Unlimited}
use Rattle.level_book.specs.BookCosts.{BookCosts, slots_of}
use Rattle.revolve_gen.specs.declared.fault.GenFault.{GenFault}
use Rattle.revolve_gen.specs.declared.fault.GenFault.TheVariants.{NoPlan, Memory}

-- the book has two levels, and the slow one is unlimited
pub record HasDiskPlan (book : BookCosts) : Type 0 where
  pub two : length book.levels ≡ 2
  pub unlimited : slice_get (slots_of book) 1 ≡ Some Unlimited

-- Why there are none. Rule 2: the book hasn't two levels. Otherwise rule 3: level 1 isn't unlimited. Memory can be
-- short only where there is a plan.
abbrev pub IsDiskFault : BookCosts → GenFault → Type 0
IsDiskFault book (NoPlan rule) =
    ((rule ≡ 2) × (length book.levels ≢ 2))
    ⊎ ((rule ≡ 3) × (length book.levels ≡ 2) × (slice_get (slots_of book) 1 ≢ Some Unlimited))
IsDiskFault book Memory = HasDiskPlan book
