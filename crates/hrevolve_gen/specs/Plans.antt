-- Where there is a list, and why there is none.
use Rattle.std.specs.Prelude.{◌≡◌, ℕ, ◌<◌, ◌≤◌, length}
use Rattle.revolve_gen.specs.declared.fault.GenFault.{GenFault}
use Rattle.revolve_gen.specs.declared.fault.GenFault.TheVariants.{NoPlan, Memory}
use Rattle.level_book.specs.BookCosts.{BookCosts, room}

-- there are two or more steps, and no level has a slot
abbrev pub HasNoNestedPlan : ℕ → BookCosts → Type 0
HasNoNestedPlan steps book = (2 ≤ steps) × ((k : ℕ) → k < length book.levels → room book k steps ≡ 0)

abbrev pub HasNestedPlan : ℕ → BookCosts → Type 0
HasNestedPlan steps book = HasNoNestedPlan steps book → ⊥

-- Why there is no list: there is no plan, rule 1. Memory can be short only where there is a plan.
abbrev pub IsFault : ℕ → BookCosts → GenFault → Type 0
IsFault steps book (NoPlan rule) = (rule ≡ 1) × HasNoNestedPlan steps book
IsFault steps book Memory = HasNestedPlan steps book
