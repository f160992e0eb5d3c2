-- No public clause cites this file. Why there is no plan, as the steps of a decision return it.
use Rattle.std.specs.Prelude.{◌≡◌, ◌⊎◌, ℕ, ◌≤◌, length, slice_get, Some}
use Rattle.level_book.specs.declared.book.Slots.TheVariants.{Unlimited}
use Rattle.level_book.specs.BookCosts.{BookCosts, slots_of, room, total_room}
use Rattle.disk_gen.specs.PeriodicList.{images}
use Rattle.disk_gen.specs.Plans.{slots_at, HasSlots}
use Rattle.hrevolve_gen.specs.Plans as nested
use Rattle.endings.specs.declared.outcome.Outcome.{Outcome}
use Rattle.endings.specs.Outcomes.{no_plan}

-- there is no periodic plan
abbrev pub IsUnperiodic : ℕ → ℕ → BookCosts → Outcome → Type 0
IsUnperiodic steps period b e =
    ((length b.levels ≡ 2 → ⊥) × (e ≡ no_plan steps (total_room b steps) 2))
    ⊎ (((length b.levels ≡ 2) × ((2 ≤ steps → 2 ≤ period → 1 ≤ room b 0 steps) → ⊥) × (e ≡ no_plan steps (total_room b steps) 1))
    ⊎ ((length b.levels ≡ 2) × (2 ≤ steps → 2 ≤ period → 1 ≤ room b 0 steps) × (HasSlots (slots_at b 1) (images steps period) → ⊥)
    × (e ≡ no_plan steps (total_room b steps) 4)))

-- there is no plan of DiskRevolve
abbrev pub IsUndisked : ℕ → BookCosts → Outcome → Type 0
IsUndisked steps b e =
    ((length b.levels ≡ 2 → ⊥) × (e ≡ no_plan steps (total_room b steps) 2))
    ⊎ ((length b.levels ≡ 2) × (slice_get (slots_of b) 1 ≡ Some Unlimited → ⊥) × (e ≡ no_plan steps (total_room b steps) 3))

-- there is no plan of H-Revolve
abbrev pub IsUnnested : ℕ → BookCosts → Outcome → Type 0
IsUnnested steps b e = (nested.HasNestedPlan steps b → ⊥) × (e ≡ no_plan steps (total_room b steps) 1)
