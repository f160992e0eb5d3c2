-- The level of each place of a list of the multistage class.
use Rattle.std.specs.Prelude.{◌≡◌, ℕ, ◌<◌, List, length, slice_index}
use Rattle.plan_types.specs.declared.action.Action.{Action}
use Rattle.level_book.specs.BookCosts.{BookCosts, total_room}
use Rattle.revolve_gen.specs.Plans.{HasPlan}
use Rattle.revolve_gen.specs.Stack.{places_used}
use Rattle.revolve_gen.specs.Multistage.{HasLevels}

-- the list is in the class, and its places have these levels and no others
pub record HasPlaceLevels (steps : ℕ) (book : BookCosts) (list : List Action) (levels : List ℕ) : Type 0 where
  pub two : length book.levels ≡ 2
  pub plan : HasPlan steps (total_room book steps)
  pub count : length levels ≡ places_used list
  pub placed : HasLevels steps book (slice_index levels) list
  pub only : (level : ℕ → ℕ) → HasLevels steps book level list → (p : ℕ) → p < length levels → level p ≡ slice_index levels p
