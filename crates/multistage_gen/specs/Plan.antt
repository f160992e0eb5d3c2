-- A multistage plan: its places, and the actions that are still to come.
use Rattle.std.specs.Prelude.{◌≡◌, ℕ, List, [], ◌∷◌, length, slice_index}
use Rattle.plan_types.specs.declared.action.Action.{Action}
use Rattle.level_book.specs.declared.book.Level.{Level}
use Rattle.level_book.specs.BookCosts.{BookCosts, total_room}
use Rattle.revolve_gen.specs.Plans.{HasPlan}
use Rattle.revolve_gen.specs.Stack.{places_used}
use Rattle.revolve_gen.specs.Multistage.{HasLevels}
use Rattle.multistage_gen.specs.Threshold.{AreSavings}

-- The model of a plan: each place's level and its saving on the faster level, and the list still to come.
pub record Plan : Type 0 where
  pub levels : List ℕ
  pub savings : List ℕ
  pub actions : List Action

-- the places of a plan before its first action: their levels in a book, and their savings
pub record IsPlaced (steps : ℕ) (book : BookCosts) (plan : Plan) : Type 0 where
  pub two : length book.levels ≡ 2
  pub has : HasPlan steps (total_room book steps)
  pub count : length plan.levels ≡ places_used plan.actions
  pub levels : HasLevels steps book (slice_index plan.levels) plan.actions
  pub savings : (fast slow : Level) → book.levels ≡ fast ∷ slow ∷ [] → AreSavings plan.actions fast slow plan.savings
