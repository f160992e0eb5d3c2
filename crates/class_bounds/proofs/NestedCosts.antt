-- Every nested list costs at least the top entry of each under-table, and so a list that costs it is the least.
use Rattle.std.proofs.Common.{ℕ, zero, suc, Bool, true, false, List, [], ◌∷◌, refl, arith}
use Rattle.plan_types.specs.declared.action.Keep.TheVariants.{Nothing, Store, Tape}
use Rattle.plan_types.specs.declared.action.Action.{Action}
use Rattle.plan_types.specs.declared.action.Action.TheVariants.{Forward, Reverse, Copy, Move, EndForward, EndReverse}
use Rattle.level_book.specs.BookCosts.{BookCosts}
use Rattle.level_book.specs.CostFold.{cost}
use Rattle.level_book.specs.UnderTable.{Tables, top_entry}
use Rattle.class_bounds.specs.Laws.{NestedCostsAtLeast, LeastOfTheNested}
use Rattle.class_bounds.proofs.Bounds.{least_from_bound}
use Rattle.class_bounds.proofs.NestedRates.{nested_rates, nested_bound}
use Rattle.class_bounds.proofs.LowerBounds.{IsAllowed, list_pays}

-- every action is allowed
all_allowed : (t : Tables) (e : Bool) (list : List Action) → IsAllowed (nested_rates t) e list
all_allowed t e [] = tt
all_allowed t e (Forward from to Nothing ∷ rest) = all_allowed t e rest
all_allowed t e (Forward from to (Store k) ∷ rest) = (refl, all_allowed t e rest)
all_allowed t e (Forward from to Tape ∷ rest) = all_allowed t e rest
all_allowed t e (Reverse from to ∷ rest) = all_allowed t e rest
all_allowed t e (Copy n k to ∷ rest) = (refl, all_allowed t e rest)
all_allowed t e (Move n k to ∷ rest) = (refl, all_allowed t e rest)
all_allowed t e (EndForward ∷ rest) = all_allowed t true rest
all_allowed t e (EndReverse ∷ rest) = all_allowed t e rest

pub nested_costs : (steps : ℕ) (book : BookCosts) (t : Tables) (list : List Action) → NestedCostsAtLeast steps book t list
nested_costs zero book t list some under nested = omega arith
nested_costs (suc n) book t list some under nested =
    list_pays (suc n) book (nested_rates t) (nested_bound (suc n) book t under) some list (omega arith) nested.0 nested.1 (all_allowed t false list)

pub nested_least : (steps : ℕ) (book : BookCosts) (t : Tables) (list other : List Action) → LeastOfTheNested steps book t list other
nested_least steps book t list other some under top nested =
    least_from_bound (top_entry steps book t) (cost list book) (cost other book) top (nested_costs steps book t other some under nested)
