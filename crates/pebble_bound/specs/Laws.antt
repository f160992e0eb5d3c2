-- Bounds for every valid list, for any number of slots that is no less than the book's room. They say how often steps
-- are advanced, and how many forward steps that makes. Griewank and Walther have this bound for the pebble game of a
-- chain. Here nothing is assumed of a list but its validity.
use Rattle.std.specs.Prelude.{◌≡◌, ℕ, ◌+◌, ◌*◌, ◌≤◌, List, cond, nat_lt}
use Rattle.plan_types.specs.declared.action.Action.{Action}
use Rattle.level_book.specs.BookCosts.{BookCosts, slots_of, total_room}
use Rattle.level_book.specs.Valid.{Valid}
use Rattle.level_book.specs.CostFold.{forward}
use Rattle.binomials.specs.Binomials.{beta, beta_before}
use Rattle.binomials.specs.Advances.{least_advances}
use Rattle.pebble_bound.specs.Crossings.{tapings, advanced_at_most}

-- the list is valid for so many steps, and the book's levels have at most c slots for them
pub record IsValidWithin (steps : ℕ) (book : BookCosts) (c : ℕ) (list : List Action) : Type 0 where
  pub valid : Valid steps (slots_of book) list
  pub room : total_room book steps ≤ c

-- for every k, the steps that are advanced without tape at most k times are at most β(c, k)
abbrev pub FewAreAdvancedSeldom : ℕ → BookCosts → ℕ → List Action → Type 0
FewAreAdvancedSeldom steps book c list = IsValidWithin steps book c list → (k : ℕ) → advanced_at_most k list steps ≤ beta c k

-- each step is taped exactly once, and no other number is
abbrev pub EachIsTapedOnce : ℕ → BookCosts → List Action → Type 0
EachIsTapedOnce steps book list = Valid steps (slots_of book) list → (i : ℕ) → tapings list i ≡ cond (nat_lt i steps) 1 0

-- For every k, the forward steps are at least N + k · N - β(c + 1, k - 1). The bound may be negative, so it is stated
-- as a sum.
abbrev pub ForwardIsBounded : ℕ → BookCosts → ℕ → List Action → Type 0
ForwardIsBounded steps book c list = IsValidWithin steps book c list → (k : ℕ) → steps + k * steps ≤ forward list + beta_before (c + 1) k

-- the forward steps are at least N + t(N, c), as many as Revolve takes
abbrev pub NoneIsBelowRevolve : ℕ → BookCosts → ℕ → List Action → Type 0
NoneIsBelowRevolve steps book c list = IsValidWithin steps book c list → steps + least_advances steps c ≤ forward list

-- without a slot no list is valid for more than one step
abbrev pub NoneWithoutSlots : ℕ → BookCosts → List Action → Type 0
NoneWithoutSlots steps book list = IsValidWithin steps book 0 list → steps ≤ 1
