-- The laws over all valid lists.
use Rattle.std.proofs.Common.{◌≡◌, ℕ, zero, suc, ◌+◌, ◌*◌, ◌≤◌, List, refl, arith}
use Rattle.plan_types.specs.declared.action.Action.{Action}
use Rattle.level_book.specs.BookCosts.{BookCosts, slots_of, total_room}
use Rattle.level_book.specs.CostFold.{forward}
use Rattle.binomials.specs.Binomials.{beta_before}
use Rattle.binomials.specs.Advances.{repeats, least_advances}
use Rattle.binomials.proofs.Monotonicity.{beta_one, beta_before_slots}
use Rattle.pebble_bound.specs.Crossings.{crossings}
use Rattle.pebble_bound.specs.Laws.{IsValidWithin, FewAreAdvancedSeldom, EachIsTapedOnce, ForwardIsBounded, NoneIsBelowRevolve, NoneWithoutSlots}
use Rattle.pebble_bound.proofs.SublevelCounts.{few}
use Rattle.pebble_bound.proofs.ListTotals.{few_crossed, at_most_few, taped_once as taped_on_the_way, forward_from}

-- with more slots than the book has room for it is no less
seldom : (steps : ℕ) (book : BookCosts) (c : ℕ) (list : List Action) → IsValidWithin steps book c list → (k : ℕ) → few (crossings list) k steps ≤ beta_before c k
seldom steps book c list is k = omega (arith, few_crossed steps book list is.valid k, beta_before_slots (total_room book steps) c k is.room)

pub few_seldom : (steps : ℕ) (book : BookCosts) (c : ℕ) (list : List Action) → FewAreAdvancedSeldom steps book c list
few_seldom steps book c list is k = omega (arith, seldom steps book c list is (suc k), at_most_few (crossings list) k steps)

pub taped_once : (steps : ℕ) (book : BookCosts) (list : List Action) → EachIsTapedOnce steps book list
taped_once steps book list valid = taped_on_the_way steps (slots_of book) list valid

pub forward_bounded : (steps : ℕ) (book : BookCosts) (c : ℕ) (list : List Action) → ForwardIsBounded steps book c list
forward_bounded steps book c list is = forward_from steps c (slots_of book) list is.valid (seldom steps book c list is)

pub none_below : (steps : ℕ) (book : BookCosts) (c : ℕ) (list : List Action) → NoneIsBelowRevolve steps book c list
unfolding least_advances
none_below steps book c list is =
    let taped = forward_bounded steps book c list is 0 in
    let bound = forward_bounded steps book c list is (repeats steps c) in
    omega (arith, taped, bound)

too_many : (n k m f : ℕ) → n + k * n ≤ f + m → m ≡ k → k ≡ suc f → n ≤ 1
too_many zero k m f h e g = omega arith
too_many (suc zero) k m f h e g = omega arith
too_many (suc (suc n)) k m f h e g = absurd (omega arith)

pub none_without : (steps : ℕ) (book : BookCosts) (list : List Action) → NoneWithoutSlots steps book list
none_without steps book list is =
    let k = suc (forward list) in
    too_many steps k (beta_before (0 + 1) k) (forward list) (forward_bounded steps book 0 list is k) (beta_one (forward list)) refl

pub no_fewer_than_steps : (steps : ℕ) (book : BookCosts) (c : ℕ) (list : List Action) → IsValidWithin steps book c list → steps ≤ forward list
no_fewer_than_steps steps book c list is = omega (arith, forward_bounded steps book c list is 0)

-- with no slots there is a valid list for one step at most
pub none_with : (steps : ℕ) (book : BookCosts) (c : ℕ) (list : List Action) → c ≡ 0 → 2 ≤ steps → IsValidWithin steps book c list → ⊥
none_with steps book c list none two is =
    let within : IsValidWithin steps book 0 list = record { valid = is.valid; room = omega (arith, is.room) } in
    absurd (omega (arith, none_without steps book list within))
