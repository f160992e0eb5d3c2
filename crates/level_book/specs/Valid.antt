-- Which lists of actions reverse a computation, and where other lists first break a rule.
use Rattle.std.specs.Prelude.{◌≡◌, ℕ, ◌+◌, ◌-◌, ◌<◌, true, false, List, [], ◌∷◌, length, take, slice_get, Option, Some, None}
use Rattle.plan_types.specs.declared.action.Action.{Action}
use Rattle.level_book.specs.declared.book.Slots.{Slots}
use Rattle.level_book.specs.Configuration.{Configuration, start}
use Rattle.level_book.specs.Moves.{Goes}
use Rattle.level_book.specs.Rules.{rule, level_refused}

-- from c the actions lead to d, one after the other
abbrev pub Leads : ℕ → List Slots → Configuration → List Action → Configuration → Type 0
Leads steps slots c [] d = d ≡ c
Leads steps slots c (a ∷ rest) d = (m : Configuration) × Goes steps slots c a m × Leads steps slots m rest d

-- the list leads from the start to a configuration that is ended
abbrev pub Valid : ℕ → List Slots → List Action → Type 0
Valid steps slots list = (last : Configuration) × Leads steps slots (start steps slots) list last × (last.ended ≡ true)

-- what breaks a rule at c: an action, or the end of an unfinished list
abbrev pub BreaksRule : ℕ → List Slots → Configuration → Option Action → ℕ → ℕ → Type 0
BreaksRule steps slots c (Some a) number level = (rule steps slots c a ≡ number) × (0 < number) × (level ≡ level_refused number a)
BreaksRule steps slots c None number level = (c.ended ≡ false) × (number ≡ 16) × (level ≡ 0)

-- The list breaks this rule at this place, counted from 1. The actions before it lead from the start to a
-- configuration, and there it breaks the rule. A list that ends without EndReverse is broken one past its end. A place
-- is at least 1, so `place - 1` actions come before it.
pub record BrokenAt (steps : ℕ) (slots : List Slots) (list : List Action) (place number level : ℕ) : Type 0 where
  pub from_one : 0 < place
  pub within : place < length list + 2
  pub before : Configuration
  pub leads : Leads steps slots (start steps slots) (take (place - 1) list) before
  pub breaks : BreaksRule steps slots before (slice_get list (place - 1)) number level
