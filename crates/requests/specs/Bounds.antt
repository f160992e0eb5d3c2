-- The numbers of a request and their bounds. They are tested before any input is read.
use Rattle.std.specs.Prelude.{◌≡◌, ◌⊎◌, ℕ, ◌≤◌, ◌++◌, List, [], ◌∷◌, nat_lt, if◌then◌else◌}
use Rattle.std.specs.List.{AllByRecursion, flat_map}
use Rattle.endings.specs.declared.outcome.Outcome.{Outcome}
use Rattle.requests.specs.declared.bounds.Bounded.{Bounded}
use Rattle.requests.specs.declared.bounds.Limit.{Limit}
use Rattle.requests.specs.Operands.{within, bounds_of, products_of}
use Rattle.requests.specs.Request.{Choice, raw, stack, workers, units, files, unit_count, Command, operands, Request, Says}
use Rattle.endings.specs.Outcomes.{no_request, out_of_range}

-- The limits of the numbers of options. Rule 3 is the number of workers, 4 the stack's pages, 5 a level, and 12 a unit.
abbrev pub stack_limit : Limit
stack_limit = record { least = 1; greatest = 1024; rule = 4 }

abbrev pub workers_limit : Limit
workers_limit = record { least = 1; greatest = 64; rule = 3 }

abbrev pub level_limit : Limit
level_limit = record { least = 0; greatest = 3; rule = 5 }

abbrev pub unit_limit : Limit
unit_limit = record { least = 1; greatest = 1024; rule = 12 }

abbrev pub option_numbers : Choice → List Bounded
option_numbers raw = []
option_numbers (stack pages) = within stack_limit pages ∷ []
option_numbers (workers count) = within workers_limit count ∷ []
option_numbers (units count) = within unit_limit count ∷ []
option_numbers (files level folder) = within level_limit level ∷ []

-- the numbers of a command's operands, and then their products; steps are units of so many instructions
abbrev pub command_numbers : (unit : ℕ) → Command → List Bounded
command_numbers unit c = flat_map (bounds_of unit) (operands c) ++ flat_map (products_of unit) (operands c)

-- the numbers of a request, in the order of the words, in which they are tested
abbrev pub numbers : Request → List Bounded
numbers r = flat_map option_numbers r.options ++ command_numbers (unit_count r.options) r.command

abbrev pub IsWithin : Bounded → Type 0
IsWithin n = (n.least ≤ n.number) × (n.number ≤ n.greatest)

-- How a call ends if this is its first number out of bounds. It has the number, the bound that was passed, and the
-- rule.
abbrev pub out_of_bounds : Bounded → Outcome
out_of_bounds n = out_of_range n.number (if nat_lt n.number n.least then n.least else n.greatest) n.rule

-- the ending for the first number out of bounds
abbrev pub RefusesFirst : List Bounded → Outcome → Type 0
RefusesFirst [] e = ⊥
RefusesFirst (n ∷ rest) e = ((IsWithin n → ⊥) × (e ≡ out_of_bounds n)) ⊎ (IsWithin n × RefusesFirst rest e)

-- The words alone are refused, with this ending. They are no request, or a number of theirs is out of bounds.
abbrev pub RefusesWords : List (List ℕ) → Outcome → Type 0
RefusesWords words e =
    (((r : Request) → Says words r → ⊥) × (e ≡ no_request))
    ⊎ ((r : Request) × Says words r × RefusesFirst (numbers r) e)

-- the words ask for this: they mean it, and its numbers are within their bounds
pub record Asks (words : List (List ℕ)) (r : Request) : Type 0 where
  pub says : Says words r
  pub within : AllByRecursion IsWithin (numbers r)
