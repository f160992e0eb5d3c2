-- Numbers of a request that are tested one after the other.
use Rattle.std.proofs.Common.{◌≤◌, ◌++◌, inl, inr, List, [], ◌∷◌, Option, Some, None, arith}
use Rattle.std.specs.Option.{MatchOption}
use Rattle.std.specs.List.{AllByRecursion, flat_map}
use Rattle.endings.specs.declared.outcome.Outcome.{Outcome}
use Rattle.requests.specs.declared.bounds.Bounded.{Bounded}
use Rattle.requests.specs.Request.{Choice, raw, stack, workers, units, files, stack_pages, worker_count, unit_count}
use Rattle.requests.specs.Bounds.{option_numbers, IsWithin, RefusesFirst}
use Rattle.requests.proofs.Requests.{all_both}

pub first_front : (xs ys : List Bounded) (e : Outcome) → RefusesFirst xs e → RefusesFirst (xs ++ ys) e
first_front [] ys e h = absurd h
first_front (x ∷ xs) ys e (inl h) = inl h
first_front (x ∷ xs) ys e (inr h) = inr (h.0, first_front xs ys e h.1)

pub first_behind : (xs ys : List Bounded) (e : Outcome) → AllByRecursion IsWithin xs → RefusesFirst ys e → RefusesFirst (xs ++ ys) e
first_behind [] ys e h g = g
first_behind (x ∷ xs) ys e h g = inr (h.0, first_behind xs ys e h.1 g)

pub both_tested : (xs ys : List Bounded) (o : Option Outcome) → AllByRecursion IsWithin xs → MatchOption o (AllByRecursion IsWithin ys) (RefusesFirst ys) → MatchOption o (AllByRecursion IsWithin (xs ++ ys)) (RefusesFirst (xs ++ ys))
both_tested xs ys None h g = all_both IsWithin xs ys h g
both_tested xs ys (Some e) h g = first_behind xs ys e h g

-- the numbers of one list, and those of the other
pub all_front : (xs ys : List Bounded) → AllByRecursion IsWithin (xs ++ ys) → AllByRecursion IsWithin xs
all_front [] ys h = tt
all_front (x ∷ xs) ys h = (h.0, all_front xs ys h.1)

pub all_after : (xs ys : List Bounded) → AllByRecursion IsWithin (xs ++ ys) → AllByRecursion IsWithin ys
all_after [] ys h = h
all_after (x ∷ xs) ys h = all_after xs ys h.1

-- the stack has as many pages as its bounds allow
pub stack_within : (options : List Choice) → AllByRecursion IsWithin (flat_map option_numbers options) → (1 ≤ stack_pages options) × (stack_pages options ≤ 1024)
stack_within [] h = (omega arith, omega arith)
stack_within (raw ∷ options) h = stack_within options h
stack_within (stack pages ∷ options) h = h.0
stack_within (workers count ∷ options) h = stack_within options h.1
stack_within (units count ∷ options) h = stack_within options h.1
stack_within (files level folder ∷ options) h = stack_within options h.1

-- and there are as many workers
pub workers_within : (options : List Choice) → AllByRecursion IsWithin (flat_map option_numbers options) → (1 ≤ worker_count options) × (worker_count options ≤ 64)
workers_within [] h = (omega arith, omega arith)
workers_within (raw ∷ options) h = workers_within options h
workers_within (stack pages ∷ options) h = workers_within options h.1
workers_within (workers count ∷ options) h = h.0
workers_within (units count ∷ options) h = workers_within options h.1
workers_within (files level folder ∷ options) h = workers_within options h.1

-- and a unit as many instructions
pub unit_within : (options : List Choice) → AllByRecursion IsWithin (flat_map option_numbers options) → (1 ≤ unit_count options) × (unit_count options ≤ 1024)
unit_within [] h = (omega arith, omega arith)
unit_within (raw ∷ options) h = unit_within options h
unit_within (stack pages ∷ options) h = unit_within options h.1
unit_within (workers count ∷ options) h = unit_within options h.1
unit_within (units count ∷ options) h = h.0
unit_within (files level folder ∷ options) h = unit_within options h.1
