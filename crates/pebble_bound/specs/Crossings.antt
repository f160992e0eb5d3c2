-- How often a list advances a step without tape, and how often it tapes it. Step i leads from state i to state i + 1.
use Rattle.std.specs.Prelude.{ℕ, zero, suc, ◌+◌, ◌==◌, Bool, false, cond, ◌&&◌, nat_lt, nat_le, List, count_by}
use Rattle.plan_types.specs.declared.action.Keep.TheVariants.{Nothing, Store, Tape}
use Rattle.plan_types.specs.declared.action.Action.{Action}
use Rattle.plan_types.specs.declared.action.Action.TheVariants.{Forward}

-- whether an action advances step i without tape, and whether it tapes it
abbrev pub is_crossed : ℕ → Action → Bool
is_crossed i (Forward from to Nothing) = nat_le from i && nat_lt i to
is_crossed i (Forward from to (Store k)) = nat_le from i && nat_lt i to
is_crossed i _ = false

abbrev pub is_taped_at : ℕ → Action → Bool
is_taped_at i (Forward from to Tape) = from == i
is_taped_at i _ = false

-- how often a list does
abbrev pub crossings : List Action → ℕ → ℕ
crossings list i = count_by (is_crossed i) list

abbrev pub tapings : List Action → ℕ → ℕ
tapings list i = count_by (is_taped_at i) list

-- how many numbers below n pass a test
abbrev pub passing : (ℕ → Bool) → ℕ → ℕ
passing test zero = 0
passing test (suc n) = passing test n + cond (test n) 1 0

-- how many of the steps below n a list advances at most k times without tape
abbrev pub advanced_at_most : ℕ → List Action → ℕ → ℕ
advanced_at_most k list n = passing (λ i. nat_le (crossings list i) k) n
