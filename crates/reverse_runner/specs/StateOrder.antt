-- Which states a list gives, in order. A step of the schedule is so many steps of the machine.
use Rattle.std.specs.Prelude.{ℕ, zero, suc, ◌+◌, ◌*◌, List, [], ◌∷◌}
use Rattle.std.specs.List.{flat_map}
use Rattle.plan_types.specs.declared.action.Action.{Action}
use Rattle.plan_types.specs.declared.action.Action.TheVariants.{Reverse, EndForward}

-- so many numbers from one on, in descending order
abbrev pub numbers_from : ℕ → ℕ → List ℕ
numbers_from from zero = []
numbers_from from (suc n) = (from + n) ∷ numbers_from from n

-- the numbers of the states that an action gives: EndForward the last, a Reverse those of its unit
abbrev pub handed_by : ℕ → ℕ → Action → List ℕ
handed_by unit steps EndForward = (unit * steps) ∷ []
handed_by unit steps (Reverse from to) = numbers_from (unit * to) unit
handed_by unit steps _ = []

-- the numbers of the states that a list gives, for so many steps
abbrev pub handed : ℕ → ℕ → List Action → List ℕ
handed unit steps list = flat_map (handed_by unit steps) list

-- the numbers n, n − 1, and so on to 0
abbrev pub countdown : ℕ → List ℕ
countdown zero = 0 ∷ []
countdown (suc n) = suc n ∷ countdown n
