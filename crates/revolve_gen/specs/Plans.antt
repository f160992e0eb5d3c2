-- Where there is a list, and why there is none.
use Rattle.std.specs.Prelude.{◌≡◌, ℕ, ◌≤◌}
use Rattle.revolve_gen.specs.declared.fault.GenFault.{GenFault}
use Rattle.revolve_gen.specs.declared.fault.GenFault.TheVariants.{NoPlan, Memory}

-- two or more steps have a slot
abbrev pub HasPlan : ℕ → ℕ → Type 0
HasPlan steps c = 2 ≤ steps → 1 ≤ c

-- Why there is no list for so many steps with c slots. Rule 1: two or more steps have no slot. Memory can be short only
-- where there is a plan.
abbrev pub IsFault : ℕ → ℕ → GenFault → Type 0
IsFault steps c (NoPlan rule) = (rule ≡ 1) × (2 ≤ steps) × (c ≡ 0)
IsFault steps c Memory = HasPlan steps c
