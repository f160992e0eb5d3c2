-- Actions whose counts fit so many bits. Their levels are below 4, and their steps are within the greatest number of
-- steps.
use Rattle.std.specs.Prelude.{ℕ, ◌<◌, ◌≤◌}
use Rattle.plan_types.specs.declared.limits.TheConstants.{MOST_STEPS}
use Rattle.plan_types.specs.declared.action.Keep.TheVariants.{Nothing, Store, Tape}
use Rattle.plan_types.specs.declared.action.Dest.TheVariants.{Work, Level}
use Rattle.plan_types.specs.declared.action.Action.{Action}
use Rattle.plan_types.specs.declared.action.Action.TheVariants.{Forward, Reverse, Copy, Move, EndForward, EndReverse}

-- a Forward leads from one state to a later one, at most state 1,000,000
abbrev pub LeadsOn : ℕ → ℕ → Type 0
LeadsOn from to = (from ≤ to) × (to ≤ MOST_STEPS)

-- the action names no level but 0 to 3, and a Forward leads on
abbrev pub CanBeTallied : Action → Type 0
CanBeTallied (Forward from to Nothing) = LeadsOn from to
CanBeTallied (Forward from to Tape) = LeadsOn from to
CanBeTallied (Forward from to (Store k)) = LeadsOn from to × (k < 4)
CanBeTallied (Reverse from to) = Unit {0}
CanBeTallied (Copy n k Work) = k < 4
CanBeTallied (Copy n k (Level j)) = (k < 4) × (j < 4)
CanBeTallied (Move n k Work) = k < 4
CanBeTallied (Move n k (Level j)) = (k < 4) × (j < 4)
CanBeTallied EndForward = Unit {0}
CanBeTallied EndReverse = Unit {0}
