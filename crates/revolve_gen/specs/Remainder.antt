-- No public clause cites this file. What is still to be written: the list `owed`, which models the stream of a stretch.
-- It depends on the phase of the current stretch and on the stack of held stretches.
use Rattle.std.specs.Prelude.{ℕ, suc, ◌+◌, ◌-◌, ◌<◌, ◌≤◌, false, List, [], ◌∷◌, ◌++◌, length}
use Rattle.plan_types.specs.declared.limits.TheConstants.{MOST_SLOTS, MOST_STEPS}
use Rattle.plan_types.specs.declared.action.Keep.TheVariants.{Nothing}
use Rattle.plan_types.specs.declared.action.Action.{Action}
use Rattle.plan_types.specs.declared.action.Action.TheVariants.{Forward, Reverse, EndForward}
use Rattle.binomials.specs.Laws.{IsStretch}
use Rattle.revolve_gen.specs.declared.stretch.Stretch.{Stretch}
use Rattle.revolve_gen.specs.declared.stretch.Phase.{Phase}
use Rattle.revolve_gen.specs.declared.stretch.Phase.TheVariants.{Empty, Fresh, Ahead, Last, Taped, Back}
use Rattle.revolve_gen.specs.RevolveList.{fresh, held}

-- What the held stretches owe, the newest first, which is last in the stack. There are p places below them. There are
-- no more places than room.
abbrev pub owed_held : (ℕ → ℕ) → ℕ → ℕ → List Stretch → List Action → List Action
owed_held level room p [] rest = rest
owed_held level room p (s ∷ stack) rest = owed_held level room (suc p) stack (held s.steps level s.start s.steps (room - p) p ++ rest)

-- what is owed before `rest`, which the held stretches owe, with p images held
abbrev pub owed_by : (ℕ → ℕ) → ℕ → ℕ → Phase → List Action → List Action
owed_by level room p Empty rest = EndForward ∷ rest
owed_by level room p (Fresh start steps first) rest = fresh steps level first start steps (room - p) p ++ rest
owed_by level room p (Ahead start split end) rest = Forward start split Nothing ∷ (fresh (end - split) level false split (end - split) (room - p) p ++ rest)
owed_by level room p (Last start) rest = EndForward ∷ Reverse (start + 1) start ∷ rest
owed_by level room p (Taped start) rest = Reverse (start + 1) start ∷ rest
owed_by level room p Back rest = rest

-- all that is owed
abbrev pub owed : (ℕ → ℕ) → ℕ → Phase → List Stretch → List Action
owed level room phase stack = owed_by level room (length stack) phase (owed_held level room 0 stack [])

-- a stretch that can be reversed with so many slots, below the greatest number of steps
pub record IsWithin (start steps slots : ℕ) : Type 0 where
  pub stretch : IsStretch steps slots
  pub within : start + steps ≤ MOST_STEPS

-- the held stretches can be reversed with the slots from their places on
abbrev pub AreStretches : ℕ → ℕ → List Stretch → Type 0
AreStretches room p [] = Unit {0}
AreStretches room p (s ∷ stack) = IsWithin s.start s.steps (room - p) × AreStretches room (suc p) stack

-- the phase is possible with p images held
abbrev pub IsPhase : ℕ → ℕ → Phase → Type 0
IsPhase room p Empty = Unit {0}
IsPhase room p (Fresh start steps first) = IsWithin start steps (room - p)
IsPhase room p (Ahead start split end) = (start < split) × (split < end) × IsWithin split (end - split) (room - p)
IsPhase room p (Last start) = start < MOST_STEPS
IsPhase room p (Taped start) = start < MOST_STEPS
IsPhase room p Back = Unit {0}

-- Each held stretch has a place. Each stretch can be reversed with the slots that are left for it.
pub record IsOwing (room : ℕ) (phase : Phase) (stack : List Stretch) : Type 0 where
  pub few : length stack ≤ room
  pub small : room ≤ MOST_SLOTS
  pub stretches : AreStretches room 0 stack
  pub next : IsPhase room (length stack) phase
