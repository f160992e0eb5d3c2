-- No public clause cites this file. What is still to be written of a periodic list after the current stretch.
use Rattle.std.specs.Prelude.{◌≡◌, ℕ, ◌+◌, ◌*◌, ◌≤◌, true, List, [], ◌∷◌, ◌++◌}
use Rattle.plan_types.specs.declared.limits.TheConstants.{MOST_STEPS}
use Rattle.plan_types.specs.declared.action.Action.{Action}
use Rattle.plan_types.specs.declared.action.Action.TheVariants.{EndReverse}
use Rattle.level_book.specs.declared.book.Slots.{Slots}
use Rattle.level_book.specs.declared.book.Slots.TheVariants.{Unlimited}
use Rattle.revolve_gen.specs.Part.{stretch}
use Rattle.revolve_gen.specs.Plans as revolve
use Rattle.disk_gen.specs.declared.phase.Phase.{Phase}
use Rattle.disk_gen.specs.declared.phase.Phase.TheVariants.{Ahead, Back, Ended}
use Rattle.disk_gen.specs.PeriodicList.{ahead, back}

-- after the current stretch, with c slots of level 0
abbrev pub owed_behind : ℕ → ℕ → ℕ → Phase → List Action
owed_behind period last c (Ahead held left) =
    ahead period held left ++ (stretch (λ _. 0) true ((held + left) * period) last c ++ (back period c (held + left) ++ EndReverse ∷ []))
owed_behind period last c (Back held) = back period c held ++ EndReverse ∷ []
owed_behind period last c Ended = []

-- the phase is possible with c slots of level 0
abbrev pub IsPhase : ℕ → ℕ → ℕ → Phase → Type 0
IsPhase period last c (Ahead held left) = (1 ≤ left) × ((held + left) * period + last ≤ MOST_STEPS) × revolve.HasPlan period c × revolve.HasPlan last c
IsPhase period last c (Back held) = (held * period ≤ MOST_STEPS) × (1 ≤ held → revolve.HasPlan period c)
IsPhase period last c Ended = Unit {0}

-- there is a period, all slots are on level 0, and the phase is possible
pub record IsOwing (period last : ℕ) (levels : List Slots) (c : ℕ) (phase : Phase) : Type 0 where
  pub some : 1 ≤ period
  pub fast : levels ≡ Unlimited ∷ []
  pub next : IsPhase period last c phase
