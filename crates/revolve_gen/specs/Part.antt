-- One stretch of a list, written by the rule for a stretch whose first state is in work.
use Rattle.std.specs.Prelude.{ℕ, zero, suc, Bool, cond, List, [], ◌∷◌}
use Rattle.plan_types.specs.declared.action.Action.{Action}
use Rattle.plan_types.specs.declared.action.Action.TheVariants.{EndForward}
use Rattle.level_book.specs.declared.book.Slots.{Slots}
use Rattle.revolve_gen.specs.RevolveList.{fresh}

-- The actions of a stretch of so many steps from b with c slots. The stack of images is empty. `first`: no step was
-- taped yet. A stretch of no steps has only the end of the way forward.
abbrev pub stretch : (ℕ → ℕ) → Bool → ℕ → ℕ → ℕ → List Action
stretch level first b zero c = cond first (EndForward ∷ []) []
stretch level first b (suc n) c = fresh (suc n) level first b (suc n) c 0

-- The model of a stream of stretches. It has the slots of the levels in order, how many are usable, and the actions
-- still to come.
pub record Coming : Type 0 where
  pub levels : List Slots
  pub slots : ℕ
  pub actions : List Action
