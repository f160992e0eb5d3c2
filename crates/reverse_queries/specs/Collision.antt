-- The exception to claims about a list performed over any keepers.
use Rattle.std.specs.Prelude.{◌≡◌, ℕ, ◌+◌, List, slice_get, Some}
use Rattle.plan_types.specs.declared.action.Action.{Action}
use Rattle.rv_machine.specs.MachineState.{MachineState}
use Rattle.reverse_runner.specs.ActionEffects.{Holdings}
use Rattle.reverse_runner.specs.Collision.{Collides}

-- While a list was performed, an action fetched a collision. The state's image differs from that of the state with its
-- number, though both have one SHA-256. `held` gives the holdings before each action and after the last one.
pub record CollidesOn (states : ℕ → MachineState) (list : List Action) (held : ℕ → Holdings) : Type 0 where
  pub place : ℕ
  pub action : Action
  pub there : slice_get list place ≡ Some action
  pub collides : Collides states action (held (place + 1)).work
