-- No public clause cites this file. What is counted of a list so far.
use Rattle.std.specs.Prelude.{◌≡◌, ℕ, ◌≤◌, List, length}
use Rattle.plan_types.specs.declared.action.Action.{Action}
use Rattle.revolve_gen.specs.Stack.{held_at_end, written, read}
use Rattle.multistage_gen.specs.declared.traffic.PlaceTraffic.{PlaceTraffic}
use Rattle.multistage_gen.specs.Traffic.{IsTraffic}

-- the traffic of these actions is counted, and so many images are held after them
pub record HasCounted (front : List Action) (held : ℕ) (items : List PlaceTraffic) : Type 0 where
  pub traffic : IsTraffic (written 0 front) (read 0 front) items
  pub held_is : held ≡ held_at_end 0 front
  pub near : held ≤ length items
