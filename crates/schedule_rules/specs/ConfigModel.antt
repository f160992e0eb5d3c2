-- How a configuration is kept: the fields of `Config`, their meaning, and their invariant.
use Rattle.std.specs.Prelude.{◌≤◌}
use Rattle.std.specs.List.{AllByRecursion}
use Rattle.plan_types.specs.declared.limits.TheConstants.{MOST_STEPS}
use Rattle.schedule_rules.specs.declared.config.Config.TheInside.{Inside}
use Rattle.schedule_rules.specs.BitRoom.{HasBits}
use Rattle.schedule_rules.specs.Levels.{slots_kept, images_kept}
use Rattle.schedule_rules.specs.Situation.{Situation}
use Rattle.schedule_rules.specs.Reachability.{IsReached}

abbrev pub situation_of : Inside → Situation
situation_of c = record {
  steps = c.steps;
  slots = slots_kept c.levels.items;
  at = record {
    work = c.work;
    held = images_kept c.levels.items;
    tape = c.tape;
    reverse = c.reverse;
    forward_ended = c.forward_ended;
    ended = c.ended;
  };
}

-- There are no more steps than a schedule may have. Each level has a bit for each state. Some list of actions leads to
-- the configuration.
pub record IsKept (c : Inside) : Type 0 where
  pub most : c.steps ≤ MOST_STEPS
  pub within : c.reverse ≤ c.steps
  pub bits : AllByRecursion (HasBits c.steps) c.levels.items
  pub reached : ∥ IsReached c.steps (situation_of c).slots (situation_of c).at ∥₁
