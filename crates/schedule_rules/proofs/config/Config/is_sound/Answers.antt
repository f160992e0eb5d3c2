use Rattle.std.proofs.Common.{subst}
use Rattle.schedule_rules.specs.Situation.{Situation}
use Rattle.schedule_rules.specs.Reachability.{IsReached, IsSound}
use Rattle.schedule_rules.specs.ConfigModel.{situation_of}
use Rattle.schedule_rules.proofs.ConfigInvariant.{reached_sound}
use Rattle.schedule_rules.proofs.config.Config.is_sound.Goals as goal

pub returns-clause-reached : goal.returns-clause-reached
returns-clause-reached c =
    let P : Situation → Type 0 = λ s. ∥ IsReached s.steps s.slots s.at ∥₁ in
    subst P c.self.view_is c.self.invariant.reached

pub returns-clause-sound : goal.returns-clause-sound
returns-clause-sound c =
    let P : Situation → Type 0 = λ s. IsSound s.steps s.slots s.at in
    let kept = situation_of c.self.inside in
    subst P c.self.view_is (reached_sound kept.steps kept.slots kept.at c.self.invariant.reached)
