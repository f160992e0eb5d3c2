use Rattle.schedule_rules.proofs.Reachability.{sound_on, sound_start}
use Rattle.schedule_rules.proofs.laws.reached_is_sound.Goals as goal

pub returns : goal.returns
returns c = λ steps slots at reached. sound_on steps slots _ reached.0 at (sound_start steps slots) reached.1
