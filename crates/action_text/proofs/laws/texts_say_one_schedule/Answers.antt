use Rattle.action_text.proofs.WholeText.{one_schedule}
use Rattle.action_text.proofs.laws.texts_say_one_schedule.Goals as goal

pub returns : goal.returns
returns c = one_schedule
