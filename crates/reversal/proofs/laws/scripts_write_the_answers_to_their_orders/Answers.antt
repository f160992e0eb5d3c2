use Rattle.reversal.proofs.JobCompletion.{writes_answers}
use Rattle.reversal.proofs.laws.scripts_write_the_answers_to_their_orders.Goals as goal

pub returns : goal.returns
returns c = writes_answers
