use Rattle.reverse_runner.proofs.StateOrder.{valid_hands}
use Rattle.reverse_runner.proofs.laws.valid_lists_hand_out_all.Goals as goal

pub returns : goal.returns
returns c = valid_hands
