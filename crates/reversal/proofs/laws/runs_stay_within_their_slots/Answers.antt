use Rattle.reversal.proofs.WithinSlots.{within_slots}
use Rattle.reversal.proofs.laws.runs_stay_within_their_slots.Goals as goal

pub returns : goal.returns
returns c run begins = within_slots run begins
