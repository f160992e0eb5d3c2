use Rattle.action_text.proofs.WholeText.{schedule_or_fault}
use Rattle.action_text.proofs.laws.bytes_are_a_schedule_or_have_a_fault.Goals as goal

pub returns : goal.returns
returns c = schedule_or_fault
