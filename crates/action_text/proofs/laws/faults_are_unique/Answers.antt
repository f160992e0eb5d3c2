use Rattle.action_text.proofs.WholeText.{one_first_fault, schedule_faultless}
use Rattle.action_text.proofs.laws.faults_are_unique.Goals as goal

pub returns-clause-one : goal.returns-clause-one
returns-clause-one c = one_first_fault

pub returns-clause-none : goal.returns-clause-none
returns-clause-none c = schedule_faultless
