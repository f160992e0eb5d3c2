use Rattle.reversal.proofs.RunLists.{run_least}
use Rattle.reversal.proofs.laws.revolve_runs_are_least.Goals as goal

pub returns : goal.returns
returns c = run_least
