use Rattle.rv_machine.proofs.OutputCount.{written_is}
use Rattle.rv_machine.proofs.laws.runs_count_their_output.Goals as goal

pub returns : goal.returns
returns c = written_is
