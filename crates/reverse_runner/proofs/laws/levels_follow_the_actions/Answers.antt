use Rattle.reverse_runner.proofs.HoldingsInvariant.{laid_out_after, stand_after, alone_after}
use Rattle.reverse_runner.proofs.laws.levels_follow_the_actions.Goals as goal

pub returns-clause-laid_out : goal.returns-clause-laid_out
returns-clause-laid_out c = laid_out_after

pub returns-clause-stands : goal.returns-clause-stands
returns-clause-stands c = stand_after

pub returns-clause-alone : goal.returns-clause-alone
returns-clause-alone c = alone_after
