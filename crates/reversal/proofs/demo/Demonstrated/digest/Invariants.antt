use Rattle.std.proofs.Common.{length}
use Rattle.reversal.proofs.DemoProgress.{HasDone}
use Rattle.reversal.proofs.demo.Demonstrated.digest.Given as goal

-- the actions so far were done
abbrev pub invariant-loop-action : goal.invariant-loop-action
invariant-loop-action g l = HasDone l.fn.self l.self l.hasher l.fn.counter l.counter

abbrev pub decreases-loop-action : goal.decreases-loop-action
decreases-loop-action g l = length l.self.actions
