use Rattle.std.proofs.Common.{◌≡◌, ℕ, ◌*◌, ◌<◌, ◌++◌, take, drop}
use Rattle.rv_machine.specs.MachineState.{IsMachineState}
use Rattle.reverse_runner.specs.KeepersSeen.{told_by}
use Rattle.reverse_runner.specs.SessionState.{holdings_of}
use Rattle.reverse_runner.specs.SessionOfRun.{StandsAt}
use Rattle.reverse_queries.specs.Queries.{front_to}
use Rattle.reverse_queries.proofs.TraceSteps.{Going}
use Rattle.reverse_queries.proofs.FinderProgress.{Asked}
use Rattle.reverse_queries.proofs.ReversalOrder.{left}
use Rattle.reverse_queries.proofs.Progress.{Way}
use Rattle.reverse_queries.proofs.finding.find_last.Given as goal

-- The actions so far were gone through. None of the states that they handed out is one whose step does what is asked, and each
-- state that is left stands in the rest of the list.
abbrev pub invariant-loop-action : goal.invariant-loop-action
invariant-loop-action g l = record {
  way : Way g.K.Storage l.list l.action-index l.fn.session l.session l.fn.keepers.items l.keepers.items l.fn.steps l.steps;
  asked : Asked l.fn.question l.word (l.fn.session.unit * l.fn.session.situation.steps) l.finder;
  going :
      Going l.fn.question l.word l.fn.session.unit l.fn.session.situation.steps l.fn.session.journal l.list l.action-index (holdings_of l.fn.session (told_by g.K.Storage l.fn.keepers.items))
      (holdings_of l.session (told_by g.K.Storage l.keepers.items)) l.session.situation.at l.finder
      (λ first. IsMachineState first × StandsAt first l.fn.session (told_by g.K.Storage l.fn.keepers.items));
  front :
      (n : ℕ) → n < left l.fn.session.unit l.fn.session.situation.steps l.session.situation.at →
      front_to l.fn.session.unit l.fn.session.situation.steps n l.list ≡ take l.action-index l.list ++ front_to l.fn.session.unit l.fn.session.situation.steps n (drop l.action-index l.list);
}
