use Rattle.std.proofs.Common.{◌≡◌, ◌<◌, ◌++◌, false, take, drop}
use Rattle.reverse_runner.specs.KeepersSeen.{told_by}
use Rattle.reverse_runner.specs.SessionState.{holdings_of}
use Rattle.reverse_queries.specs.Queries.{front_to}
use Rattle.reverse_queries.proofs.TraceSteps.{Gone}
use Rattle.reverse_queries.proofs.ReversalOrder.{left}
use Rattle.reverse_queries.proofs.Progress.{Way}
use Rattle.reverse_queries.proofs.queries.state_at.Given as goal

-- The actions so far were gone through, and none of them handed out the state; the visitor got nothing.
abbrev pub invariant-loop-action : goal.invariant-loop-action
invariant-loop-action g l = record {
  way : Way g.K.Storage l.list l.action-index l.fn.session l.session l.fn.keepers.items l.keepers.items l.fn.steps l.steps;
  gone :
      Gone l.fn.session.unit l.fn.session.situation.steps l.fn.session.journal l.list l.action-index (holdings_of l.fn.session (told_by g.K.Storage l.fn.keepers.items))
      (holdings_of l.session (told_by g.K.Storage l.keepers.items)) l.session.situation.at;
  still : l.place < left l.fn.session.unit l.fn.session.situation.steps l.session.situation.at;
  front : front_to l.fn.session.unit l.fn.session.situation.steps l.place l.list ≡ take l.action-index l.list ++ front_to l.fn.session.unit l.fn.session.situation.steps l.place (drop l.action-index l.list);
  place : l.picked.place ≡ l.place;
  reference : l.picked.visitor.ghost_name ≡ l.initial.picked.visitor.ghost_name;
  visitor : l.picked.visitor.now ≡ l.fn.visitor;
  passed : l.picked.passed ≡ false;
}
