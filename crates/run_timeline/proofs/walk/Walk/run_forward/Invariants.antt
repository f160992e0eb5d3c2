use Rattle.std.proofs.Common.{◌≡◌, ◌+◌, ◌-◌, ◌<◌, max}
use Rattle.run_timeline.specs.Moves.{CameForward}
use Rattle.run_timeline.proofs.walk.Walk.run_forward.Given as goal

-- the move came to the place
abbrev pub invariant-loop-hit : goal.invariant-loop-hit
invariant-loop-hit g l = record {
  stays : l.self ≡ record l.fn.self { place = l.self.place; reached = max l.fn.self.reached l.self.place };
  behind : l.fn.self.place < l.self.place;
  came : CameForward l.fn.self.run l.stops l.fn.self.place l.self.place;
  counted : l.steps + l.fn.self.place ≡ l.fn.steps + l.self.place;
}

abbrev pub decreases-loop-hit : goal.decreases-loop-hit
decreases-loop-hit g l = l.self.run.most - l.self.place
