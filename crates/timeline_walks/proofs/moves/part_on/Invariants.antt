use Rattle.std.proofs.Common.{◌≡◌, ◌+◌, ◌-◌, ◌<◌, max}
use Rattle.run_timeline.specs.Moves.{CameForward}
use Rattle.timeline_walks.proofs.moves.part_on.Given as goal

-- the move came to the place
abbrev pub invariant-loop-hit : goal.invariant-loop-hit
invariant-loop-hit g l = record {
  stays : l.timeline ≡ record l.fn.timeline { place = l.timeline.place; reached = max l.fn.timeline.reached l.timeline.place; trail = 0 };
  behind : l.fn.timeline.place < l.timeline.place;
  came : CameForward l.fn.timeline.run l.stops l.fn.timeline.place l.timeline.place;
  counted : l.steps + l.fn.timeline.place ≡ l.fn.steps + l.timeline.place;
}

abbrev pub decreases-loop-hit : goal.decreases-loop-hit
decreases-loop-hit g l = l.timeline.run.most - l.timeline.place
