use Rattle.std.proofs.Common.{◌≡◌}
use Rattle.run_timeline.specs.Moves.{CameBackward}
use Rattle.timeline_walks.proofs.moves.part_back.Given as goal

-- the move came to the end of what is left
abbrev pub invariant-loop-end : goal.invariant-loop-end
invariant-loop-end g l = record {
  stays : l.timeline ≡ record l.fn.timeline { place = l.timeline.place; trail = l.timeline.trail };
  came : CameBackward l.fn.timeline.run l.stops l.fn.timeline.place l.end;
}

abbrev pub decreases-loop-end : goal.decreases-loop-end
decreases-loop-end g l = l.end
