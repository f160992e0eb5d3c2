use Rattle.std.proofs.Common.{◌≡◌, ◌+◌, ◌≤◌}
use Rattle.run_timeline.proofs.StopHits.{NothingSeen}
use Rattle.run_timeline.proofs.walk.Walk.run_back.Given as goal

-- nothing is seen from the end of what is left on
abbrev pub invariant-loop-end : goal.invariant-loop-end
invariant-loop-end g l = record {
  stays : l.self ≡ record l.fn.self { place = l.self.place };
  high : l.end ≤ l.fn.self.place;
  nothing : NothingSeen l.fn.self.run l.stops l.end l.fn.self.place;
  counted : l.steps + l.end ≡ l.fn.steps + l.fn.self.place;
}

abbrev pub decreases-loop-end : goal.decreases-loop-end
decreases-loop-end g l = l.end
