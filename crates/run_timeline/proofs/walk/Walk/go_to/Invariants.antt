use Rattle.std.proofs.Common.{◌≡◌, ℕ, ◌+◌, ◌-◌, ◌≤◌, ◌<◌, max}
use Rattle.run_timeline.specs.WalkState.{IsFew}
use Rattle.run_timeline.proofs.walk.Walk.go_to.Given as goal

-- It stands at the greatest place so far where it has to go on.
abbrev pub invariant-loop-self : goal.invariant-loop-self
invariant-loop-self g l = record {
  stays : l.self ≡ record l.fn.self { place = l.self.place; reached = max l.fn.self.reached l.self.place };
  at_most : l.self.place ≤ l.place;
  known : l.place ≤ l.fn.self.reached → l.self.place ≡ l.place;
  furthest : l.self.place < l.place → l.self.reached ≤ l.self.place;
  counted : (n : ℕ) × ((l.steps + l.fn.self.reached ≤ l.fn.steps + l.self.reached + n) × IsFew l.fn.self n);
}

abbrev pub decreases-loop-self : goal.decreases-loop-self
decreases-loop-self g l = l.place - l.self.place
