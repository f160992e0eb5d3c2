use Rattle.std.proofs.Common.{◌≡◌, ◌<◌, ◌≤◌, ◌+◌, ◌-◌, ◌*◌}
use Rattle.binomials.specs.Binomials.{beta, beta_before}
use Rattle.binomials.proofs.climb.climb_to.Given as goal

abbrev pub invariant-loop-reached : goal.invariant-loop-reached
invariant-loop-reached l = record {
  some : 0 < l.slots;
  small : l.slots < 4294967296;
  short : l.length ≤ 1000000;
  reached_is : l.reached ≡ beta l.slots l.repeats;
  before_is : l.before ≡ beta_before l.slots l.repeats;
  earlier_is : l.earlier ≡ beta_before l.slots (l.repeats - 1);
  below_is : l.below ≡ beta_before (l.slots + 1) l.repeats;
  all_short : l.before < l.length;
  repeated : l.repeats < l.length;
  no_more : l.below ≤ l.repeats * l.length;
}

abbrev pub decreases-loop-reached : goal.decreases-loop-reached
decreases-loop-reached l = l.length - l.repeats
