use Rattle.std.proofs.Common.{◌≡◌, ◌+◌, ◌-◌, ◌≤◌, take, drop}
use Rattle.revolve_gen.specs.Places.{level_at}
use Rattle.revolve_gen.proofs.places.Places.level.Given as goal

abbrev pub invariant-loop-k : goal.invariant-loop-k
invariant-loop-k l = record {
  within : l.k ≤ l.self-inside.count;
  level_is : level_at (take l.self-inside.count l.self-inside.slots) l.place ≡ l.k + level_at (drop l.k (take l.self-inside.count l.self-inside.slots)) l.rest;
}

abbrev pub decreases-loop-k : goal.decreases-loop-k
decreases-loop-k l = l.self-inside.count - l.k
