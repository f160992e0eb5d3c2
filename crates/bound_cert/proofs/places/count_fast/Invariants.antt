use Rattle.std.proofs.Common.{◌≡◌, ◌≤◌, get_or}
use Rattle.revolve_gen.specs.Places.{places_on}
use Rattle.bound_cert.proofs.places.count_fast.Given as goal

abbrev pub invariant-loop-level : goal.invariant-loop-level
invariant-loop-level l = record {
  so_far : l.count ≡ places_on (λ p. get_or l.levels p 0) 0 l.level-index;
  few : l.count ≤ l.level-index;
}
