use Rattle.std.proofs.Common.{◌≡◌, ◌<◌, ◌≤◌}
use Rattle.binomials.specs.Binomials.{beta}
use Rattle.binomials.proofs.binomial.beta.Given as goal

abbrev pub invariant-loop-done : goal.invariant-loop-done
invariant-loop-done l = record {
  small : l.c < 4294967296;
  few : l.repeats ≤ 2000000;
  value_is : l.value ≡ beta l.c l.done;
}
