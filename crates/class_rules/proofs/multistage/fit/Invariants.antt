use Rattle.std.proofs.Common.{◌≡◌, ℕ, ◌+◌, ◌<◌, get_or}
use Rattle.revolve_gen.specs.Places.{places_on}
use Rattle.class_rules.proofs.multistage.fit.Given as goal

abbrev pub invariant-loop-level : goal.invariant-loop-level
invariant-loop-level l = record {
  known : (p : ℕ) → p < l.level-index → get_or l.levels p 0 < 2;
  on_fast : l.fast ≡ places_on (λ p. get_or l.levels p 0) 0 l.level-index;
  on_slow : l.slow ≡ places_on (λ p. get_or l.levels p 0) 1 l.level-index;
  all : l.fast + l.slow ≡ l.level-index;
}
