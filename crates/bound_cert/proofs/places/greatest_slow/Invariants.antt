use Rattle.std.proofs.Common.{◌≡◌, ◌⊎◌, ℕ, ◌<◌, ◌≤◌, get_or}
use Rattle.bound_cert.proofs.places.greatest_slow.Given as goal

abbrev pub invariant-loop-p : goal.invariant-loop-p
invariant-loop-p l = record {
  most : (q : ℕ) → q < l.p → get_or l.levels q 0 ≡ 1 → get_or l.savings q 0 ≤ l.greatest;
  taken : (l.greatest ≡ 0) ⊎ ((q : ℕ) × (q < l.p) × (get_or l.levels q 0 ≡ 1) × (get_or l.savings q 0 ≡ l.greatest));
}
