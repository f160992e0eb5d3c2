use Rattle.std.proofs.Common.{◌≡◌, ℕ, ◌<◌, get_or}
use Rattle.bound_cert.proofs.places.first_above.Given as goal

abbrev pub invariant-loop-p : goal.invariant-loop-p
invariant-loop-p l = (q : ℕ) → q < l.p → get_or l.levels q 0 ≡ 1 → l.threshold < get_or l.savings q 0 → ⊥
