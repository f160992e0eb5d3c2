use Rattle.std.proofs.Common.{◌≡◌, ℕ, ◌*◌, ◌<◌, get_or, vec_len}
use Rattle.library_tests.proofs.machine_tests.far_apart.Given as goal

abbrev pub invariant-loop-index : goal.invariant-loop-index
invariant-loop-index l = record {
  count : vec_len l.numbers ≡ l.index;
  numbers : (k : ℕ) → k < l.index → get_or l.numbers.items k 0 ≡ k * 256;
}
