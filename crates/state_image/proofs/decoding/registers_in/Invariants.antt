use Rattle.std.proofs.Common.{◌≡◌, ℕ, ◌+◌, ◌*◌, ◌<◌, length, get_or}
use Rattle.state_image.specs.ImageForm.{number_at}
use Rattle.state_image.proofs.decoding.registers_in.Given as goal

abbrev pub invariant-loop-k : goal.invariant-loop-k
invariant-loop-k l = record {
  size : length l.x ≡ 32;
  zero : get_or l.x 0 0 ≡ 0;
  words : (j : ℕ) → j < l.k → get_or l.x (j + 1) 0 ≡ number_at l.bytes (12 + 4 * j);
}
