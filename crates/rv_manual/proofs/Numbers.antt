-- Words of integers.
use Rattle.std.proofs.Common.{◌≡◌, ℕ, ◌+◌, ◌-◌, ◌*◌, ◌/◌, ◌%◌, ◌^◌, ◌<◌, ◌≤◌, refl, ap, arith, ℤ, pos, negsuc, ◌+ℤ◌, ◌-ℤ◌}
use Rattle.std.proofs.lemmas.Int.{ints, int_rem_euclid_is}
use Rattle.std.specs.Prelude.{unsigned_abs}
use Rattle.rv_machine.specs.Numbers as machine
use Rattle.rv_manual.specs.Integers.{signed, word_of}

-- the word of an integer that is m, but for some times 2 ^ 32
pub word_is : (z : ℤ) (k m : ℕ) → z +ℤ pos (k * 2 ^ 32) ≡ pos m → word_of z ≡ m % 2 ^ 32
word_is z k m e = ap unsigned_abs (int_rem_euclid_is z (pos (2 ^ 32)) (2 ^ 32) k m (omega arith) refl e)

pub difference : (p q : ℕ) → q ≤ 2 ^ 32 → word_of (pos p -ℤ pos q) ≡ (p + 2 ^ 32 - q) % 2 ^ 32
difference p q h = word_is (pos p -ℤ pos q) 1 (p + 2 ^ 32 - q) (omega (arith, ints))

pub sum : (n : ℕ) (z : ℤ) → word_of (pos n +ℤ z) ≡ (n + word_of z) % 2 ^ 32
sum n (pos m) = omega arith
sum n (negsuc m) = word_is (pos n +ℤ negsuc m) (m / 2 ^ 32 + 1) (n + word_of (negsuc m)) (omega (arith, ints))

-- a word with its sign
pub signed_is : (a : ℕ) → a < 2 ^ 32 → signed a ≡ machine.signed a
signed_is a h = grind (arith, ints)
