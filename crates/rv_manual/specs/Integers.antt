-- Integers, and their words of 32 bits.
use Rattle.std.specs.Prelude.{ℕ, ◌*◌, ◌/◌, ◌%◌, ◌^◌, Bool, not, cond, ℤ, pos, ◌-ℤ◌, neg_ℤ, unsigned_abs}
use Rattle.std.specs.Int.{int_div_euclid, int_rem_euclid, is_negative, sum_through, bit_at}

-- the integer of a number in two's complement: the sign bit, the one with this number, counts negative
abbrev pub twos_complement : ℕ → ℕ → ℤ
twos_complement sign n = pos (n % 2 ^ sign) -ℤ pos (n / 2 ^ sign * 2 ^ sign)

-- a word with its sign
abbrev pub signed : ℕ → ℤ
signed a = twos_complement 31 a

-- the lowest bits of an integer, so many: its residue modulo that power of 2, from 0 on
abbrev pub low_bits : ℕ → ℤ → ℕ
low_bits n z = unsigned_abs (int_rem_euclid z (pos (2 ^ n)))

-- the word of an integer; overflow is ignored
abbrev pub word_of : ℤ → ℕ
word_of z = low_bits 32 z

-- the upper 32 of the 64 bits of a product
abbrev pub upper_word : ℤ → ℕ
upper_word z = low_bits 64 z / 2 ^ 32

-- a quotient rounded down, by a number from 1 on
abbrev pub rounded_down : ℤ → ℕ → ℤ
rounded_down z n = int_div_euclid z (pos n)

abbrev pub signs_differ : ℤ → ℤ → Bool
signs_differ x y = cond (is_negative x) (not (is_negative y)) (is_negative y)

-- a quotient rounded towards zero: that of the magnitudes, negative where the signs differ
abbrev pub rounded_towards_zero : ℤ → ℤ → ℤ
rounded_towards_zero x y = cond (signs_differ x y) (neg_ℤ (pos (unsigned_abs x / unsigned_abs y))) (pos (unsigned_abs x / unsigned_abs y))

-- a truth value as a number
abbrev pub one_if : Bool → ℤ
one_if test = cond test (pos 1) (pos 0)

-- a word computed bit by bit from two words
abbrev pub bitwise : (ℕ → ℕ → ℕ) → ℕ → ℕ → ℤ
bitwise of_bits a b = pos (sum_through (λ i. of_bits (bit_at a i) (bit_at b i) * 2 ^ i) 31)
