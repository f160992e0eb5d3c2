-- Products, quotients and remainders of words. Source: RISC-V unprivileged manual, chapter "M" Extension for Integer
-- Multiplication and Division, with its table "Semantics for division by zero and division overflow". They are those of
-- whole numbers: `signed` reads a word with its sign, and `pos` without one.
use Rattle.std.specs.Prelude.{ℕ, ◌/◌, ◌%◌, ◌^◌, ◌==◌, cond, ℤ, pos, ◌*ℤ◌, unsigned_abs, int_div, int_rem}
use Rattle.std.specs.Int.{int_div_euclid, int_rem_euclid}
use Rattle.rv_machine.specs.Numbers.{signed}

-- a whole number modulo 2 ^ 32, from 0 to 2 ^ 32 - 1
abbrev pub as_word : ℤ → ℕ
as_word z = unsigned_abs (int_rem_euclid z (pos (2 ^ 32)))

-- a whole number divided by 2 ^ 32, rounded down
abbrev pub upper_part : ℤ → ℤ
upper_part z = int_div_euclid z (pos (2 ^ 32))

-- the upper word of a product: signed by signed, signed by unsigned, and unsigned by unsigned
abbrev pub high_signed : ℕ → ℕ → ℕ
high_signed a b = as_word (upper_part (signed a *ℤ signed b))

abbrev pub high_signed_unsigned : ℕ → ℕ → ℕ
high_signed_unsigned a b = as_word (upper_part (signed a *ℤ pos b))

abbrev pub high_unsigned : ℕ → ℕ → ℕ
high_unsigned a b = as_word (upper_part (pos a *ℤ pos b))

-- A quotient, rounded towards zero; by zero it has all bits set. Modulo 2 ^ 32 that of 80000000 by ffffffff, 2 ^ 31, is
-- 80000000.
abbrev pub quotient_signed : ℕ → ℕ → ℕ
quotient_signed a b = cond (b == 0) 0xFFFFFFFF (as_word (int_div (signed a) (signed b)))

abbrev pub quotient_unsigned : ℕ → ℕ → ℕ
quotient_unsigned a b = cond (b == 0) 0xFFFFFFFF (a / b)

-- the remainder of such a division, with the dividend's sign; by zero it is the dividend
abbrev pub remainder_signed : ℕ → ℕ → ℕ
remainder_signed a b = cond (b == 0) a (as_word (int_rem (signed a) (signed b)))

abbrev pub remainder_unsigned : ℕ → ℕ → ℕ
remainder_unsigned a b = cond (b == 0) a (a % b)
