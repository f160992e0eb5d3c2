-- How the words of a product, and of a division, fit together.
use Rattle.std.specs.Prelude.{◌≡◌, ◌≢◌, ℕ, ◌+◌, ◌*◌, ◌^◌, ◌<◌, ◌⊎◌, ℤ, pos, ◌+ℤ◌, ◌*ℤ◌, unsigned_abs}
use Rattle.std.specs.Int.{int_rem_euclid, is_negative}
use Rattle.rv_pages.specs.Memory.{wrapped}
use Rattle.rv_machine.specs.Numbers.{signed}
use Rattle.rv_machine.specs.Products.{high_signed, high_signed_unsigned, high_unsigned, quotient_signed, quotient_unsigned, remainder_signed, remainder_unsigned}

-- an upper and a lower word make up a whole number modulo 2 ^ 64
abbrev pub MakeUp : ℤ → ℕ → ℕ → Type 0
MakeUp z high low = int_rem_euclid z (pos (2 ^ 64)) ≡ pos (high * 2 ^ 32 + low)

-- The upper and the lower word make up each product. The lower word is the same with signs and without.
pub record AreProducts (a b : ℕ) : Type 0 where
  pub signed_both : MakeUp (signed a *ℤ signed b) (high_signed a b) (wrapped (a * b))
  pub signed_first : MakeUp (signed a *ℤ pos b) (high_signed_unsigned a b) (wrapped (a * b))
  pub signed_none : MakeUp (pos a *ℤ pos b) (high_unsigned a b) (wrapped (a * b))

-- Quotient and remainder are those of a division. The remainder is smaller than the divisor, and is 0 or has the
-- dividend's sign.
pub record IsDivision (dividend divisor quotient remainder : ℤ) : Type 0 where
  pub whole : dividend ≡ quotient *ℤ divisor +ℤ remainder
  pub smaller : unsigned_abs remainder < unsigned_abs divisor
  pub sign : (remainder ≡ pos 0) ⊎ (is_negative remainder ≡ is_negative dividend)

-- Quotients and remainders are those of a division. The two exceptions are division by zero, and 80000000 by ffffffff
-- with signs.
pub record AreQuotients (a b : ℕ) : Type 0 where
  pub with_signs : b ≢ 0 → ((a ≡ 0x80000000) × (b ≡ 0xFFFFFFFF) → ⊥) →
      IsDivision (signed a) (signed b) (signed (quotient_signed a b)) (signed (remainder_signed a b))
  pub without_signs : b ≢ 0 → IsDivision (pos a) (pos b) (pos (quotient_unsigned a b)) (pos (remainder_unsigned a b))
  pub by_zero : b ≡ 0 → (quotient_signed a b ≡ 0xFFFFFFFF) × (remainder_signed a b ≡ a) × (quotient_unsigned a b ≡ 0xFFFFFFFF) × (remainder_unsigned a b ≡ a)
  pub too_large : a ≡ 0x80000000 → b ≡ 0xFFFFFFFF → (quotient_signed a b ≡ 0x80000000) × (remainder_signed a b ≡ 0)
