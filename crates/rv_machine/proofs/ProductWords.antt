-- How the words of a product, and of a division, fit together.
use Rattle.std.proofs.Common.{◌≡◌, ◌≢◌, ℕ, zero, suc, ◌+◌, ◌*◌, ◌/◌, ◌%◌, ◌^◌, ◌<◌, ◌≤◌, ◌==◌, true, false, cond, ◌⊎◌, inl, inr, refl, sym, ap, subst, ◌∙◌, arith, ℤ, pos, negsuc, ◌*ℤ◌, neg_ℤ}
use Rattle.std.proofs.lemmas.Bool.{ne_eqb, eq-eqb}
use Rattle.std.proofs.lemmas.Bool.Decides.{leb_tells}
use Rattle.std.proofs.lemmas.Int.{ints, to_z-of_z, of_z-to_z, wrapping_mul-bits, int_wrap-mul_right, quot-rem, rem_below}
use Rattle.std.proofs.Math.Nat.{div-le_self}
use Rattle.std.specs.Prelude.{unsigned_abs, FitsSigned, int_div, int_rem}
use Rattle.std.specs.Int.{w32, cast_signed, cast_unsigned, int_wrap, int_rem_euclid, is_negative}
use Rattle.std.specs.Int.Signed.{mag, mag_rem}
use Rattle.rv_pages.specs.Memory.{wrapped}
use Rattle.rv_machine.specs.Numbers.{signed}
use Rattle.rv_machine.specs.Products.{as_word, upper_part, quotient_signed, quotient_unsigned, remainder_signed, remainder_unsigned}
use Rattle.rv_machine.specs.ProductLaws.{AreProducts, IsDivision, AreQuotients}
use Rattle.rv_machine.proofs.UpperWords.{as_word_small, as_word_cast}

-- a number modulo 2 ^ 64 by its two words
two_words : (z : ℤ) → int_rem_euclid z (pos (2 ^ 64)) ≡ pos (as_word (upper_part z) * 2 ^ 32 + as_word z)
two_words (pos n) = ap pos (omega arith)
two_words (negsuc n) = ap pos (omega arith)

word_of_wrap : (z : ℤ) → cast_unsigned w32 (int_wrap w32 z) ≡ as_word z
unfolding int_wrap
word_of_wrap z = of_z-to_z w32 (as_word z) (as_word_small z)

-- the lower word of a product, whether its numbers have signs or not
low_signed : (a b : ℕ) → a < 2 ^ 32 → b < 2 ^ 32 → as_word (signed a *ℤ signed b) ≡ wrapped (a * b)
low_signed a b k l =
    sym (word_of_wrap (signed a *ℤ signed b))
    ∙ ap (cast_unsigned w32) (sym (wrapping_mul-bits w32 a b k l))
    ∙ of_z-to_z w32 (wrapped (a * b)) (omega arith)

signed_wrap : (b : ℕ) → b < 2 ^ 32 → int_wrap w32 (pos b) ≡ signed b
unfolding int_wrap
signed_wrap b l = let same : b % 2 ^ 32 ≡ b = omega arith in ap (cast_signed w32) same

low_mixed : (a b : ℕ) → a < 2 ^ 32 → b < 2 ^ 32 → as_word (signed a *ℤ pos b) ≡ wrapped (a * b)
low_mixed a b k l =
    sym (word_of_wrap (signed a *ℤ pos b))
    ∙ ap (cast_unsigned w32) (sym (int_wrap-mul_right w32 (signed a) (pos b)))
    ∙ ap (λ z. cast_unsigned w32 (int_wrap w32 (signed a *ℤ z))) (signed_wrap b l)
    ∙ word_of_wrap (signed a *ℤ signed b)
    ∙ low_signed a b k l

made_up : (z : ℤ) (low : ℕ) → as_word z ≡ low → int_rem_euclid z (pos (2 ^ 64)) ≡ pos (as_word (upper_part z) * 2 ^ 32 + low)
made_up z low e = two_words z ∙ ap (λ n. pos (as_word (upper_part z) * 2 ^ 32 + n)) e

pub products : (a b : ℕ) → a < 2 ^ 32 → b < 2 ^ 32 → AreProducts a b
products a b k l = record {
  signed_both = made_up (signed a *ℤ signed b) (wrapped (a * b)) (low_signed a b k l);
  signed_first = made_up (signed a *ℤ pos b) (wrapped (a * b)) (low_mixed a b k l);
  signed_none = made_up (pos a *ℤ pos b) (wrapped (a * b)) refl;
}

-- divisions of whole numbers
sign_of_neg : (r : ℕ) → (neg_ℤ (pos r) ≡ pos 0) ⊎ (is_negative (neg_ℤ (pos r)) ≡ true)
sign_of_neg zero = inl refl
sign_of_neg (suc r) = inr refl

not_negative : (n : ℕ) → is_negative (pos n) ≡ false
not_negative n = elim (leb_tells (suc n) 0) [ inl p ↦ absurd (omega (arith, p.1)) | inr p ↦ p.0 ]

sign_of_rem : (a d : ℤ) → (int_rem a d ≡ pos 0) ⊎ (is_negative (int_rem a d) ≡ is_negative a)
sign_of_rem (pos a) d = inr (not_negative (a % unsigned_abs d) ∙ sym (not_negative a))
sign_of_rem (negsuc a) d = sign_of_neg (suc a % unsigned_abs d)

divided : (a d : ℤ) → 0 < unsigned_abs d → IsDivision a d (int_div a d) (int_rem a d)
divided a d h = record { whole = sym (quot-rem a d); smaller = rem_below a d h; sign = sign_of_rem a d }

-- the signed reading of a word, and back
read_back : (z : ℤ) → FitsSigned w32 z → signed (as_word z) ≡ z
read_back z h = ap signed (sym (as_word_cast z h)) ∙ to_z-of_z w32 z h

word_fits : (a : ℕ) → a < 2 ^ 32 → FitsSigned w32 (signed a)
word_fits a l = record { sfits = grind (arith, ints) }

some_abs : (b : ℕ) → b < 2 ^ 32 → b ≢ 0 → 0 < unsigned_abs (signed b)
some_abs b l other = grind (arith, ints)

-- a quotient has 32 bits, but for that of the least number by -1
half_or_less : (a b : ℕ) → suc a / suc (suc b) * 2 ≤ suc a
half_or_less a b = omega arith

mag_neg : (r a : ℕ) → r ≤ suc a → mag (neg_ℤ (pos r)) ≤ a
mag_neg zero a h = omega arith
mag_neg (suc r) a h = omega arith

quotient_fits : (a d : ℤ) → FitsSigned w32 a → FitsSigned w32 d → ((a ≡ negsuc 0x7FFFFFFF) × (d ≡ negsuc 0) → ⊥) → FitsSigned w32 (int_div a d)
quotient_fits (pos a) (pos b) f g h = record { sfits = omega (arith, div-le_self a b, f.sfits) }
quotient_fits (pos a) (negsuc b) f g h = record { sfits = omega (arith, mag_neg (a / suc b) a (omega (arith, div-le_self a (suc b))), f.sfits) }
quotient_fits (negsuc a) (pos b) f g h = record { sfits = omega (arith, mag_neg (suc a / b) a (div-le_self (suc a) b), f.sfits) }
quotient_fits (negsuc a) (negsuc zero) f g h =
    let other : a ≢ 0x7FFFFFFF = λ e. h (ap negsuc e, refl) in
    record { sfits = omega (arith, f.sfits, other) }
quotient_fits (negsuc a) (negsuc (suc b)) f g h = record { sfits = omega (arith, half_or_less a b, f.sfits) }

mag_of_rem : (a d : ℤ) → FitsSigned w32 a → FitsSigned w32 (int_rem a d)
mag_of_rem a d f = record { sfits = omega (arith, mag_rem a d, f.sfits) }

-- divisions of words
not_zero : (b : ℕ) (m n : ℕ) → b ≢ 0 → cond (b == 0) m n ≡ n
not_zero b m n h = ap (λ t. cond t m n) (ne_eqb b 0 h)

is_zero : (b : ℕ) (m n : ℕ) → b ≡ 0 → cond (b == 0) m n ≡ m
is_zero b m n h = ap (λ t. cond t m n) (eq-eqb b 0 h)

least_word : (a : ℕ) (z : ℤ) → a < 2 ^ 32 → signed a ≡ z → a ≡ cast_unsigned w32 z
least_word a z l e = sym (of_z-to_z w32 a l) ∙ ap (cast_unsigned w32) e

signed_division : (a b : ℕ) → a < 2 ^ 32 → b < 2 ^ 32 → b ≢ 0 → ((a ≡ 0x80000000) × (b ≡ 0xFFFFFFFF) → ⊥) → IsDivision (signed a) (signed b) (signed (quotient_signed a b)) (signed (remainder_signed a b))
signed_division a b k l other apart =
    let fits = quotient_fits (signed a) (signed b) (word_fits a k) (word_fits b l) (λ e. apart (least_word a (negsuc 0x7FFFFFFF) k e.0, least_word b (negsuc 0) l e.1)) in
    let quotient : signed (quotient_signed a b) ≡ int_div (signed a) (signed b) = ap signed (not_zero b 0xFFFFFFFF _ other) ∙ read_back (int_div (signed a) (signed b)) fits in
    let remainder : signed (remainder_signed a b) ≡ int_rem (signed a) (signed b) = ap signed (not_zero b a _ other) ∙ read_back (int_rem (signed a) (signed b)) (mag_of_rem (signed a) (signed b) (word_fits a k)) in
    subst (λ q. IsDivision (signed a) (signed b) q (signed (remainder_signed a b))) (sym quotient)
    (subst (λ r. IsDivision (signed a) (signed b) (int_div (signed a) (signed b)) r) (sym remainder) (divided (signed a) (signed b) (some_abs b l other)))

unsigned_division : (a b : ℕ) → b ≢ 0 → IsDivision (pos a) (pos b) (pos (quotient_unsigned a b)) (pos (remainder_unsigned a b))
unsigned_division a b other =
    subst (λ q. IsDivision (pos a) (pos b) (pos q) (pos (remainder_unsigned a b))) (sym (not_zero b 0xFFFFFFFF (a / b) other))
    (subst (λ r. IsDivision (pos a) (pos b) (pos (a / b)) (pos r)) (sym (not_zero b a (a % b) other)) (divided (pos a) (pos b) (omega (arith, other))))

too_large_by : (a b : ℕ) → a ≡ 0x80000000 → b ≡ 0xFFFFFFFF → (quotient_signed a b ≡ 0x80000000) × (remainder_signed a b ≡ 0)
too_large_by a b e f = ((λ i. quotient_signed (e i) (f i)), (λ i. remainder_signed (e i) (f i)))

pub quotients : (a b : ℕ) → a < 2 ^ 32 → b < 2 ^ 32 → AreQuotients a b
quotients a b k l = record {
  with_signs = signed_division a b k l;
  without_signs = unsigned_division a b;
  by_zero = λ e. (is_zero b 0xFFFFFFFF _ e, is_zero b a _ e, is_zero b 0xFFFFFFFF _ e, is_zero b a _ e);
  too_large = too_large_by a b;
}
