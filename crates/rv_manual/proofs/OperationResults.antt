-- What operations give, as words.
use Rattle.std.proofs.Common.{◌≡◌, ℕ, ◌+◌, ◌-◌, ◌*◌, ◌/◌, ◌%◌, ◌^◌, ◌<◌, ◌==◌, Bool, true, false, cond, not, nat_lt, nat_le, int_lt, int_le, inl, inr, refl, sym, ap, ◌∙◌, arith, ℤ, pos, negsuc, ◌+ℤ◌, ◌-ℤ◌, ◌*ℤ◌, neg_ℤ}
use Rattle.std.proofs.lemmas.Bool.{lt-leb, le-leb, cases_lt, lt-ltb, le-ltb, and_parts}
use Rattle.std.proofs.lemmas.Int.{ints, of_z-to_z, wrapping_add-bits, wrapping_sub-bits, wrapping_mul-bits, quot-rem}
use Rattle.std.proofs.Math.Nat.{div-le_self, mod-le}
use Rattle.std.specs.Prelude.{FitsSigned, int_div, int_rem}
use Rattle.std.specs.Int.{w32, cast_signed, cast_unsigned, int_wrap, is_negative}
use Rattle.std.specs.Int.Signed.{mag_shr, shr_z}
use Rattle.std.specs.Ordering.{int_eq}
use Rattle.std.specs.Cmp.{signed_Decides}
use Rattle.rv_pages.specs.Memory.{wrapped}
use Rattle.rv_machine.specs.Numbers as machine
use Rattle.rv_machine.specs.Products as product
use Rattle.rv_machine.proofs.UpperWords.{as_word_cast, as_word_small}
use Rattle.rv_manual.specs.Integers.{signed, word_of, upper_word, rounded_down, rounded_towards_zero, one_if}
use Rattle.rv_manual.specs.Operations.{add, sub, slt, sltu, sll, srl, sra, mul, mulh, mulhsu, mulhu, least, overflows, quotient, remainder, div, divu, rem, remu, less, greater_or_equal, greater_or_equal_unsigned}
use Rattle.rv_manual.proofs.Numbers.{difference, signed_is}

-- sums, differences and products are the same modulo 2 ^ 32, with signs or without
word_of_wrap : (z : ℤ) → cast_unsigned w32 (int_wrap w32 z) ≡ word_of z
unfolding int_wrap
word_of_wrap z = of_z-to_z w32 (word_of z) (as_word_small z)

wrapped_word : (z : ℤ) (n : ℕ) → cast_signed w32 (n % 2 ^ 32) ≡ int_wrap w32 z → word_of z ≡ n % 2 ^ 32
wrapped_word z n e = sym (word_of_wrap z) ∙ ap (cast_unsigned w32) (sym e) ∙ of_z-to_z w32 (n % 2 ^ 32) (omega arith)

both_signed : (a b : ℕ) → a < 2 ^ 32 → b < 2 ^ 32 → (f : ℤ → ℤ → ℤ) → f (signed a) (signed b) ≡ f (machine.signed a) (machine.signed b)
both_signed a b k l f = λ i. f (signed_is a k i) (signed_is b l i)

pub add_is : (a b : ℕ) → a < 2 ^ 32 → b < 2 ^ 32 → word_of (add a b) ≡ wrapped (a + b)
add_is a b k l = ap word_of (both_signed a b k l (λ x y. x +ℤ y)) ∙ wrapped_word (machine.signed a +ℤ machine.signed b) (a + b) (wrapping_add-bits w32 a b k l)

pub sub_is : (a b : ℕ) → a < 2 ^ 32 → b < 2 ^ 32 → word_of (sub a b) ≡ wrapped (a + 2 ^ 32 - b)
sub_is a b k l =
    ap word_of (both_signed a b k l (λ x y. x -ℤ y))
    ∙ wrapped_word (machine.signed a -ℤ machine.signed b) (a + (2 ^ 32 - b)) (wrapping_sub-bits w32 a b k l) ∙ omega arith

one_is : (b : Bool) → word_of (one_if b) ≡ cond b 1 0
one_is true = refl
one_is false = refl

pub slt_is : (a b : ℕ) → a < 2 ^ 32 → b < 2 ^ 32 → word_of (slt a b) ≡ machine.one_if (machine.signed_lt a b)
slt_is a b k l = one_is _ ∙ (λ i. cond (int_lt (signed_is a k i) (signed_is b l i)) 1 0)

pub sltu_is : (a b : ℕ) → word_of (sltu a b) ≡ machine.one_if (nat_lt a b)
sltu_is a b = one_is (nat_lt a b)

pub sll_is : (a b : ℕ) → word_of (sll a b) ≡ machine.shifted_left a (b % 32)
sll_is a b = refl

-- a quotient of a word is a word
pub srl_is : (a b : ℕ) → a < 2 ^ 32 → word_of (srl a b) ≡ machine.shifted_right a (b % 32)
srl_is a b k = omega (arith, div-le_self a (2 ^ (b % 32)), k)

down_is : (z : ℤ) (n : ℕ) → rounded_down z n ≡ shr_z z n
down_is (pos a) n = refl
down_is (negsuc a) n = refl

pub sra_is : (a b : ℕ) → a < 2 ^ 32 → word_of (sra a b) ≡ machine.shifted_right_signed a (b % 32)
sra_is a b k =
    let n : ℕ = 2 ^ (b % 32) in
    let z : ℤ = shr_z (machine.signed a) n in
    let whole : FitsSigned w32 (machine.signed a) = record { sfits = grind (arith, ints) } in
    let fits : FitsSigned w32 z = record { sfits = omega (arith, mag_shr (machine.signed a) n, whole.sfits) } in
    ap (λ x. word_of (rounded_down x n)) (signed_is a k) ∙ ap word_of (down_is (machine.signed a) n) ∙ sym (as_word_cast z fits)

pub mul_is : (a b : ℕ) → a < 2 ^ 32 → b < 2 ^ 32 → word_of (mul a b) ≡ wrapped (a * b)
mul_is a b k l = ap word_of (both_signed a b k l (λ x y. x *ℤ y)) ∙ wrapped_word (machine.signed a *ℤ machine.signed b) (a * b) (wrapping_mul-bits w32 a b k l)

upper_is : (z : ℤ) → word_of (pos (upper_word z)) ≡ product.as_word (product.upper_part z)
upper_is (pos n) = omega arith
upper_is (negsuc n) = omega arith

pub mulh_is : (a b : ℕ) → a < 2 ^ 32 → b < 2 ^ 32 → word_of (mulh a b) ≡ product.high_signed a b
mulh_is a b k l = upper_is (signed a *ℤ signed b) ∙ ap (λ z. product.as_word (product.upper_part z)) (both_signed a b k l (λ x y. x *ℤ y))

pub mulhsu_is : (a b : ℕ) → a < 2 ^ 32 → word_of (mulhsu a b) ≡ product.high_signed_unsigned a b
mulhsu_is a b k = upper_is (signed a *ℤ pos b) ∙ ap (λ z. product.as_word (product.upper_part (z *ℤ pos b))) (signed_is a k)

pub mulhu_is : (a b : ℕ) → word_of (mulhu a b) ≡ product.high_unsigned a b
mulhu_is a b = upper_is (pos a *ℤ pos b)

-- quotients that are rounded towards zero
not_negative : (n : ℕ) → is_negative (pos n) ≡ false
not_negative n = le-ltb n 0 (omega arith)

towards_zero_is : (x y : ℤ) → rounded_towards_zero x y ≡ int_div x y
towards_zero_is (pos a) (pos b) = rw (not_negative a, not_negative b) refl
towards_zero_is (pos a) (negsuc b) = rw (not_negative a) refl
towards_zero_is (negsuc a) (pos b) = rw (not_negative b) refl
towards_zero_is (negsuc a) (negsuc b) = refl

left_is : (x y : ℤ) → x -ℤ y *ℤ rounded_towards_zero x y ≡ int_rem x y
left_is x y = ap (λ q. x -ℤ y *ℤ q) (towards_zero_is x y) ∙ omega (arith, ints, quot-rem x y)

-- the least number by -1
are_equal : (x y : ℤ) → int_eq x y ≡ true → x ≡ y
are_equal x y h = (signed_Decides x y).0 h

quotient_is : (x y : ℤ) → word_of (quotient x y) ≡ product.as_word (int_div x y)
quotient_is x y = by (overflows x y) refl
  where
    by : (b : Bool) → overflows x y ≡ b → word_of (cond b least (rounded_towards_zero x y)) ≡ product.as_word (int_div x y)
    by true e =
        let p = and_parts (int_eq x least) (int_eq y (neg_ℤ (pos 1))) e in
        let first : x ≡ least = are_equal x least p.0 in
        let second : y ≡ neg_ℤ (pos 1) = are_equal y (neg_ℤ (pos 1)) p.1 in
        λ i. product.as_word (int_div (sym first i) (sym second i))
    by false e = ap word_of (towards_zero_is x y)

remainder_is : (x y : ℤ) → word_of (remainder x y) ≡ product.as_word (int_rem x y)
remainder_is x y = by (overflows x y) refl
  where
    by : (b : Bool) → overflows x y ≡ b → word_of (cond b (pos 0) (x -ℤ y *ℤ rounded_towards_zero x y)) ≡ product.as_word (int_rem x y)
    by true e =
        let p = and_parts (int_eq x least) (int_eq y (neg_ℤ (pos 1))) e in
        let first : x ≡ least = are_equal x least p.0 in
        let second : y ≡ neg_ℤ (pos 1) = are_equal y (neg_ℤ (pos 1)) p.1 in
        λ i. product.as_word (int_rem (sym first i) (sym second i))
    by false e = ap word_of (left_is x y)

-- one of two integers
either : (b : Bool) (x y : ℤ) (m n : ℕ) → word_of x ≡ m → word_of y ≡ n → word_of (cond b x y) ≡ cond b m n
either true x y m n p q = p
either false x y m n p q = q

word_of_signed : (a : ℕ) → a < 2 ^ 32 → word_of (signed a) ≡ a
word_of_signed a k = difference (a % 2 ^ 31) (a / 2 ^ 31 * 2 ^ 31) (omega arith) ∙ omega arith

pub div_is : (a b : ℕ) → a < 2 ^ 32 → b < 2 ^ 32 → word_of (div a b) ≡ product.quotient_signed a b
div_is a b k l =
    either (b == 0) (neg_ℤ (pos 1)) (quotient (signed a) (signed b)) 0xFFFFFFFF _ refl
    (quotient_is (signed a) (signed b) ∙ (λ i. product.as_word (int_div (signed_is a k i) (signed_is b l i))))

pub rem_is : (a b : ℕ) → a < 2 ^ 32 → b < 2 ^ 32 → word_of (rem a b) ≡ product.remainder_signed a b
rem_is a b k l =
    either (b == 0) (signed a) (remainder (signed a) (signed b)) a _ (word_of_signed a k)
    (remainder_is (signed a) (signed b) ∙ (λ i. product.as_word (int_rem (signed_is a k i) (signed_is b l i))))

pub divu_is : (a b : ℕ) → a < 2 ^ 32 → word_of (divu a b) ≡ product.quotient_unsigned a b
divu_is a b k =
    either (b == 0) (pos (2 ^ 32) -ℤ pos 1) (rounded_towards_zero (pos a) (pos b)) 0xFFFFFFFF (a / b) refl
    (ap word_of (towards_zero_is (pos a) (pos b)) ∙ omega (arith, div-le_self a b, k))

pub remu_is : (a b : ℕ) → a < 2 ^ 32 → word_of (remu a b) ≡ product.remainder_unsigned a b
remu_is a b k =
    either (b == 0) (pos a) (pos a -ℤ pos b *ℤ rounded_towards_zero (pos a) (pos b)) a (a % b) (omega arith)
    (ap word_of (left_is (pos a) (pos b)) ∙ omega (arith, mod-le a b, k))

-- conditions
pub less_is : (a b : ℕ) → a < 2 ^ 32 → b < 2 ^ 32 → less a b ≡ machine.signed_lt a b
less_is a b k l = λ i. int_lt (signed_is a k i) (signed_is b l i)

not_below : (a b : ℕ) → nat_le b a ≡ not (nat_lt a b)
not_below a b =
    elim (cases_lt a b) [
      | inl below ↦ lt-leb b a below ∙ ap not (sym (lt-ltb a b below))
      | inr above ↦ le-leb b a above ∙ ap not (sym (le-ltb a b above))
    ]

not_less_is : (x y : ℤ) → int_le y x ≡ not (int_lt x y)
not_less_is (pos a) (pos b) = not_below a b
not_less_is (pos a) (negsuc b) = refl
not_less_is (negsuc a) (pos b) = refl
not_less_is (negsuc a) (negsuc b) = not_below b a

pub greater_or_equal_is : (a b : ℕ) → a < 2 ^ 32 → b < 2 ^ 32 → greater_or_equal a b ≡ not (machine.signed_lt a b)
greater_or_equal_is a b k l = not_less_is (signed a) (signed b) ∙ (λ i. not (int_lt (signed_is a k i) (signed_is b l i)))

pub greater_or_equal_unsigned_is : (a b : ℕ) → greater_or_equal_unsigned a b ≡ not (nat_lt a b)
greater_or_equal_unsigned_is a b = not_below a b
