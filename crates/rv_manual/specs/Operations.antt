-- What the instructions compute of two operands: of two registers, or of a register and an immediate. Operands are
-- words. The answer is an integer, and the machine keeps its word. Source: RISC-V unprivileged manual, chapters "RV32I
-- Base Integer Instruction Set", section "Integer Computational Instructions", and "M" Extension for Integer
-- Multiplication and Division.
use Rattle.std.specs.Prelude.{ℕ, ◌*◌, ◌%◌, ◌^◌, ◌+◌, ◌==◌, Bool, not, ◌&&◌, cond, min, max, nat_lt, nat_le, int_lt, int_le, ℤ, pos, ◌+ℤ◌, ◌-ℤ◌, ◌*ℤ◌, neg_ℤ}
use Rattle.std.specs.Ordering.{int_eq}
use Rattle.rv_manual.specs.Integers.{signed, upper_word, rounded_down, rounded_towards_zero, one_if, bitwise}

-- sums and differences; overflow is ignored
abbrev pub add : ℕ → ℕ → ℤ
add a b = signed a +ℤ signed b

abbrev pub sub : ℕ → ℕ → ℤ
sub a b = signed a -ℤ signed b

-- 1 if the first operand is less than the second, and 0 otherwise: signed, and unsigned
abbrev pub slt : ℕ → ℕ → ℤ
slt a b = one_if (int_lt (signed a) (signed b))

abbrev pub sltu : ℕ → ℕ → ℤ
sltu a b = one_if (nat_lt a b)

-- bitwise: exclusive or, or, and
abbrev pub xor : ℕ → ℕ → ℤ
xor a b = bitwise (λ p q. (p + q) % 2) a b

abbrev pub or : ℕ → ℕ → ℤ
or a b = bitwise max a b

abbrev pub and : ℕ → ℕ → ℤ
and a b = bitwise min a b

-- shifts by the lowest five bits of the second operand: left, logical right, and arithmetic right
abbrev pub sll : ℕ → ℕ → ℤ
sll a b = pos (a * 2 ^ (b % 32))

abbrev pub srl : ℕ → ℕ → ℤ
srl a b = rounded_down (pos a) (2 ^ (b % 32))

abbrev pub sra : ℕ → ℕ → ℤ
sra a b = rounded_down (signed a) (2 ^ (b % 32))

-- products: the lower word, and the upper words of signed by signed, signed by unsigned, and unsigned by unsigned
abbrev pub mul : ℕ → ℕ → ℤ
mul a b = signed a *ℤ signed b

abbrev pub mulh : ℕ → ℕ → ℤ
mulh a b = pos (upper_word (signed a *ℤ signed b))

abbrev pub mulhsu : ℕ → ℕ → ℤ
mulhsu a b = pos (upper_word (signed a *ℤ pos b))

abbrev pub mulhu : ℕ → ℕ → ℤ
mulhu a b = pos (upper_word (pos a *ℤ pos b))

-- The table "Semantics for division by zero and division overflow", a column each. Division overflows if the least
-- number, -2 ^ 31, is divided by -1. A remainder is the dividend minus the product of divisor and quotient.
abbrev pub least : ℤ
least = neg_ℤ (pos (2 ^ 31))

abbrev pub overflows : ℤ → ℤ → Bool
overflows x y = int_eq x least && int_eq y (neg_ℤ (pos 1))

abbrev pub quotient : ℤ → ℤ → ℤ
quotient x y = cond (overflows x y) least (rounded_towards_zero x y)

abbrev pub remainder : ℤ → ℤ → ℤ
remainder x y = cond (overflows x y) (pos 0) (x -ℤ y *ℤ rounded_towards_zero x y)

abbrev pub divu : ℕ → ℕ → ℤ
divu a b = cond (b == 0) (pos (2 ^ 32) -ℤ pos 1) (rounded_towards_zero (pos a) (pos b))

abbrev pub remu : ℕ → ℕ → ℤ
remu a b = cond (b == 0) (pos a) (pos a -ℤ pos b *ℤ rounded_towards_zero (pos a) (pos b))

abbrev pub div : ℕ → ℕ → ℤ
div a b = cond (b == 0) (neg_ℤ (pos 1)) (quotient (signed a) (signed b))

abbrev pub rem : ℕ → ℕ → ℤ
rem a b = cond (b == 0) (signed a) (remainder (signed a) (signed b))

-- the conditions of branches
abbrev pub equal : ℕ → ℕ → Bool
equal a b = a == b

abbrev pub not_equal : ℕ → ℕ → Bool
not_equal a b = not (a == b)

abbrev pub less : ℕ → ℕ → Bool
less a b = int_lt (signed a) (signed b)

abbrev pub greater_or_equal : ℕ → ℕ → Bool
greater_or_equal a b = int_le (signed b) (signed a)

abbrev pub less_unsigned : ℕ → ℕ → Bool
less_unsigned a b = nat_lt a b

abbrev pub greater_or_equal_unsigned : ℕ → ℕ → Bool
greater_or_equal_unsigned a b = nat_le b a
