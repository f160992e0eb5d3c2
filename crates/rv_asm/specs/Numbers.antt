-- Numbers, registers and names, by their spelling. A number is decimal digits without a leading zero, after a `-` if it
-- is negative. Or it is `0x` and 1 to 8 lower-case hexadecimal digits. A number above 32 bits is none, since no range
-- holds it. The registers are `x0` to `x31`, without the names of the calling convention. Source: RISC-V unprivileged
-- manual, chapter "RV32I Base Integer Instruction Set", section "Programmers' Model for Base Integer ISA".
use Rattle.std.specs.Prelude.{ℕ, ◌+◌, ◌-◌, ◌*◌, ◌^◌, ◌==◌, ◌&&◌, ◌||◌, Bool, false, List, [], ◌∷◌, length, Option, Some, None, nat_lt, nat_le, not, option_map, if◌then◌else◌}
use Rattle.std.specs.Char.{is_ascii_digit, is_ascii_alphabetic, is_ascii_alphanumeric}
use Rattle.std.specs.List.{list_all}
use Rattle.line_texts.specs.Parsers as texts
use Rattle.rv_asm.specs.declared.number.Signed.{Signed}
use Rattle.rv_asm.specs.declared.number.Signed.TheVariants.{Plus, Minus}

-- the value of a digit or a lower-case letter up to `f`; 16 for any other byte
abbrev pub digit : ℕ → ℕ
digit c = if is_ascii_digit c then c - 48 else (if nat_le 97 c && nat_le c 102 then c - 87 else 16)

-- The number of n followed by hexadecimal digits. None for another byte, or above 32 bits.
unfoldable pub value_behind : ℕ → List ℕ → Option ℕ
value_behind n [] = Some n
value_behind n (c ∷ cs) =
    if nat_lt (digit c) 16 && nat_lt (n * 16 + digit c) (2 ^ 32) then value_behind (n * 16 + digit c) cs else None

-- decimal digits without a leading zero, up to 32 bits
abbrev pub decimal_of : List ℕ → Option ℕ
decimal_of text = texts.number_of 0xFFFFFFFF text

-- 1 to 8 hexadecimal digits
unfoldable pub hex_of : List ℕ → Option ℕ
hex_of digits = if nat_le 1 (length digits) && nat_le (length digits) 8 then value_behind 0 digits else None

-- the number after a `-`; `-0` is no number
abbrev pub negative : Option ℕ → Option Signed
negative None = None
negative (Some n) = if n == 0 then None else Some (Minus n)

-- the number that a text spells: after `-`, after `0x`, or without a sign
unfoldable pub number_of : List ℕ → Option Signed
number_of [] = None
number_of (c ∷ []) = option_map Plus (decimal_of (c ∷ []))
number_of (c ∷ d ∷ cs) =
    if c == 45 then negative (decimal_of (d ∷ cs))
    else (if c == 48 && d == 120 then option_map Plus (hex_of cs)
    else option_map Plus (decimal_of (c ∷ d ∷ cs)))

-- the register that a text spells: `x` and a number below 32
abbrev pub below_32 : Option ℕ → Option ℕ
below_32 None = None
below_32 (Some n) = if nat_lt n 32 then Some n else None

unfoldable pub register_of : List ℕ → Option ℕ
register_of [] = None
register_of (c ∷ cs) = if c == 120 then below_32 (decimal_of cs) else None

-- a token begins as a number does: with a digit or `-`; as a register does: with a letter
abbrev pub begins_number : List ℕ → Bool
begins_number [] = false
begins_number (c ∷ cs) = is_ascii_digit c || c == 45

abbrev pub begins_letter : List ℕ → Bool
begins_letter [] = false
begins_letter (c ∷ cs) = is_ascii_alphabetic c

-- a name: 1 to 32 letters, digits and `_`, and no digit first
abbrev pub is_name_byte : ℕ → Bool
is_name_byte b = is_ascii_alphanumeric b || b == 95

unfoldable pub is_name : List ℕ → Bool
is_name [] = false
is_name (c ∷ cs) = not (is_ascii_digit c) && nat_le (length (c ∷ cs)) 32 && list_all is_name_byte (c ∷ cs)
