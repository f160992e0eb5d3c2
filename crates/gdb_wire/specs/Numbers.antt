-- Numbers in the text of a packet: GDB manual, E.1 Overview ("all numbers are represented in HEX").
use Rattle.std.specs.Prelude.{◌≡◌, ◌≤◌, ◌<◌, ◌+◌, ◌*◌, ◌^◌, ℕ, List, [], ◌∷◌, ◌++◌, length, unwrap_or, codes}
use Rattle.std.specs.List.{AllPass}
use Rattle.hex.specs.Hex.{hex_digit_value, is_hex_digit}

-- the value of hexadecimal digits; the last one counts ones
abbrev pub hex_value : List ℕ → ℕ
hex_value [] = 0
hex_value (c ∷ cs) = unwrap_or (hex_digit_value c) 0 * 16 ^ length cs + hex_value cs

-- The digits spell a number: 1 to 8 hexadecimal digits, in either case. So it has at most 32 bits. gdb writes no
-- leading zeros, but they are accepted.
pub record IsNumber (digits : List ℕ) (n : ℕ) : Type 0 where
  pub some : 0 < length digits
  pub few : length digits ≤ 8
  pub hexadecimal : AllPass is_hex_digit digits
  pub value : n ≡ hex_value digits

-- two numbers with a comma between them
pub record AreNumbers (text : List ℕ) (a b : ℕ) : Type 0 where
  pub first : List ℕ
  pub second : List ℕ
  pub spelled : text ≡ first ++ (codes "," ++ second)
  pub first_is : IsNumber first a
  pub second_is : IsNumber second b
