-- Numbers: in decimal digits without a leading zero, up to a limit; and words of 32 bits as `0x` and digits.
use Rattle.std.specs.Prelude.{◌≡◌, ◌≤◌, ◌++◌, ℕ, Bool, false, List, [], ◌∷◌, codes, decimal}
use Rattle.std.specs.Char.{is_ascii_digit}
use Rattle.std.specs.Int.{w32, to_be_bytes}
use Rattle.hex.specs.Hex.{encode_lower}

abbrev pub starts_with_digit : List ℕ → Bool
starts_with_digit [] = false
starts_with_digit (b ∷ bs) = is_ascii_digit b

-- n is at most limit, the bytes begin with its decimal digits, and no digit follows
pub record IsNumberAt (limit : ℕ) (bytes : List ℕ) (n : ℕ) (rest : List ℕ) : Type 0 where
  pub small : n ≤ limit
  pub text : bytes ≡ decimal n ++ rest
  pub whole : starts_with_digit rest ≡ false

-- a word of 32 bits as eight lower-case hexadecimal digits, and after `0x`
abbrev pub hex_word : ℕ → List ℕ
hex_word n = encode_lower (to_be_bytes w32 n)

abbrev pub address_word : ℕ → List ℕ
address_word n = codes "0x" ++ hex_word n

abbrev pub IsAddress : List ℕ → ℕ → Type 0
IsAddress text n = (n ≤ 0xFFFFFFFF) × (text ≡ address_word n)
