-- Words of 32 bits as numbers with a sign, and shifts.
use Rattle.std.specs.Prelude.{ℕ, ◌*◌, ◌/◌, ◌^◌, Bool, cond, ℤ, int_lt}
use Rattle.std.specs.Int.{w32, cast_signed, cast_unsigned, int_shr}
use Rattle.rv_pages.specs.Memory.{wrapped}

-- the integer of a word in two's complement
abbrev pub signed : ℕ → ℤ
signed a = cast_signed w32 a

-- whether a word is below another one, both in two's complement
abbrev pub signed_lt : ℕ → ℕ → Bool
signed_lt a b = int_lt (signed a) (signed b)

-- a word shifted by so many places: left, logical right, and arithmetic right
abbrev pub shifted_left : ℕ → ℕ → ℕ
shifted_left a places = wrapped (a * 2 ^ places)

abbrev pub shifted_right : ℕ → ℕ → ℕ
shifted_right a places = a / 2 ^ places

abbrev pub shifted_right_signed : ℕ → ℕ → ℕ
shifted_right_signed a places = cast_unsigned w32 (int_shr (signed a) places)

-- a truth value as a word
abbrev pub one_if : Bool → ℕ
one_if test = cond test 1 0
