-- What readers of texts compute, as functions on lists: something at the front of bytes, and the bytes after it.
use Rattle.std.specs.Prelude.{◌≡◌, ◌+◌, ◌-◌, ◌*◌, ◌==◌, ◌&&◌, ℕ, Bool, List, [], ◌∷◌, length, Option, Some, None, Result, Ok, Err, nat_lt, if◌then◌else◌}
use Rattle.std.specs.Char.{is_ascii_digit}
use Rattle.std.specs.Int.{w32, from_be_bytes}
use Rattle.std.specs.List.{prefix_len, position_or_len}
use Rattle.std.specs.Option.{option_and_then}
use Rattle.std.specs.Result.{result_ok}
use Rattle.std.specs.Str.{bytes_eq}
use Rattle.hex.specs.Hex.{decode_sized}
use Rattle.line_texts.specs.declared.fault.Fault.{Fault}
use Rattle.line_texts.specs.declared.fault.Fault.TheVariants.{At, Memory}
use Rattle.line_texts.specs.Tokens.{is_blank}
use Rattle.line_texts.specs.Numbers.{starts_with_digit, hex_word}

-- ---- what a function's result says of what is read

infixl 10 ◌>>=◌
abbrev pub ◌>>=◌ : {A B F : Type 0} → Result A F → (A → Result B F) → Result B F
(Ok x) >>= f = f x
(Err e) >>= f = Err e

-- a function's result, seen through `view`, is what is read
abbrev pub Gives : {X Y F : Type 0} → (X → Y) → Result X F → Result Y F → Type 0
Gives view (Ok x) read = read ≡ Ok (view x)
Gives view (Err e) read = read ≡ Err e

abbrev pub GivesSome : {X Y : Type 0} → (X → Y) → Option X → Option Y → Type 0
GivesSome view (Some x) read = read ≡ Some (view x)
GivesSome view None read = read ≡ None

-- the fault, unless memory ran out
abbrev pub Fails : {Y : Type 0} → Fault → Result Y Fault → Type 0
Fails Memory read = Unit {0}
Fails (At rule line column) read = read ≡ Err (At rule line column)

abbrev pub GivesUnlessMemory : {X Y : Type 0} → (X → Y) → Result X Fault → Result Y Fault → Type 0
GivesUnlessMemory view (Ok x) read = read ≡ Ok (view x)
GivesUnlessMemory view (Err e) read = Fails e read

-- ---- lines and tokens

-- how many bytes come before this one, or how many there are
abbrev pub length_before : ℕ → List ℕ → ℕ
length_before byte bytes = position_or_len (λ b. b == byte) bytes

-- the bytes from the first one on that isn't a blank
unfoldable pub without_blanks : List ℕ → List ℕ
without_blanks [] = []
without_blanks (b ∷ bs) = if is_blank b then without_blanks bs else b ∷ bs

-- the bytes after this one, where it comes first
abbrev pub past : ℕ → List ℕ → Option (List ℕ)
past byte [] = None
past byte (b ∷ bs) = if b == byte then Some bs else None

-- how many bytes at the front are of one run, and of one token
abbrev pub run_length : (ℕ → Bool) → List ℕ → ℕ
run_length in_run bytes = prefix_len in_run bytes

abbrev pub token_length : (ℕ → Bool) → List ℕ → ℕ
token_length in_run [] = 0
token_length in_run (b ∷ bs) = if in_run b then run_length in_run (b ∷ bs) else 1

-- ---- decimal numbers

-- The number made of n and the digits at the front, and the bytes after them. None above the limit. A digit's byte is
-- 48 or more.
unfoldable pub digits_at : ℕ → ℕ → List ℕ → Option (ℕ × List ℕ)
digits_at limit n [] = Some (n, [])
digits_at limit n (c ∷ cs) =
    if is_ascii_digit c
    then (if nat_lt limit (n * 10 + (c - 48)) then None else digits_at limit (n * 10 + (c - 48)) cs)
    else Some (n, c ∷ cs)

-- a number without a leading zero
unfoldable pub number_at : ℕ → List ℕ → Option (ℕ × List ℕ)
number_at limit [] = None
number_at limit (c ∷ cs) =
    if c == 48
    then (if starts_with_digit cs then None else Some (0, cs))
    else (if is_ascii_digit c then digits_at limit 0 (c ∷ cs) else None)

-- the number that a whole text is
abbrev pub whole : Option (ℕ × List ℕ) → Option ℕ
whole None = None
whole (Some x) = if length x.1 == 0 then Some x.0 else None

unfoldable pub number_of : ℕ → List ℕ → Option ℕ
number_of limit text = whole (number_at limit text)

-- ---- words of 32 bits

-- the number of eight digits, which are the spelling of four bytes
abbrev pub spelled : List ℕ → List ℕ → Option ℕ
spelled digits bytes = if bytes_eq (hex_word (from_be_bytes w32 bytes)) digits then Some (from_be_bytes w32 bytes) else None

abbrev pub address_in : List ℕ → Option ℕ
address_in digits = option_and_then (spelled digits) (result_ok (decode_sized digits 4))

-- `0x`, and eight digits
unfoldable pub address_of : List ℕ → Option ℕ
address_of [] = None
address_of (a ∷ []) = None
address_of (a ∷ b ∷ digits) = if a == 48 && b == 120 then address_in digits else None
