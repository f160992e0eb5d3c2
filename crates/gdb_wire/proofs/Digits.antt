-- Hexadecimal digits of bytes, one byte after the other.
use Rattle.std.proofs.Common.{◌/◌, ◌%◌, ◌≡◌, ◌+◌, ◌<◌, ℕ, List, [], ◌∷◌, ◌++◌, length, take, get_or, ap, ◌∙◌, refl}
use Rattle.std.proofs.lemmas.List.{take_more}
use Rattle.std.specs.Prelude.{slice_index}
use Rattle.hex.specs.Hex.{encode_with, encode_lower, lower_digits}

encode_with-append : (t a b : List ℕ) → encode_with t (a ++ b) ≡ encode_with t a ++ encode_with t b
unfolding encode_with
encode_with-append t [] b = refl
encode_with-append t (x ∷ a) b = ap (λ l. slice_index t (x / 16) ∷ slice_index t (x % 16) ∷ l) (encode_with-append t a b)

pub encode_more : (xs : List ℕ) (i : ℕ) → i < length xs → encode_lower (take (i + 1) xs) ≡ encode_lower (take i xs) ++ encode_lower (get_or xs i 0 ∷ [])
encode_more xs i l = ap encode_lower (take_more xs i 0 l) ∙ encode_with-append lower_digits (take i xs) (get_or xs i 0 ∷ [])
