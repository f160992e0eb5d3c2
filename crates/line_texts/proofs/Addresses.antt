-- An address is read from its word, and from no other.
use Rattle.std.proofs.Common.{◌≡◌, ℕ, zero, suc, ◌^◌, ◌<◌, ◌≤◌, ◌&&◌, eqb, cond, List, Option, [], ◌∷◌, Some, None, Result, Ok, Err, refl, sym, ◌∙◌, ap, arith, inl, inr}
use Rattle.std.specs.Prelude.{MatchOption}
use Rattle.std.specs.Int.{w32, to_be_bytes, from_be_bytes}
use Rattle.std.specs.Option.{option_and_then}
use Rattle.std.specs.Result.{result_ok}
use Rattle.std.specs.Str.{bytes_eq}
use Rattle.std.proofs.lemmas.Bool.{eqb-true}
use Rattle.std.proofs.lemmas.Nat.{from_be_bytes-to_be_bytes_4}
use Rattle.std.proofs.lemmas.Option.{none-some, same_Some}
use Rattle.hex.specs.Hex.{IsBytes, decode_sized}
use Rattle.hex.specs.declared.FromHexError.{FromHexError}
use Rattle.hex.proofs.HexLemmas.{decode_sized-encode_lower, decode_sized-ok, decode_sized-twice, decode_of-ok}
use Rattle.line_texts.specs.Numbers.{hex_word, address_word, IsAddress}
use Rattle.line_texts.specs.Parsers.{spelled, address_of}
use Rattle.line_texts.proofs.Steps.{which, both, same_bytes, itself}

are_bytes : (n : ℕ) → IsBytes (to_be_bytes w32 n)
are_bytes n zero = omega arith
are_bytes n (suc zero) = omega arith
are_bytes n (suc (suc zero)) = omega arith
are_bytes n (suc (suc (suc zero))) = omega arith
are_bytes n (suc (suc (suc (suc i)))) = omega arith

four_small : (bytes : List ℕ) → IsBytes bytes → from_be_bytes w32 bytes < 2 ^ 32
four_small bytes h = omega (arith, h 0, h 1, h 2, h 3)

spelled_again : (a : ℕ) → a < 2 ^ 32 → spelled (hex_word a) (to_be_bytes w32 a) ≡ Some a
spelled_again a small =
    ap (λ n. cond (bytes_eq (hex_word n) (hex_word a)) (Some n) None) (from_be_bytes-to_be_bytes_4 a small)
    ∙ ap (λ b. cond b (Some a) None) (itself (hex_word a))

pub address_read : (a : ℕ) → a ≤ 0xFFFFFFFF → address_of (address_word a) ≡ Some a
unfolding address_of
address_read a small =
    ap (λ r. option_and_then (spelled (hex_word a)) (result_ok r)) (decode_sized-encode_lower (to_be_bytes w32 a) 4 refl (are_bytes a))
    ∙ spelled_again a (omega arith)

digits_are : (digits : List ℕ) (a : ℕ) (r : Result (List ℕ) FromHexError) → decode_sized digits 4 ≡ r → option_and_then (spelled digits) (result_ok r) ≡ Some a → (a ≤ 0xFFFFFFFF) × (digits ≡ hex_word a)
digits_are digits a (Err e) is found = absurd (none-some a found)
digits_are digits a (Ok bytes) is found = elim (which (bytes_eq (hex_word (from_be_bytes w32 bytes)) digits)) [
  | inl hit ↦
      let same : from_be_bytes w32 bytes ≡ a = same_Some (from_be_bytes w32 bytes) a (rw hit at found) in
      let eight = decode_sized-ok digits 4 bytes is in
      let decoded = decode_of-ok digits bytes (sym (decode_sized-twice digits 4 eight) ∙ is) in
      let small = four_small bytes decoded.3 in
      (omega (arith, small, same), sym (same_bytes _ digits hit) ∙ ap hex_word same)
  | inr miss ↦ absurd (none-some a (rw miss at found))
]

pub address_is : (text : List ℕ) (a : ℕ) → address_of text ≡ Some a → (a ≤ 0xFFFFFFFF) × (text ≡ address_word a)
unfolding address_of
address_is [] a e = absurd (none-some a e)
address_is (x ∷ []) a e = absurd (none-some a e)
address_is (x ∷ y ∷ digits) a e = elim (which (eqb x 48 && eqb y 120)) [
  | inl hit ↦
      let tests = both (eqb x 48) (eqb y 120) hit in
      let is = digits_are digits a (decode_sized digits 4) refl (rw hit at e) in
      (is.0, ap (λ (d : ℕ). d ∷ y ∷ digits) (eqb-true _ _ tests.0) ∙ ap (λ (d : ℕ). 48 ∷ d ∷ digits) (eqb-true _ _ tests.1) ∙ ap (λ (ds : List ℕ). 48 ∷ 120 ∷ ds) is.1)
  | inr miss ↦ absurd (none-some a (rw miss at e))
]

no_address : (text : List ℕ) → address_of text ≡ None → (a : ℕ) → IsAddress text a → ⊥
no_address text none a is = none-some a (sym none ∙ ap address_of is.1 ∙ address_read a is.0)

pub addressed : (text : List ℕ) (answer : Option ℕ) → answer ≡ address_of text → MatchOption answer ((a : ℕ) → IsAddress text a → ⊥) (λ a. IsAddress text a)
addressed text None is = no_address text (sym is)
addressed text (Some a) is = address_is text a (sym is)
