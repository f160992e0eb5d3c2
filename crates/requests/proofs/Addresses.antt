-- An address is read from its word, and from no other, and so is a digest.
use Rattle.std.proofs.Common.{◌≡◌, ℕ, ◌^◌, ◌<◌, cond, List, length, Err, Some, None, refl, sym, ◌∙◌, ap, subst, arith}
use Rattle.std.specs.Prelude.{Ok, Result}
use Rattle.std.specs.Result.{result_ok}
use Rattle.std.specs.Str.{bytes_eq}
use Rattle.std.proofs.lemmas.Option.{same_Some}
use Rattle.std.proofs.lemmas.Slice.Eq.{bytes_eq-Decides}
use Rattle.hex.specs.Hex.{encode_lower, decode_sized}
use Rattle.hex.proofs.HexLemmas.{decode_sized-encode_lower, decode_sized-ok, decode_sized-twice, decode_of-ok}
use Rattle.line_texts.proofs.Addresses as texts
use Rattle.requests.specs.ParserSteps.{◌>>=◌}
use Rattle.requests.specs.Operands.{IsDigest}
use Rattle.line_texts.specs.Numbers.{address_word}
use Rattle.requests.specs.Forms.{address_of, digest_of}
use Rattle.requests.proofs.Steps.{bind_some}
use Rattle.line_texts.proofs.Steps.{passed_then}

pub address_again : (a : ℕ) → a < 2 ^ 32 → address_of (address_word a) ≡ Some a
address_again a small = texts.address_read a (omega arith)

pub address_read : (word : List ℕ) (a : ℕ) → address_of word ≡ Some a → (word ≡ address_word a) × (a < 2 ^ 32)
address_read word a e =
    let is = texts.address_is word a e in
    (is.1, omega (arith, is.0))

-- ---- digests

result_some : {A E : Type 0} (r : Result A E) (x : A) → result_ok r ≡ Some x → r ≡ Ok x
result_some (Ok y) x e = ap (λ z. Ok z) (same_Some y x e)
result_some (Err e) x f = absurd cc

pub digest_again : (bytes : List ℕ) → IsDigest bytes → digest_of (encode_lower bytes) ≡ Some bytes
unfolding digest_of
digest_again bytes h =
    ap (λ r. result_ok r >>= λ got. cond (bytes_eq (encode_lower got) (encode_lower bytes)) (Some got) None) (decode_sized-encode_lower bytes 32 h.0 h.1)
    ∙ ap (λ b. cond b (Some bytes) None) ((bytes_eq-Decides (encode_lower bytes) (encode_lower bytes)).1 refl)

pub digest_read : (word bytes : List ℕ) → digest_of word ≡ Some bytes → (word ≡ encode_lower bytes) × IsDigest bytes
unfolding digest_of
digest_read word bytes e =
    let got = bind_some (result_ok (decode_sized word 32)) _ bytes e in
    let spelled = passed_then (bytes_eq (encode_lower got.0) word) _ bytes got.2 in
    let same = same_Some got.0 bytes spelled.1 in
    let is = result_some (decode_sized word 32) got.0 got.1 in
    let long = decode_sized-ok word 32 got.0 is in
    let decoded = decode_of-ok word got.0 (sym (decode_sized-twice word 32 long) ∙ is) in
    let text = (bytes_eq-Decides (encode_lower got.0) word).0 spelled.0 in
    let half = decoded.2 in
    let size : length got.0 ≡ 32 = omega (arith, long, half) in
    (sym text ∙ ap encode_lower same, subst IsDigest same (size, decoded.3))
