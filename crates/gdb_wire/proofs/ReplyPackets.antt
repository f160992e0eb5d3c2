-- The packet of a reply is one item, and says the reply.
use Rattle.std.proofs.Common.{◌≡◌, ◌≢◌, ◌<◌, ℕ, zero, suc, Bool, true, false, List, [], ◌∷◌, ◌++◌, length, get_or, refl, sym, ap, subst, ◌∙◌, inr, arith, bit_xor}
use Rattle.std.specs.List.{flat_map}
use Rattle.std.specs.Int.Bits.{xor_assoc, xor_zero_r, xor_self}
use Rattle.std.proofs.lemmas.Bool.{false≢true}
use Rattle.std.proofs.lemmas.List.Elements.{All-nil, All-cons, All-append}
use Rattle.hex.specs.Hex.{encode_with, encode_lower}
use Rattle.hex.proofs.HexLemmas.{decode_of-encode_lower}
use Rattle.gdb_wire.specs.Escapes.{unescaped, is_special, escaped_byte}
use Rattle.gdb_wire.specs.Items.{checksum, IsBody, packet, IsItem}
use Rattle.gdb_wire.specs.Replies.{reply_packet}
use Rattle.gdb_wire.proofs.UnescapedBodies.{plain_cons, turned_cons}

-- ---- escapes

twice : (b : ℕ) → bit_xor (bit_xor b 32) 32 ≡ b
twice b = xor_assoc b 32 32 ∙ (ap (bit_xor b) (xor_self 32) ∙ xor_zero_r b)

not_brace : (b : ℕ) → is_special b ≡ false → b ≢ 125
not_brace b e h = let bad : true ≡ false = subst (λ x. is_special x ≡ false) h e in false≢true (sym bad)

escape_step : (b : ℕ) (rest : List ℕ) (t : Bool) → is_special b ≡ t → unescaped (escaped_byte b ++ rest) ≡ b ∷ unescaped rest
escape_step b rest true e = rw e (turned_cons 125 (bit_xor b 32) rest refl ∙ ap (λ x. x ∷ unescaped rest) (twice b))
escape_step b rest false e = rw e (plain_cons b rest (inr (not_brace b e)))

pub escapes_come_back : (text : List ℕ) → unescaped (flat_map escaped_byte text) ≡ text
escapes_come_back [] = refl
escapes_come_back (b ∷ rest) = escape_step b (flat_map escaped_byte rest) (is_special b) refl ∙ ap (λ l. b ∷ l) (escapes_come_back rest)

-- ---- no # is left

not_hash : (b : ℕ) → is_special b ≡ false → b ≢ 35
not_hash b e h = let bad : true ≡ false = subst (λ x. is_special x ≡ false) h e in false≢true (sym bad)

turned_not_hash : (b : ℕ) → is_special b ≡ true → bit_xor b 32 ≢ 35
turned_not_hash b special e =
    let is : b ≡ 3 = sym (twice b) ∙ ap (λ x. bit_xor x 32) e in
    let bad : false ≡ true = subst (λ x. is_special x ≡ true) is special in
    false≢true bad

byte_is_body : (b : ℕ) (t : Bool) → is_special b ≡ t → IsBody (escaped_byte b)
byte_is_body b true e =
    let turned = All-cons (λ x. x ≢ 35) (bit_xor b 32) [] (turned_not_hash b e) (All-nil (λ x. x ≢ 35)) in
    rw e (All-cons (λ x. x ≢ 35) 125 (bit_xor b 32 ∷ []) (omega arith) turned)
byte_is_body b false e = rw e (All-cons (λ x. x ≢ 35) b [] (not_hash b e) (All-nil (λ x. x ≢ 35)))

escaped_is_body : (text : List ℕ) → IsBody (flat_map escaped_byte text)
escaped_is_body [] = All-nil (λ x. x ≢ 35)
escaped_is_body (b ∷ rest) = All-append (λ x. x ≢ 35) (escaped_byte b) (flat_map escaped_byte rest) (byte_is_body b (is_special b) refl) (escaped_is_body rest)

-- ---- the packet

two_digits : (b : ℕ) → length (encode_lower (b ∷ [])) ≡ 2
unfolding encode_with
two_digits b = refl

one_byte : (n : ℕ) → n < 256 → (i : ℕ) → get_or (n ∷ []) i 0 < 256
one_byte n small zero = small
one_byte n small (suc i) = omega arith

pub replies_are_items : (reply : List ℕ) → IsItem (packet reply) (reply_packet reply)
replies_are_items reply =
    let body = flat_map escaped_byte reply in
    let digits = encode_lower (checksum body ∷ []) in (
      body,
      digits,
      record { is_body = escaped_is_body reply; two = two_digits (checksum body); whole = refl },
      decode_of-encode_lower (checksum body ∷ []) (one_byte (checksum body) (omega arith)),
      sym (escapes_come_back reply),
    )
