-- All bytes are items and less than one more, in one way, however they are cut.
use Rattle.std.proofs.Common.{◌≡◌, ◌≢◌, ◌<◌, ◌≤◌, ◌⊎◌, ℕ, zero, suc, List, [], ◌∷◌, ◌++◌, length, take, drop, get_or, Result, Ok, Err, refl, sym, ap, subst, ◌∙◌, inl, inr, arith, append_assoc, length-append}
use Rattle.std.specs.Str.{bytes_eq}
use Rattle.std.proofs.Math.Seq.{get_or-append_seam}
use Rattle.std.proofs.lemmas.Bool.{cases_eq, cases_Bool, false≢true}
use Rattle.std.proofs.lemmas.List.{take_at, drop_at}
use Rattle.std.proofs.lemmas.List.Elements.{All-nil, All-cons}
use Rattle.std.proofs.lemmas.Slice.Eq.{bytes_eq-Decides}
use Rattle.hex.specs.Hex.{decode_of}
use Rattle.hex.specs.declared.error.FromHexError.{FromHexError}
use Rattle.gdb_wire.specs.Escapes.{unescaped}
use Rattle.gdb_wire.specs.Items.{checksum, IsChecksum, IsBody, IsFrame, Said, packet, damaged_packet, interrupt, resend, ack_or_noise, IsItem, IsPartial, IsItems}
use Rattle.gdb_wire.proofs.Frames.{one_end, none_partial}
use Rattle.gdb_wire.proofs.Items.{one_item, no_partial_item}

-- ---- one reading

rest_of : (a b x y : List ℕ) → a ≡ b → a ++ x ≡ b ++ y → x ≡ y
rest_of a b x y same e = sym (drop_at a x (length a) refl) ∙ (ap (drop (length a)) e ∙ drop_at b y (length a) (ap length (sym same)))

pub one_reading : (bytes : List ℕ) (a b : List Said) (x y : List ℕ) → IsItems a bytes x → IsItems b bytes y → (a ≡ b) × (x ≡ y)
one_reading bytes [] [] x y is is' = (refl, sym is.0 ∙ is'.0)
one_reading bytes [] (s ∷ b) x y is is' =
    let partial : IsPartial (is'.0 ++ is'.1) = subst IsPartial (sym is.0 ∙ is'.2) is.1 in
    absurd (no_partial_item s is'.0 is'.1 is'.3 partial)
one_reading bytes (s ∷ a) [] x y is is' =
    let partial : IsPartial (is.0 ++ is.1) = subst IsPartial (sym is'.0 ∙ is.2) is'.1 in
    absurd (no_partial_item s is.0 is.1 is.3 partial)
one_reading bytes (s ∷ a) (t ∷ b) x y is is' =
    let e : is.0 ++ is.1 ≡ is'.0 ++ is'.1 = sym is.2 ∙ is'.2 in
    let first = one_item s t is.0 is'.0 is.1 is'.1 is.3 is'.3 e in
    let backs = rest_of is.0 is'.0 is.1 is'.1 first.0 e in
    let others = one_reading is'.1 a b x y (subst (λ l. IsItems a l x) backs is.4) is'.4 in
    (ap (λ u. u ∷ a) first.1 ∙ ap (λ l. t ∷ l) others.0, others.1)

-- ---- pieces

pub pieces_join : (first second rest end : List ℕ) (a b : List Said) → IsItems a first rest → IsItems b (rest ++ second) end →
    IsItems (a ++ b) (first ++ second) end
pieces_join first second rest end [] b is later = subst (λ l. IsItems b (l ++ second) end) (sym is.0) later
pieces_join first second rest end (s ∷ a) b is later =
    (is.0, is.1 ++ second, ap (λ l. l ++ second) is.2 ∙ append_assoc is.0 is.1 second, is.3, pieces_join is.1 second rest end a b is.4 later)

-- ---- some reading

same_or_not : (a b : List ℕ) → (a ≡ b) ⊎ (a ≡ b → ⊥)
same_or_not a b = elim (cases_Bool (bytes_eq a b)) [
  | inl hit ↦ inl ((bytes_eq-Decides a b).0 hit)
  | inr miss ↦ inr (λ same. false≢true (sym miss ∙ (bytes_eq-Decides a b).1 same))
]

same_Ok : (a b : List ℕ) → ◌≡◌ {A = Result (List ℕ) FromHexError} (Ok a) (Ok b) → a ≡ b
same_Ok a b e = cc

-- an item at the front
record Front (bytes : List ℕ) : Type 0 where
  said : Said
  item : List ℕ
  back : List ℕ
  whole : bytes ≡ item ++ back
  is : IsItem said item
  some : 0 < length item

-- what stands before the first # and behind it
record Ended (rest : List ℕ) : Type 0 where
  body : List ℕ
  after : List ℕ
  is_body : IsBody body
  whole : rest ≡ body ++ 35 ∷ after

ended_or_not : (rest : List ℕ) → Ended rest ⊎ IsBody rest
ended_or_not [] = inr (All-nil (λ b. b ≢ 35))
ended_or_not (b ∷ rest) = elim (cases_eq b 35) [
  | inl hash ↦ inl (record { body = []; after = rest; is_body = All-nil (λ x. x ≢ 35); whole = ap (λ x. x ∷ rest) hash })
  | inr differs ↦ elim (ended_or_not rest) [
    | inl e ↦ inl (record { body = b ∷ e.body; after = e.after; is_body = All-cons (λ x. x ≢ 35) b e.body differs e.is_body; whole = ap (λ l. b ∷ l) e.whole })
    | inr none ↦ inr (All-cons (λ x. x ≢ 35) b rest differs none)
  ]
]

-- a body that has ended with too few bytes behind it
few_behind : (rest : List ℕ) (e : Ended rest) → length e.after < 2 → IsPartial (36 ∷ rest)
few_behind rest e few = (
  refl,
  λ body digits is whole.
      let k = length e.body in
      let long = ap length e.whole ∙ length-append e.body (35 ∷ e.after) in
      let front : take k rest ≡ e.body = ap (take k) e.whole ∙ take_at e.body (35 ∷ e.after) k refl in
      let hash = ap (λ l. get_or l k 0) e.whole ∙ get_or-append_seam e.body 35 e.after 0 in
      let same = one_end rest body digits k (subst IsBody (sym front) e.is_body) (omega (arith, long)) hash is whole in
      let all = ap length whole ∙ length-append body (35 ∷ digits) in
      omega (arith, long, all, same, few),
)

-- a body that has ended with two bytes behind it
framed : (rest : List ℕ) (e : Ended rest) (c d : ℕ) (back : List ℕ) → e.after ≡ c ∷ d ∷ back → Front (36 ∷ rest)
framed rest e c d back is =
    let digits : List ℕ = c ∷ d ∷ [] in
    let frame : IsFrame e.body digits (36 ∷ (e.body ++ 35 ∷ digits)) = record { is_body = e.is_body; two = refl; whole = refl } in
    let item : List ℕ = 36 ∷ (e.body ++ 35 ∷ digits) in
    let whole : 36 ∷ rest ≡ item ++ back =
    ap (λ l. 36 ∷ l) (e.whole ∙ (ap (λ l. e.body ++ 35 ∷ l) is ∙ sym (append_assoc e.body (35 ∷ digits) back))) in
    let right : IsChecksum e.body digits → Front (36 ∷ rest) =
    λ sum. record { said = packet (unescaped e.body); item = item; back = back; whole = whole; is = (e.body, digits, frame, sum, refl); some = omega arith } in
    let wrong : (IsChecksum e.body digits → ⊥) → Front (36 ∷ rest) =
    λ differs. record { said = damaged_packet; item = item; back = back; whole = whole; is = (e.body, digits, frame, differs); some = omega arith } in
    let P : Result (List ℕ) FromHexError → Type 0 = λ r. decode_of digits ≡ r → Front (36 ∷ rest) in
    let go : (r : Result (List ℕ) FromHexError) → P r = λ r. elim r as P [
      | Err fault ↦ λ read. wrong (λ sum. let bad = sym read ∙ sum in cc)
      | Ok bytes ↦ λ read. elim (same_or_not bytes (checksum e.body ∷ [])) [
        | inl same ↦ right (read ∙ ap Ok same)
        | inr differs ↦ wrong (λ sum. differs (same_Ok bytes (checksum e.body ∷ []) (sym read ∙ sum)))
      ]
    ] in
    go (decode_of digits) refl

behind_hash : (rest : List ℕ) (e : Ended rest) (after : List ℕ) → e.after ≡ after → Front (36 ∷ rest) ⊎ IsPartial (36 ∷ rest)
behind_hash rest e [] is = inr (few_behind rest e (omega (arith, ap length is)))
behind_hash rest e (c ∷ []) is = inr (few_behind rest e (omega (arith, ap length is)))
behind_hash rest e (c ∷ d ∷ back) is = inl (framed rest e c d back is)

packet_or_partial : (rest : List ℕ) → Front (36 ∷ rest) ⊎ IsPartial (36 ∷ rest)
packet_or_partial rest = elim (ended_or_not rest) [
  | inr none ↦ inr (none_partial rest none)
  | inl e ↦ behind_hash rest e e.after refl
]

-- an item of one byte
alone : (b : ℕ) (rest : List ℕ) → b ≢ 36 → Front (b ∷ rest)
alone b rest other = elim (cases_eq b 3) [
  | inl is ↦ record { said = interrupt; item = b ∷ []; back = rest; whole = refl; is = ap (λ x. x ∷ []) is; some = omega arith }
  | inr differs ↦ elim (cases_eq b 45) [
    | inl is ↦ record { said = resend; item = b ∷ []; back = rest; whole = refl; is = ap (λ x. x ∷ []) is; some = omega arith }
    | inr none ↦ record { said = ack_or_noise; item = b ∷ []; back = rest; whole = refl; is = (b, other, differs, none, refl); some = omega arith }
  ]
]

front_or_partial : (bytes : List ℕ) → Front bytes ⊎ IsPartial bytes
front_or_partial [] = inr tt
front_or_partial (b ∷ rest) = elim (cases_eq b 36) [
  | inl dollar ↦ subst (λ x. Front (x ∷ rest) ⊎ IsPartial (x ∷ rest)) (sym dollar) (packet_or_partial rest)
  | inr other ↦ inl (alone b rest other)
]

-- so many bytes at most are read
reading : (n : ℕ) (bytes : List ℕ) → length bytes ≤ n → (items : List Said) × ((rest : List ℕ) × IsItems items bytes rest)
reading zero [] few = ([], ([], (refl, tt)))
reading zero (b ∷ rest) few = absurd (omega (arith, few))
reading (suc n) bytes few = elim (front_or_partial bytes) [
  | inr partial ↦ ([], (bytes, (refl, partial)))
  | inl f ↦
      let long = ap length f.whole ∙ length-append f.item f.back in
      let some = f.some in
      let others = reading n f.back (omega (arith, long, some, few)) in
      (f.said ∷ others.0, (others.1.0, (f.item, f.back, f.whole, f.is, others.1.1)))
]

pub some_reading : (bytes : List ℕ) → (items : List Said) × ((rest : List ℕ) × IsItems items bytes rest)
some_reading bytes = reading (length bytes) bytes (omega arith)
