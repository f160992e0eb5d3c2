-- One item at most is at the front of bytes, and bytes are items and less than one more.
use Rattle.std.proofs.Common.{◌≡◌, ◌≢◌, ◌⊎◌, ℕ, List, [], ◌∷◌, ◌++◌, length, take, drop, get_or, refl, sym, ap, subst, ◌∙◌, inl, inr, arith, append_assoc, length-append}
use Rattle.std.proofs.Math.Seq.{get_or-append_seam}
use Rattle.std.proofs.lemmas.List.{take_at, drop_at}
use Rattle.gdb_wire.specs.Escapes.{unescaped}
use Rattle.gdb_wire.specs.Items.{IsChecksum, IsBody, IsFrame, Said, packet, damaged_packet, interrupt, resend, ack_or_noise, IsItem, IsPartial}
use Rattle.gdb_wire.proofs.Frames.{one_end}

-- ---- what an item is made of

-- which packet it is
abbrev Kind : Said → List ℕ → List ℕ → Type 0
Kind (packet text) body digits = IsChecksum body digits × (text ≡ unescaped body)
Kind damaged_packet body digits = IsChecksum body digits → ⊥
Kind _ body digits = ⊥

-- a packet by its parts
record Framed (said : Said) (bytes : List ℕ) : Type 0 where
  body : List ℕ
  digits : List ℕ
  frame : IsFrame body digits bytes
  kind : Kind said body digits

-- which kind a byte is of
abbrev AloneKind : Said → ℕ → Type 0
AloneKind interrupt b = b ≡ 3
AloneKind resend b = b ≡ 45
AloneKind ack_or_noise b = (b ≢ 3) × (b ≢ 45)
AloneKind _ b = ⊥

-- an item of one byte
record Alone (said : Said) (bytes : List ℕ) : Type 0 where
  byte : ℕ
  other : byte ≢ 36
  whole : bytes ≡ byte ∷ []
  kind : AloneKind said byte

shape : (said : Said) (bytes : List ℕ) → IsItem said bytes → Framed said bytes ⊎ Alone said bytes
shape (packet text) bytes is = inl (record { body = is.0; digits = is.1; frame = is.2; kind = (is.3, is.4) })
shape damaged_packet bytes is = inl (record { body = is.0; digits = is.1; frame = is.2; kind = is.3 })
shape interrupt bytes is = inr (record { byte = 3; other = omega arith; whole = is; kind = refl })
shape resend bytes is = inr (record { byte = 45; other = omega arith; whole = is; kind = refl })
shape ack_or_noise bytes is = inr (record { byte = is.0; other = is.1; whole = is.4; kind = (is.2, is.3) })

one_frame_kind : (a b : Said) (body digits : List ℕ) → Kind a body digits → Kind b body digits → a ≡ b
one_frame_kind (packet s) (packet t) body digits k l = ap packet (k.1 ∙ sym l.1)
one_frame_kind (packet s) damaged_packet body digits k l = absurd (l k.0)
one_frame_kind damaged_packet (packet t) body digits k l = absurd (k l.0)
one_frame_kind damaged_packet damaged_packet body digits k l = refl
one_frame_kind (packet s) interrupt body digits k l = absurd l
one_frame_kind (packet s) resend body digits k l = absurd l
one_frame_kind (packet s) ack_or_noise body digits k l = absurd l
one_frame_kind damaged_packet interrupt body digits k l = absurd l
one_frame_kind damaged_packet resend body digits k l = absurd l
one_frame_kind damaged_packet ack_or_noise body digits k l = absurd l
one_frame_kind interrupt b body digits k l = absurd k
one_frame_kind resend b body digits k l = absurd k
one_frame_kind ack_or_noise b body digits k l = absurd k

one_byte_kind : (a b : Said) (byte : ℕ) → AloneKind a byte → AloneKind b byte → a ≡ b
one_byte_kind interrupt interrupt byte k l = refl
one_byte_kind interrupt resend byte k l = absurd (omega (arith, k, l))
one_byte_kind interrupt ack_or_noise byte k l = absurd (l.0 k)
one_byte_kind resend interrupt byte k l = absurd (omega (arith, k, l))
one_byte_kind resend resend byte k l = refl
one_byte_kind resend ack_or_noise byte k l = absurd (l.1 k)
one_byte_kind ack_or_noise interrupt byte k l = absurd (k.0 l)
one_byte_kind ack_or_noise resend byte k l = absurd (k.1 l)
one_byte_kind ack_or_noise ack_or_noise byte k l = refl
one_byte_kind interrupt (packet t) byte k l = absurd l
one_byte_kind interrupt damaged_packet byte k l = absurd l
one_byte_kind resend (packet t) byte k l = absurd l
one_byte_kind resend damaged_packet byte k l = absurd l
one_byte_kind ack_or_noise (packet t) byte k l = absurd l
one_byte_kind ack_or_noise damaged_packet byte k l = absurd l
one_byte_kind (packet s) b byte k l = absurd k
one_byte_kind damaged_packet b byte k l = absurd k

-- ---- one item

same_body : (body d x body' d' y : List ℕ) → IsBody body → IsBody body' → length d ≡ 2 → length d' ≡ 2 →
    body ++ 35 ∷ (d ++ x) ≡ body' ++ 35 ∷ (d' ++ y) → (body ≡ body') × (d ≡ d')
same_body body d x body' d' y is is' two two' e =
    let k = length body in
    let rest = body ++ 35 ∷ (d ++ x) in
    let front : take k rest ≡ body = take_at body (35 ∷ (d ++ x)) k refl in
    let long = length-append body (35 ∷ (d ++ x)) in
    let same = one_end rest body' (d' ++ y) k (subst IsBody (sym front) is) (omega (arith, long)) (get_or-append_seam body 35 (d ++ x) 0) is' e in
    let bodies : body ≡ body' = sym front ∙ (ap (take k) e ∙ take_at body' (35 ∷ (d' ++ y)) k same) in
    let backs : 35 ∷ (d ++ x) ≡ 35 ∷ (d' ++ y) = sym (drop_at body (35 ∷ (d ++ x)) k refl) ∙ (ap (drop k) e ∙ drop_at body' (35 ∷ (d' ++ y)) k same) in
    let ends : d ++ x ≡ d' ++ y = ap (drop 1) backs in
    (bodies, sym (take_at d x 2 two) ∙ (ap (take 2) ends ∙ take_at d' y 2 two'))

-- the first byte of what goes on
first_of : (bytes more : List ℕ) (b : ℕ) (rest : List ℕ) → bytes ≡ b ∷ rest → get_or (bytes ++ more) 0 0 ≡ b
first_of bytes more b rest e = ap (λ l. get_or (l ++ more) 0 0) e

one_shape : (a b : Said) (x y more others : List ℕ) → Framed a x ⊎ Alone a x → Framed b y ⊎ Alone b y → x ++ more ≡ y ++ others → (x ≡ y) × (a ≡ b)
one_shape a b x y more others (inl f) (inl g) e =
    let begun : 36 ∷ ((f.body ++ 35 ∷ f.digits) ++ more) ≡ 36 ∷ ((g.body ++ 35 ∷ g.digits) ++ others) =
    ap (λ l. l ++ more) (sym f.frame.whole) ∙ (e ∙ ap (λ l. l ++ others) g.frame.whole) in
    let rests = sym (append_assoc f.body (35 ∷ f.digits) more) ∙ (ap (drop 1) begun ∙ append_assoc g.body (35 ∷ g.digits) others) in
    let same = same_body f.body f.digits more g.body g.digits others f.frame.is_body g.frame.is_body f.frame.two g.frame.two rests in
    let kind : Kind b f.body f.digits = subst (λ d. Kind b f.body d) (sym same.1) (subst (λ l. Kind b l g.digits) (sym same.0) g.kind) in (
      f.frame.whole ∙ (ap (λ l. 36 ∷ (l ++ 35 ∷ f.digits)) same.0 ∙ (ap (λ l. 36 ∷ (g.body ++ 35 ∷ l)) same.1 ∙ sym g.frame.whole)),
      one_frame_kind a b f.body f.digits f.kind kind,
    )
one_shape a b x y more others (inl f) (inr g) e =
    let first : 36 ≡ g.byte = sym (first_of x more 36 _ f.frame.whole) ∙ (ap (λ l. get_or l 0 0) e ∙ first_of y others g.byte _ g.whole) in
    absurd (g.other (sym first))
one_shape a b x y more others (inr f) (inl g) e =
    let first : f.byte ≡ 36 = sym (first_of x more f.byte _ f.whole) ∙ (ap (λ l. get_or l 0 0) e ∙ first_of y others 36 _ g.frame.whole) in
    absurd (f.other first)
one_shape a b x y more others (inr f) (inr g) e =
    let first : f.byte ≡ g.byte = sym (first_of x more f.byte _ f.whole) ∙ (ap (λ l. get_or l 0 0) e ∙ first_of y others g.byte _ g.whole) in
    (f.whole ∙ (ap (λ c. c ∷ []) first ∙ sym g.whole), one_byte_kind a b g.byte (subst (AloneKind a) first f.kind) g.kind)

pub one_item : (a b : Said) (x y more others : List ℕ) → IsItem a x → IsItem b y → x ++ more ≡ y ++ others → (x ≡ y) × (a ≡ b)
one_item a b x y more others is is' e = one_shape a b x y more others (shape a x is) (shape b y is') e

none_of_shape : (said : Said) (bytes more : List ℕ) → Framed said bytes ⊎ Alone said bytes → IsPartial (bytes ++ more) → ⊥
none_of_shape said bytes more (inl f) partial =
    let begun : IsPartial (36 ∷ ((f.body ++ 35 ∷ f.digits) ++ more)) = subst (λ l. IsPartial (l ++ more)) f.frame.whole partial in
    let few = begun.1 f.body (f.digits ++ more) f.frame.is_body (append_assoc f.body (35 ∷ f.digits) more) in
    let long = length-append f.digits more in
    let two = f.frame.two in
    absurd (omega (arith, few, long, two))
none_of_shape said bytes more (inr f) partial =
    let begun : IsPartial (f.byte ∷ more) = subst (λ l. IsPartial (l ++ more)) f.whole partial in
    f.other begun.0

pub no_partial_item : (said : Said) (bytes more : List ℕ) → IsItem said bytes → IsPartial (bytes ++ more) → ⊥
no_partial_item said bytes more is = none_of_shape said bytes more (shape said bytes is)
