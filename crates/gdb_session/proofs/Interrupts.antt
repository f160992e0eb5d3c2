-- Whether bytes begin with an interrupt, byte by byte, and items at the front of bytes.
use Rattle.std.proofs.Common.{◌≡◌, ◌≢◌, ◌⊎◌, inl, inr, ℕ, zero, suc, ◌+◌, ◌<◌, ◌||◌, true, false, cond, List, [], ◌∷◌, ◌++◌, length, take, drop, get_or, refl, sym, ap, subst, ◌∙◌, arith, drop-cons}
use Rattle.std.proofs.lemmas.Bool.{ne_eqb}
use Rattle.gdb_wire.specs.Items.{Said, IsItem}
use Rattle.gdb_session.specs.Conversation.{interrupts}

at_interrupt : (b : ℕ) (rest : List ℕ) → b ≡ 3 → interrupts (b ∷ rest) ≡ true
at_interrupt b rest e = subst (λ (x : ℕ). interrupts (x ∷ rest) ≡ true) (sym e) refl

at_packet : (b : ℕ) (rest : List ℕ) → b ≡ 36 → interrupts (b ∷ rest) ≡ false
at_packet b rest e = subst (λ (x : ℕ). interrupts (x ∷ rest) ≡ false) (sym e) refl

at_resend : (b : ℕ) (rest : List ℕ) → b ≡ 45 → interrupts (b ∷ rest) ≡ false
at_resend b rest e = subst (λ (x : ℕ). interrupts (x ∷ rest) ≡ false) (sym e) refl

at_noise : (b : ℕ) (rest : List ℕ) → b ≢ 3 → b ≢ 36 → b ≢ 45 → interrupts (b ∷ rest) ≡ interrupts rest
at_noise b rest three packet resend =
    let one = ne_eqb b 3 three in
    let two = ne_eqb b 36 packet in
    let last = ne_eqb b 45 resend in
    λ i. cond (one i) true (cond (two i || last i) false (interrupts rest))

-- at an index
front : (bytes : List ℕ) (i d : ℕ) → i < length bytes → interrupts (drop i bytes) ≡ interrupts (get_or bytes i d ∷ drop (suc i) bytes)
front bytes i d h = ap interrupts (drop-cons bytes i d h)

pub interrupted_at : (bytes : List ℕ) (i d : ℕ) → i < length bytes → get_or bytes i d ≡ 3 → interrupts (drop i bytes) ≡ true
interrupted_at bytes i d h e = front bytes i d h ∙ at_interrupt (get_or bytes i d) (drop (suc i) bytes) e

pub item_at : (bytes : List ℕ) (i d : ℕ) → i < length bytes → (get_or bytes i d ≡ 36) ⊎ (get_or bytes i d ≡ 45) → interrupts (drop i bytes) ≡ false
item_at bytes i d h (inl e) = front bytes i d h ∙ at_packet (get_or bytes i d) (drop (suc i) bytes) e
item_at bytes i d h (inr e) = front bytes i d h ∙ at_resend (get_or bytes i d) (drop (suc i) bytes) e

pub noise_at : (bytes : List ℕ) (i n d : ℕ) → i < length bytes → n ≡ i + 1 → get_or bytes i d ≢ 3 → get_or bytes i d ≢ 36 → get_or bytes i d ≢ 45 → interrupts (drop n bytes) ≡ interrupts (drop i bytes)
noise_at bytes i n d h next three packet resend =
    let same : n ≡ suc i = omega (arith, next) in
    ap (λ (k : ℕ). interrupts (drop k bytes)) same ∙ sym (front bytes i d h ∙ at_noise (get_or bytes i d) (drop (suc i) bytes) three packet resend)

-- ---- items

front_back : (k : ℕ) (bytes : List ℕ) → take k bytes ++ drop k bytes ≡ bytes
front_back zero bytes = refl
front_back (suc k) [] = refl
front_back (suc k) (b ∷ bytes) = λ i. b ∷ front_back k bytes i

-- an item that was taken from the front of what is held
pub taken_item : (held kept : List ℕ) (n : ℕ) (a b : Said) → kept ≡ drop n held → a ≡ b → IsItem b (take n held) → (front : List ℕ) × (held ≡ front ++ kept) × IsItem a front
taken_item held kept n a b e same is =
    (take n held, sym (front_back n held) ∙ ap (λ (l : List ℕ). take n held ++ l) (sym e), subst (λ (s : Said). IsItem s (take n held)) (sym same) is)
