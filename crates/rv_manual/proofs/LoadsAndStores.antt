-- Loads and stores.
use Rattle.std.proofs.Common.{◌≡◌, ℕ, ◌+◌, ◌*◌, ◌/◌, ◌%◌, ◌^◌, ◌<◌, refl, ap, ◌∙◌, arith, inl, inr, List, [], Option, Some, None}
use Rattle.std.specs.FinMap as finmap
use Rattle.std.specs.Option.{option_map}
use Rattle.rv_pages.specs.Memory.{Memory, wrapped, followed_by, little_endian, number_at, with_number}
use Rattle.rv_decode.specs.Formats.{sign_extended}
use Rattle.rv_decode.proofs.WordFields.{sign_cases}
use Rattle.rv_manual.specs.Fields.{bits}
use Rattle.rv_manual.specs.Integers.{twos_complement, word_of}
use Rattle.rv_manual.specs.Access.{byte, halfword, word, joined, with_byte, with_halfword, with_word}
use Rattle.rv_manual.proofs.Numbers.{difference}

-- one, two and four bytes as a number, the lowest first
abbrev numbered : Option (List ℕ) → Option ℕ
numbered o = option_map little_endian o

one : (o : Option ℕ) → o ≡ numbered (followed_by o (Some []))
one None = refl
one (Some b) = ap Some (omega arith)

two : (o p : Option ℕ) → joined (2 ^ 8) o p ≡ numbered (followed_by o (followed_by p (Some [])))
two None p = refl
two (Some a) None = refl
two (Some a) (Some b) = ap Some (omega arith)

four : (o p q r : Option ℕ) → joined (2 ^ 16) (joined (2 ^ 8) o p) (joined (2 ^ 8) q r) ≡
    numbered (followed_by o (followed_by p (followed_by q (followed_by r (Some [])))))
four None p q r = refl
four (Some a) None q r = refl
four (Some a) (Some b) None r = refl
four (Some a) (Some b) (Some c) None = refl
four (Some a) (Some b) (Some c) (Some d) = ap Some (omega arith)

pub byte_is : (m : Memory) (at : ℕ) → byte m at ≡ number_at m at 1
byte_is m at = one (byte m at)

pub halfword_is : (m : Memory) (at : ℕ) → halfword m at ≡ number_at m at 2
halfword_is m at = two (byte m at) (byte m (at + 1))

pub word_is : (m : Memory) (at : ℕ) → word m at ≡ number_at m at 4
word_is m at =
    let third : at + 2 ≡ at + 1 + 1 = omega arith in
    let fourth : at + 2 + 1 ≡ at + 1 + 1 + 1 = omega arith in
    (λ i. joined (2 ^ 16) (halfword m at) (joined (2 ^ 8) (byte m (third i)) (byte m (fourth i))))
    ∙ four (byte m at) (byte m (at + 1)) (byte m (at + 1 + 1)) (byte m (at + 1 + 1 + 1))

-- what was loaded, with its sign, as a word
pub sign_8 : (n : ℕ) → n < 2 ^ 8 → word_of (twos_complement 7 n) ≡ sign_extended 8 n
sign_8 n h =
    difference (n % 2 ^ 7) (n / 2 ^ 7 * 2 ^ 7) (omega arith)
    ∙ elim (sign_cases 8 n) [ inl p ↦ omega (arith, p.0, p.1) | inr p ↦ omega (arith, p.0, p.1) ]

pub sign_16 : (n : ℕ) → n < 2 ^ 16 → word_of (twos_complement 15 n) ≡ sign_extended 16 n
sign_16 n h =
    difference (n % 2 ^ 15) (n / 2 ^ 15 * 2 ^ 15) (omega arith)
    ∙ elim (sign_cases 16 n) [ inl p ↦ omega (arith, p.0, p.1) | inr p ↦ omega (arith, p.0, p.1) ]

pub with_byte_is : (m : Memory) (at value : ℕ) → with_byte m at value ≡ with_number m at 1 value
with_byte_is m at value = let low : bits 7 0 value ≡ value % 2 ^ 8 = omega arith in ap (finmap.insert m (wrapped at)) low

pub with_halfword_is : (m : Memory) (at value : ℕ) → with_halfword m at value ≡ with_number m at 2 value
with_halfword_is m at value =
    let low : bits 7 0 value ≡ value % 2 ^ 8 = omega arith in
    let high : bits 7 0 (bits 15 8 value) ≡ value / 2 ^ 8 % 2 ^ 8 = omega arith in
    λ i. finmap.insert (finmap.insert m (wrapped at) (low i)) (wrapped (at + 1)) (high i)

pub with_word_is : (m : Memory) (at value : ℕ) → with_word m at value ≡ with_number m at 4 value
with_word_is m at value =
    let first : bits 7 0 value ≡ value % 2 ^ 8 = omega arith in
    let second : bits 7 0 (bits 15 8 value) ≡ value / 2 ^ 8 % 2 ^ 8 = omega arith in
    let third : bits 7 0 (bits 31 16 value) ≡ value / 2 ^ 8 / 2 ^ 8 % 2 ^ 8 = omega arith in
    let fourth : bits 7 0 (bits 15 8 (bits 31 16 value)) ≡ value / 2 ^ 8 / 2 ^ 8 / 2 ^ 8 % 2 ^ 8 = omega arith in
    let two : at + 2 ≡ at + 1 + 1 = omega arith in
    let three : at + 2 + 1 ≡ at + 1 + 1 + 1 = omega arith in
    λ i. finmap.insert (finmap.insert (finmap.insert (finmap.insert m (wrapped at) (first i)) (wrapped (at + 1)) (second i)) (wrapped (two i)) (third i))
    (wrapped (three i)) (fourth i)

pub sign_32 : (n : ℕ) → n < 2 ^ 32 → word_of (twos_complement 31 n) ≡ n
sign_32 n h = difference (n % 2 ^ 31) (n / 2 ^ 31 * 2 ^ 31) (omega arith) ∙ omega arith
