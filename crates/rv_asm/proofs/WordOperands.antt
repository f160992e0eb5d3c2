-- A word that a row takes is the one of its operands, and these can be held by the format.
use Rattle.std.proofs.Common.{◌≡◌, ℕ, ◌+◌, ◌*◌, ◌/◌, ◌%◌, ◌^◌, ◌<◌, ◌⊎◌, true, refl, sym, ap, ◌∙◌, arith, inl, inr}
use Rattle.std.proofs.lemmas.Bool.{eqb-true, eq-eqb}
use Rattle.rv_decode.specs.Formats.{bits, opcode, rd, funct3, rs1, rs2, funct7, sign_extended, imm_i, imm_s, imm_b, imm_j, shift_amount}
use Rattle.rv_decode.specs.Ranges.{IsSigned}
use Rattle.rv_decode.specs.Words.{word_i, word_s, word_b, word_r}
use Rattle.rv_decode.proofs.WordFields.{whole, whole_i, whole_s, whole_b, whole_j, sign_cases}
use Rattle.rv_asm.specs.declared.table.Format.{Format}
use Rattle.rv_asm.specs.declared.table.Format.TheVariants.{Upper, Jump, Indexed, Branch, Store, Immediate, Shift, Registers, Plain, Word}
use Rattle.rv_asm.specs.PackedWords.{packed, InFormat, takes}
use Rattle.rv_asm.specs.Canonical.{unpacked}

-- ---- the operands can be held

signed_12 : (n : ℕ) → n < 2 ^ 12 → IsSigned 12 (sign_extended 12 n)
signed_12 n h = elim (sign_cases 12 n) [
  | inl p ↦ inl (omega (arith, p.0, p.1))
  | inr p ↦ inr (omega (arith, p.0, p.1), omega (arith, p.0, p.1))
]

signed_13 : (n : ℕ) → n < 2 ^ 13 → n % 2 ≡ 0 → IsSigned 13 (sign_extended 13 n) × (sign_extended 13 n % 2 ≡ 0)
signed_13 n h even = elim (sign_cases 13 n) [
  | inl p ↦ (inl (omega (arith, p.0, p.1)), omega (arith, p.1))
  | inr p ↦ (inr (omega (arith, p.0, p.1), omega (arith, p.0, p.1)), omega (arith, p.0, p.1))
]

signed_21 : (n : ℕ) → n < 2 ^ 21 → n % 2 ≡ 0 → IsSigned 21 (sign_extended 21 n) × (sign_extended 21 n % 2 ≡ 0)
signed_21 n h even = elim (sign_cases 21 n) [
  | inl p ↦ (inl (omega (arith, p.0, p.1)), omega (arith, p.1))
  | inr p ↦ (inr (omega (arith, p.0, p.1), omega (arith, p.0, p.1)), omega (arith, p.0, p.1))
]

even_b : (a b c d : ℕ) → (a * 2 ^ 12 + b * 2 ^ 11 + c * 2 ^ 5 + d * 2 ^ 1) % 2 ≡ 0
even_b a b c d = omega arith

low_b : (a b c d : ℕ) → a < 2 → b < 2 → c < 2 ^ 6 → d < 2 ^ 4 → a * 2 ^ 12 + b * 2 ^ 11 + c * 2 ^ 5 + d * 2 ^ 1 < 2 ^ 13
low_b a b c d ha hb hc hd = omega arith

even_j : (a b c d : ℕ) → (a * 2 ^ 20 + b * 2 ^ 12 + c * 2 ^ 11 + d * 2 ^ 1) % 2 ≡ 0
even_j a b c d = omega arith

low_j : (a b c d : ℕ) → a < 2 → b < 2 ^ 8 → c < 2 → d < 2 ^ 10 → a * 2 ^ 20 + b * 2 ^ 12 + c * 2 ^ 11 + d * 2 ^ 1 < 2 ^ 21
low_j a b c d ha hb hc hd = omega arith

imm_i_in : (w : ℕ) → IsSigned 12 (imm_i w)
imm_i_in w = signed_12 (bits 31 20 w) (omega arith)

imm_s_in : (w : ℕ) → IsSigned 12 (imm_s w)
imm_s_in w = signed_12 (bits 31 25 w * 2 ^ 5 + bits 11 7 w) (omega arith)

imm_b_in : (w : ℕ) → IsSigned 13 (imm_b w) × (imm_b w % 2 ≡ 0)
imm_b_in w =
    let a : ℕ = bits 31 31 w in
    let b : ℕ = bits 7 7 w in
    let c : ℕ = bits 30 25 w in
    let d : ℕ = bits 11 8 w in
    signed_13 (a * 2 ^ 12 + b * 2 ^ 11 + c * 2 ^ 5 + d * 2 ^ 1) (low_b a b c d (omega arith) (omega arith) (omega arith) (omega arith)) (even_b a b c d)

imm_j_in : (w : ℕ) → IsSigned 21 (imm_j w) × (imm_j w % 2 ≡ 0)
imm_j_in w =
    let a : ℕ = bits 31 31 w in
    let b : ℕ = bits 19 12 w in
    let c : ℕ = bits 20 20 w in
    let d : ℕ = bits 30 21 w in
    signed_21 (a * 2 ^ 20 + b * 2 ^ 12 + c * 2 ^ 11 + d * 2 ^ 1) (low_j a b c d (omega arith) (omega arith) (omega arith) (omega arith)) (even_j a b c d)

pub unpacked_in : (format : Format) (w : ℕ) → w < 2 ^ 32 → InFormat format (unpacked format w)
unpacked_in Upper w small = record { rd = omega arith; rs1 = omega arith; rs2 = omega arith; imm = omega arith }
unpacked_in Jump w small = record { rd = omega arith; rs1 = omega arith; rs2 = omega arith; imm = imm_j_in w }
unpacked_in Indexed w small = record { rd = omega arith; rs1 = omega arith; rs2 = omega arith; imm = imm_i_in w }
unpacked_in Branch w small = record { rd = omega arith; rs1 = omega arith; rs2 = omega arith; imm = imm_b_in w }
unpacked_in Store w small = record { rd = omega arith; rs1 = omega arith; rs2 = omega arith; imm = imm_s_in w }
unpacked_in Immediate w small = record { rd = omega arith; rs1 = omega arith; rs2 = omega arith; imm = imm_i_in w }
unpacked_in Shift w small = record { rd = omega arith; rs1 = omega arith; rs2 = omega arith; imm = omega arith }
unpacked_in Registers w small = record { rd = omega arith; rs1 = omega arith; rs2 = omega arith; imm = tt }
unpacked_in Plain w small = record { rd = omega arith; rs1 = omega arith; rs2 = omega arith; imm = tt }
unpacked_in Word w small = record { rd = omega arith; rs1 = omega arith; rs2 = omega arith; imm = small }

-- ---- a word is that of its operands, with the base that it has

whole_upper : (w base : ℕ) → w < 2 ^ 32 → opcode w ≡ base → packed Upper base (unpacked Upper w) ≡ w
whole_upper w base small is = omega (arith, is)

-- the same parts, added in another order
swap_i : (o f d a m : ℕ) → o + f * 2 ^ 12 + d * 2 ^ 7 + a * 2 ^ 15 + m % 2 ^ 5 * 2 ^ 20 + m / 2 ^ 5 % 2 ^ 7 * 2 ^ 25 ≡ word_i o f d a m
swap_i o f d a m = omega arith

swap_s : (o f a b m : ℕ) → o + f * 2 ^ 12 + m % 2 ^ 5 * 2 ^ 7 + a * 2 ^ 15 + b * 2 ^ 20 + m / 2 ^ 5 % 2 ^ 7 * 2 ^ 25 ≡ word_s o f a b m
swap_s o f a b m = omega arith

swap_b : (o f a b m : ℕ) → o + f * 2 ^ 12 + (m / 2 % 2 ^ 4 * 2 + m / 2 ^ 11 % 2) * 2 ^ 7 + a * 2 ^ 15 + b * 2 ^ 20 + (m / 2 ^ 12 % 2 * 2 ^ 6 + m / 2 ^ 5 % 2 ^ 6) * 2 ^ 25 ≡ word_b o f a b m
swap_b o f a b m = omega arith

swap_r : (o f g d a b : ℕ) → o + f * 2 ^ 12 + g * 2 ^ 25 + d * 2 ^ 7 + a * 2 ^ 15 + b * 2 ^ 20 ≡ word_r o f g d a b
swap_r o f g d a b = omega arith

-- the base of a word, where it has one of a format
abbrev pub base_in : Format → ℕ → ℕ
base_in Upper w = opcode w
base_in Jump w = opcode w
base_in Indexed w = opcode w + funct3 w * 2 ^ 12
base_in Branch w = opcode w + funct3 w * 2 ^ 12
base_in Store w = opcode w + funct3 w * 2 ^ 12
base_in Immediate w = opcode w + funct3 w * 2 ^ 12
base_in Shift w = opcode w + funct3 w * 2 ^ 12 + funct7 w * 2 ^ 25
base_in Registers w = opcode w + funct3 w * 2 ^ 12 + funct7 w * 2 ^ 25
base_in Plain w = w
base_in Word w = 0

pub whole_packed : (format : Format) (w : ℕ) → w < 2 ^ 32 → packed format (base_in format w) (unpacked format w) ≡ w
whole_packed Upper w small = omega arith
whole_packed Jump w small = whole_j w small
whole_packed Indexed w small = swap_i (opcode w) (funct3 w) (rd w) (rs1 w) (imm_i w) ∙ whole_i w small
whole_packed Branch w small = swap_b (opcode w) (funct3 w) (rs1 w) (rs2 w) (imm_b w) ∙ whole_b w small
whole_packed Store w small = swap_s (opcode w) (funct3 w) (rs1 w) (rs2 w) (imm_s w) ∙ whole_s w small
whole_packed Immediate w small = swap_i (opcode w) (funct3 w) (rd w) (rs1 w) (imm_i w) ∙ whole_i w small
whole_packed Shift w small = swap_r (opcode w) (funct3 w) (funct7 w) (rd w) (rs1 w) (shift_amount w) ∙ whole w small
whole_packed Registers w small = swap_r (opcode w) (funct3 w) (funct7 w) (rd w) (rs1 w) (rs2 w) ∙ whole w small
whole_packed Plain w small = refl
whole_packed Word w small = refl

pub takes_base : (format : Format) (base w : ℕ) → takes format base w ≡ true → base_in format w ≡ base
takes_base Upper base w is = eqb-true _ _ is
takes_base Jump base w is = eqb-true _ _ is
takes_base Indexed base w is = eqb-true _ _ is
takes_base Branch base w is = eqb-true _ _ is
takes_base Store base w is = eqb-true _ _ is
takes_base Immediate base w is = eqb-true _ _ is
takes_base Shift base w is = eqb-true _ _ is
takes_base Registers base w is = eqb-true _ _ is
takes_base Plain base w is = eqb-true _ _ is
takes_base Word base w is = absurd cc

pub taken_packed : (format : Format) (base w : ℕ) → w < 2 ^ 32 → takes format base w ≡ true → packed format base (unpacked format w) ≡ w
taken_packed format base w small is =
    ap (λ (b : ℕ). packed format b (unpacked format w)) (sym (takes_base format base w is)) ∙ whole_packed format w small

-- a sum tells its first part
tells_u : (base o d m : ℕ) → base + d * 2 ^ 7 + m * 2 ^ 12 ≡ o + d * 2 ^ 7 + m * 2 ^ 12 → o ≡ base
tells_u base o d m is = omega arith

tells_j : (base o d a b c e : ℕ) → base + d * 2 ^ 7 + a * 2 ^ 12 + b * 2 ^ 20 + c * 2 ^ 21 + e * 2 ^ 31 ≡ o + d * 2 ^ 7 + a * 2 ^ 12 + b * 2 ^ 20 + c * 2 ^ 21 + e * 2 ^ 31 → o ≡ base
tells_j base o d a b c e is = omega arith

tells_four : (base o p q r s : ℕ) → base + p + q + r + s ≡ o + p + q + r + s → o ≡ base
tells_four base o p q r s is = omega arith

tells_three : (base o p q r : ℕ) → base + p + q + r ≡ o + p + q + r → o ≡ base
tells_three base o p q r is = omega arith

-- and a word that is the one of its operands with a base has that base
pub packed_base : (format : Format) (base w : ℕ) → w < 2 ^ 32 → packed format base (unpacked format w) ≡ w → base_in format w ≡ base ⊎ (format ≡ Word)
packed_base Upper base w small is = inl (tells_u base (opcode w) (rd w) (w / 2 ^ 12) (is ∙ sym (whole_packed Upper w small)))
packed_base Jump base w small is =
    let m : ℕ = imm_j w in
    inl (tells_j base (opcode w) (rd w) (m / 2 ^ 12 % 2 ^ 8) (m / 2 ^ 11 % 2) (m / 2 % 2 ^ 10) (m / 2 ^ 20 % 2) (is ∙ sym (whole_packed Jump w small)))
packed_base Indexed base w small is =
    let m : ℕ = imm_i w in
    inl (tells_four base (base_in Indexed w) (rd w * 2 ^ 7) (rs1 w * 2 ^ 15) (m % 2 ^ 5 * 2 ^ 20) (m / 2 ^ 5 % 2 ^ 7 * 2 ^ 25) (is ∙ sym (whole_packed Indexed w small)))
packed_base Branch base w small is =
    let m : ℕ = imm_b w in
    inl (tells_four base (base_in Branch w) ((m / 2 % 2 ^ 4 * 2 + m / 2 ^ 11 % 2) * 2 ^ 7) (rs1 w * 2 ^ 15) (rs2 w * 2 ^ 20) ((m / 2 ^ 12 % 2 * 2 ^ 6 + m / 2 ^ 5 % 2 ^ 6) * 2 ^ 25) (is ∙ sym (whole_packed Branch w small)))
packed_base Store base w small is =
    let m : ℕ = imm_s w in
    inl (tells_four base (base_in Store w) (m % 2 ^ 5 * 2 ^ 7) (rs1 w * 2 ^ 15) (rs2 w * 2 ^ 20) (m / 2 ^ 5 % 2 ^ 7 * 2 ^ 25) (is ∙ sym (whole_packed Store w small)))
packed_base Immediate base w small is =
    let m : ℕ = imm_i w in
    inl (tells_four base (base_in Immediate w) (rd w * 2 ^ 7) (rs1 w * 2 ^ 15) (m % 2 ^ 5 * 2 ^ 20) (m / 2 ^ 5 % 2 ^ 7 * 2 ^ 25) (is ∙ sym (whole_packed Immediate w small)))
packed_base Shift base w small is = inl (tells_three base (base_in Shift w) (rd w * 2 ^ 7) (rs1 w * 2 ^ 15) (shift_amount w * 2 ^ 20) (is ∙ sym (whole_packed Shift w small)))
packed_base Registers base w small is = inl (tells_three base (base_in Registers w) (rd w * 2 ^ 7) (rs1 w * 2 ^ 15) (rs2 w * 2 ^ 20) (is ∙ sym (whole_packed Registers w small)))
packed_base Plain base w small is = inl (sym is)
packed_base Word base w small is = inr refl

pub base_takes : (format : Format) (base w : ℕ) → base_in format w ≡ base → takes format base w ≡ true ⊎ (format ≡ Word)
base_takes Upper base w is = inl (eq-eqb _ _ is)
base_takes Jump base w is = inl (eq-eqb _ _ is)
base_takes Indexed base w is = inl (eq-eqb _ _ is)
base_takes Branch base w is = inl (eq-eqb _ _ is)
base_takes Store base w is = inl (eq-eqb _ _ is)
base_takes Immediate base w is = inl (eq-eqb _ _ is)
base_takes Shift base w is = inl (eq-eqb _ _ is)
base_takes Registers base w is = inl (eq-eqb _ _ is)
base_takes Plain base w is = inl (eq-eqb _ _ is)
base_takes Word base w is = inr refl
