-- The fields of a word, and the words of its immediates.
use Rattle.std.proofs.Common.{◌≡◌, ℕ, ◌+◌, ◌*◌, ◌/◌, ◌%◌, ◌^◌, ◌<◌, inl, inr, ◌∙◌, arith}
use Rattle.rv_decode.specs.Formats as machine
use Rattle.rv_decode.proofs.WordFields.{sign_cases}
use Rattle.rv_manual.specs.Integers.{word_of}
use Rattle.rv_manual.specs.Fields.{bits, rd, rs1, rs2, i_immediate, s_immediate, b_immediate, u_immediate, j_immediate}
use Rattle.rv_manual.proofs.Numbers.{difference}

pub rd_is : (w : ℕ) → rd w ≡ machine.rd w
rd_is w = omega arith

pub rs1_is : (w : ℕ) → rs1 w ≡ machine.rs1 w
rs1_is w = omega arith

pub rs2_is : (w : ℕ) → rs2 w ≡ machine.rs2 w
rs2_is w = omega arith

pub i_is : (w : ℕ) → w < 2 ^ 32 → word_of (i_immediate w) ≡ machine.imm_i w
i_is w h =
    difference (bits 30 20 w) (bits 31 31 w * 2 ^ 11) (omega arith)
    ∙ elim (sign_cases 12 (w / 2 ^ 20 % 2 ^ 12)) [ inl p ↦ omega (arith, p.0, p.1) | inr p ↦ omega (arith, p.0, p.1) ]

pub s_is : (w : ℕ) → w < 2 ^ 32 → word_of (s_immediate w) ≡ machine.imm_s w
s_is w h =
    difference (bits 30 25 w * 2 ^ 5 + bits 11 7 w) (bits 31 31 w * 2 ^ 11) (omega arith)
    ∙ elim (sign_cases 12 (w / 2 ^ 25 % 2 ^ 7 * 2 ^ 5 + w / 2 ^ 7 % 2 ^ 5)) [ inl p ↦ omega (arith, p.0, p.1) | inr p ↦ omega (arith, p.0, p.1) ]

pub b_is : (w : ℕ) → w < 2 ^ 32 → word_of (b_immediate w) ≡ machine.imm_b w
b_is w h =
    difference (bits 7 7 w * 2 ^ 11 + bits 30 25 w * 2 ^ 5 + bits 11 8 w * 2) (bits 31 31 w * 2 ^ 12) (omega arith)
    ∙ elim (sign_cases 13 (w / 2 ^ 31 % 2 * 2 ^ 12 + w / 2 ^ 7 % 2 * 2 ^ 11 + w / 2 ^ 25 % 2 ^ 6 * 2 ^ 5 + w / 2 ^ 8 % 2 ^ 4 * 2 ^ 1)) [
      | inl p ↦ omega (arith, p.0, p.1)
      | inr p ↦ omega (arith, p.0, p.1)
    ]

pub u_is : (w : ℕ) → w < 2 ^ 32 → word_of (u_immediate w) ≡ machine.imm_u w
u_is w h = difference (bits 30 12 w * 2 ^ 12) (bits 31 31 w * 2 ^ 31) (omega arith) ∙ omega arith

pub j_is : (w : ℕ) → w < 2 ^ 32 → word_of (j_immediate w) ≡ machine.imm_j w
j_is w h =
    difference (bits 19 12 w * 2 ^ 12 + bits 20 20 w * 2 ^ 11 + bits 30 21 w * 2) (bits 31 31 w * 2 ^ 20) (omega arith)
    ∙ elim (sign_cases 21 (w / 2 ^ 31 % 2 * 2 ^ 20 + w / 2 ^ 12 % 2 ^ 8 * 2 ^ 12 + w / 2 ^ 20 % 2 * 2 ^ 11 + w / 2 ^ 21 % 2 ^ 10 * 2 ^ 1)) [
      | inl p ↦ omega (arith, p.0, p.1)
      | inr p ↦ omega (arith, p.0, p.1)
    ]
