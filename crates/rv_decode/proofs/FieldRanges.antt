-- That what a word says has its fields in their ranges.
use Rattle.std.proofs.Common.{◌≡◌, ℕ, ◌+◌, ◌*◌, ◌/◌, ◌%◌, ◌^◌, ◌<◌, ◌==◌, Bool, true, false, cond, inl, inr, List, [], ◌∷◌, refl, arith, Option, Some, IfSome}
use Rattle.std.proofs.lemmas.Bool.{eqb-true}
use Rattle.std.specs.List.{AllByRecursion}
use Rattle.rv_decode.specs.declared.instruction.Inst.{Inst}
use Rattle.rv_decode.specs.declared.instruction.Inst.TheVariants.{Lui, Auipc, Jal, Jalr, Beq, Bne, Blt, Bge, Bltu, Bgeu, Lb, Lh, Lw, Lbu, Lhu, Sb, Sh, Sw, Addi, Slti, Sltiu, Xori, Ori, Andi, Slli, Srli, Srai, Add, Sub, Sll, Slt, Sltu, Xor, Srl, Sra, Or, And, Mul, Mulh, Mulhsu, Mulhu, Div, Divu, Rem, Remu, Fence, Ecall, Ebreak}
use Rattle.rv_decode.specs.Formats.{opcode, rd, funct3, rs1, rs2, sign_extended, imm_i, imm_s, imm_b, imm_u, imm_j}
use Rattle.rv_decode.specs.Rows.{Row, u_row, j_row, i_row, s_row, b_row, r_row, shift_row, fence_row, word_row, rows, first_of, decoded}
use Rattle.rv_decode.specs.Ranges.{HasRanges, IsSigned, RangesU, RangesJ, RangesI, RangesS, RangesB, RangesR}
use Rattle.rv_decode.proofs.Groups.{both_of}
use Rattle.rv_decode.proofs.WordFields.{sign_cases}

signed_12 : (n : ℕ) → n < 2 ^ 12 → IsSigned 12 (sign_extended 12 n)
signed_12 n h = elim (sign_cases 12 n) [ inl p ↦ inl (omega (arith, p.0, p.1)) | inr p ↦ inr (omega (arith, p.0, p.1), omega (arith, p.0, p.1)) ]

signed_13 : (n : ℕ) → n < 2 ^ 13 → n % 2 ≡ 0 → IsSigned 13 (sign_extended 13 n) × (sign_extended 13 n % 2 ≡ 0)
signed_13 n h even = elim (sign_cases 13 n) [ inl p ↦ (inl (omega (arith, p.0, p.1)), omega (arith, p.0, p.1)) | inr p ↦ (inr (omega (arith, p.0, p.1), omega (arith, p.0, p.1)), omega (arith, p.0, p.1)) ]

signed_21 : (n : ℕ) → n < 2 ^ 21 → n % 2 ≡ 0 → IsSigned 21 (sign_extended 21 n) × (sign_extended 21 n % 2 ≡ 0)
signed_21 n h even = elim (sign_cases 21 n) [ inl p ↦ (inl (omega (arith, p.0, p.1)), omega (arith, p.0, p.1)) | inr p ↦ (inr (omega (arith, p.0, p.1), omega (arith, p.0, p.1)), omega (arith, p.0, p.1)) ]

-- what a row says has its fields in their ranges
record InRange (row : Row) : Type 0 where
  ranges : (w : ℕ) → w < 2 ^ 32 → row.takes w ≡ true → HasRanges (row.says w)

u_range : (code : ℕ) (inst : ℕ → ℕ → Inst) → ((d m : ℕ) → RangesU d m → HasRanges (inst d m)) → InRange (u_row code inst)
u_range code inst has = record { ranges = λ w l h. has (rd w) (imm_u w) (omega arith, omega arith, omega arith) }

j_range : (code : ℕ) (inst : ℕ → ℕ → Inst) → ((d m : ℕ) → RangesJ d m → HasRanges (inst d m)) → InRange (j_row code inst)
j_range code inst has = record {
  ranges = λ w l h.
      let n : ℕ = w / 2 ^ 31 % 2 * 2 ^ 20 + w / 2 ^ 12 % 2 ^ 8 * 2 ^ 12 + w / 2 ^ 20 % 2 * 2 ^ 11 + w / 2 ^ 21 % 2 ^ 10 * 2 ^ 1 in
      let p = signed_21 n (omega arith) (omega arith) in
      has (rd w) (imm_j w) (omega arith, p.0, p.1);
}

i_range : (code f3 : ℕ) (inst : ℕ → ℕ → ℕ → Inst) → ((d a m : ℕ) → RangesI d a m → HasRanges (inst d a m)) → InRange (i_row code f3 inst)
i_range code f3 inst has = record { ranges = λ w l h. has (rd w) (rs1 w) (imm_i w) (omega arith, omega arith, signed_12 (w / 2 ^ 20 % 2 ^ 12) (omega arith)) }

s_range : (code f3 : ℕ) (inst : ℕ → ℕ → ℕ → Inst) → ((a b m : ℕ) → RangesS a b m → HasRanges (inst a b m)) → InRange (s_row code f3 inst)
s_range code f3 inst has = record { ranges = λ w l h. has (rs1 w) (rs2 w) (imm_s w) (omega arith, omega arith, signed_12 (w / 2 ^ 25 % 2 ^ 7 * 2 ^ 5 + rd w) (omega arith)) }

b_range : (code f3 : ℕ) (inst : ℕ → ℕ → ℕ → Inst) → ((a b m : ℕ) → RangesB a b m → HasRanges (inst a b m)) → InRange (b_row code f3 inst)
b_range code f3 inst has = record {
  ranges = λ w l h.
      let n : ℕ = w / 2 ^ 31 % 2 * 2 ^ 12 + w / 2 ^ 7 % 2 * 2 ^ 11 + w / 2 ^ 25 % 2 ^ 6 * 2 ^ 5 + w / 2 ^ 8 % 2 ^ 4 * 2 ^ 1 in
      let p = signed_13 n (omega arith) (omega arith) in
      has (rs1 w) (rs2 w) (imm_b w) (omega arith, omega arith, p.0, p.1);
}

r_range : (code f3 f7 : ℕ) (inst : ℕ → ℕ → ℕ → Inst) → ((d a b : ℕ) → RangesR d a b → HasRanges (inst d a b)) → InRange (r_row code f3 f7 inst)
r_range code f3 f7 inst has = record { ranges = λ w l h. has (rd w) (rs1 w) (rs2 w) (omega arith, omega arith, omega arith) }

shift_range : (code f3 f7 : ℕ) (inst : ℕ → ℕ → ℕ → Inst) → ((d a b : ℕ) → RangesR d a b → HasRanges (inst d a b)) → InRange (shift_row code f3 f7 inst)
shift_range code f3 f7 inst has = record { ranges = (r_range code f3 f7 inst has).ranges }

fence_range : InRange (fence_row 0b0001111 0b000 (λ w. Fence w))
fence_range = record {
  ranges = λ w l h.
      let p = both_of (opcode w == 0b0001111) (funct3 w == 0b000) h in
      (l, eqb-true (opcode w) 0b0001111 p.0, eqb-true (funct3 w) 0b000 p.1);
}

word_range : (word : ℕ) (inst : Inst) → HasRanges inst → InRange (word_row word inst)
word_range word inst has = record { ranges = λ w l h. has }

either : (row : Row) (o : Option Inst) (w : ℕ) (b : Bool) → row.takes w ≡ b → InRange row → w < 2 ^ 32 → IfSome o HasRanges → IfSome (cond b (Some (row.says w)) o) HasRanges
either row o w true e h l rest = h.ranges w l e
either row o w false e h l rest = rest

first : (table : List Row) → AllByRecursion InRange table → (w : ℕ) → w < 2 ^ 32 → IfSome (first_of table w) HasRanges
first [] all w l = tt
first (row ∷ rest) all w l = either row (first_of rest w) w (row.takes w) refl all.0 l (first rest all.1 w l)

all_in_range : AllByRecursion InRange rows
all_in_range = (
  u_range 0b0110111 (λ d m. Lui d m) (λ d m h. h),
  (
    u_range 0b0010111 (λ d m. Auipc d m) (λ d m h. h),
    (
      j_range 0b1101111 (λ d m. Jal d m) (λ d m h. h),
      (
        i_range 0b1100111 0b000 (λ d a m. Jalr d a m) (λ d a m h. h),
        (
          b_range 0b1100011 0b000 (λ a b m. Beq a b m) (λ a b m h. h),
          (
            b_range 0b1100011 0b001 (λ a b m. Bne a b m) (λ a b m h. h),
            (
              b_range 0b1100011 0b100 (λ a b m. Blt a b m) (λ a b m h. h),
              (
                b_range 0b1100011 0b101 (λ a b m. Bge a b m) (λ a b m h. h),
                (
                  b_range 0b1100011 0b110 (λ a b m. Bltu a b m) (λ a b m h. h),
                  (
                    b_range 0b1100011 0b111 (λ a b m. Bgeu a b m) (λ a b m h. h),
                    (
                      i_range 0b0000011 0b000 (λ d a m. Lb d a m) (λ d a m h. h),
                      (
                        i_range 0b0000011 0b001 (λ d a m. Lh d a m) (λ d a m h. h),
                        (
                          i_range 0b0000011 0b010 (λ d a m. Lw d a m) (λ d a m h. h),
                          (
                            i_range 0b0000011 0b100 (λ d a m. Lbu d a m) (λ d a m h. h),
                            (
                              i_range 0b0000011 0b101 (λ d a m. Lhu d a m) (λ d a m h. h),
                              (
                                s_range 0b0100011 0b000 (λ a b m. Sb a b m) (λ a b m h. h),
                                (
                                  s_range 0b0100011 0b001 (λ a b m. Sh a b m) (λ a b m h. h),
                                  (
                                    s_range 0b0100011 0b010 (λ a b m. Sw a b m) (λ a b m h. h),
                                    (
                                      i_range 0b0010011 0b000 (λ d a m. Addi d a m) (λ d a m h. h),
                                      (
                                        i_range 0b0010011 0b010 (λ d a m. Slti d a m) (λ d a m h. h),
                                        (
                                          i_range 0b0010011 0b011 (λ d a m. Sltiu d a m) (λ d a m h. h),
                                          (
                                            i_range 0b0010011 0b100 (λ d a m. Xori d a m) (λ d a m h. h),
                                            (
                                              i_range 0b0010011 0b110 (λ d a m. Ori d a m) (λ d a m h. h),
                                              (
                                                i_range 0b0010011 0b111 (λ d a m. Andi d a m) (λ d a m h. h),
                                                (
                                                  shift_range 0b0010011 0b001 0b0000000 (λ d a b. Slli d a b) (λ d a b h. h),
                                                  (
                                                    shift_range 0b0010011 0b101 0b0000000 (λ d a b. Srli d a b) (λ d a b h. h),
                                                    (
                                                      shift_range 0b0010011 0b101 0b0100000 (λ d a b. Srai d a b) (λ d a b h. h),
                                                      (
                                                        r_range 0b0110011 0b000 0b0000000 (λ d a b. Add d a b) (λ d a b h. h),
                                                        (
                                                          r_range 0b0110011 0b000 0b0100000 (λ d a b. Sub d a b) (λ d a b h. h),
                                                          (
                                                            r_range 0b0110011 0b001 0b0000000 (λ d a b. Sll d a b) (λ d a b h. h),
                                                            (
                                                              r_range 0b0110011 0b010 0b0000000 (λ d a b. Slt d a b) (λ d a b h. h),
                                                              (
                                                                r_range 0b0110011 0b011 0b0000000 (λ d a b. Sltu d a b) (λ d a b h. h),
                                                                (
                                                                  r_range 0b0110011 0b100 0b0000000 (λ d a b. Xor d a b) (λ d a b h. h),
                                                                  (
                                                                    r_range 0b0110011 0b101 0b0000000 (λ d a b. Srl d a b) (λ d a b h. h),
                                                                    (
                                                                      r_range 0b0110011 0b101 0b0100000 (λ d a b. Sra d a b) (λ d a b h. h),
                                                                      (
                                                                        r_range 0b0110011 0b110 0b0000000 (λ d a b. Or d a b) (λ d a b h. h),
                                                                        (
                                                                          r_range 0b0110011 0b111 0b0000000 (λ d a b. And d a b) (λ d a b h. h),
                                                                          (
                                                                            r_range 0b0110011 0b000 0b0000001 (λ d a b. Mul d a b) (λ d a b h. h),
                                                                            (
                                                                              r_range 0b0110011 0b001 0b0000001 (λ d a b. Mulh d a b) (λ d a b h. h),
                                                                              (
                                                                                r_range 0b0110011 0b010 0b0000001 (λ d a b. Mulhsu d a b) (λ d a b h. h),
                                                                                (
                                                                                  r_range 0b0110011 0b011 0b0000001 (λ d a b. Mulhu d a b) (λ d a b h. h),
                                                                                  (
                                                                                    r_range 0b0110011 0b100 0b0000001 (λ d a b. Div d a b) (λ d a b h. h),
                                                                                    (
                                                                                      r_range 0b0110011 0b101 0b0000001 (λ d a b. Divu d a b) (λ d a b h. h),
                                                                                      (
                                                                                        r_range 0b0110011 0b110 0b0000001 (λ d a b. Rem d a b) (λ d a b h. h),
                                                                                        (
                                                                                          r_range 0b0110011 0b111 0b0000001 (λ d a b. Remu d a b) (λ d a b h. h),
                                                                                          (
                                                                                            fence_range,
                                                                                            (
                                                                                              word_range 0x00000073 Ecall tt,
                                                                                              (
                                                                                                word_range 0x00100073 Ebreak tt,
                                                                                                tt,
                                                                                              ),
                                                                                            ),
                                                                                          ),
                                                                                        ),
                                                                                      ),
                                                                                    ),
                                                                                  ),
                                                                                ),
                                                                              ),
                                                                            ),
                                                                          ),
                                                                        ),
                                                                      ),
                                                                    ),
                                                                  ),
                                                                ),
                                                              ),
                                                            ),
                                                          ),
                                                        ),
                                                      ),
                                                    ),
                                                  ),
                                                ),
                                              ),
                                            ),
                                          ),
                                        ),
                                      ),
                                    ),
                                  ),
                                ),
                              ),
                            ),
                          ),
                        ),
                      ),
                    ),
                  ),
                ),
              ),
            ),
          ),
        ),
      ),
    ),
  ),
)

pub decoded_ranges : (w : ℕ) → w < 2 ^ 32 → IfSome (decoded w) HasRanges
unfolding decoded
decoded_ranges w l = first rows all_in_range w l
