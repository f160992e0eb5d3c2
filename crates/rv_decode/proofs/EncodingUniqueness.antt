-- That only its own word says an instruction.
use Rattle.std.proofs.Common.{◌≡◌, ℕ, ◌==◌, ◌^◌, ◌<◌, Bool, true, false, ◌&&◌, cond, List, [], ◌∷◌, refl, sym, ap, ◌∙◌, Some}
use Rattle.std.proofs.lemmas.Bool.{eqb-true}
use Rattle.std.specs.List.{AllByRecursion}
use Rattle.rv_decode.specs.declared.instruction.Inst.{Inst}
use Rattle.rv_decode.specs.declared.instruction.Inst.TheVariants.{Lui, Auipc, Jal, Jalr, Beq, Bne, Blt, Bge, Bltu, Bgeu, Lb, Lh, Lw, Lbu, Lhu, Sb, Sh, Sw, Addi, Slti, Sltiu, Xori, Ori, Andi, Slli, Srli, Srai, Add, Sub, Sll, Slt, Sltu, Xor, Srl, Sra, Or, And, Mul, Mulh, Mulhsu, Mulhu, Div, Divu, Rem, Remu, Fence, Ecall, Ebreak}
use Rattle.rv_decode.specs.Formats.{opcode, rd, funct3, rs1, rs2, funct7, imm_i, imm_s, imm_b, imm_u, imm_j}
use Rattle.rv_decode.specs.Rows.{Row, u_row, j_row, i_row, s_row, b_row, r_row, shift_row, fence_row, word_row, rows, first_of, decoded}
use Rattle.rv_decode.specs.Words.{word_of, word_r, word_i, word_s, word_b, word_u, word_j}
use Rattle.rv_decode.proofs.Groups.{both_of}
use Rattle.rv_decode.proofs.WordFields.{whole, whole_i, whole_s, whole_b, whole_u, whole_j}

-- the word of what a row says is the word that says it
record Tells (row : Row) : Type 0 where
  tells : (w : ℕ) → w < 2 ^ 32 → row.takes w ≡ true → word_of (row.says w) ≡ w

two : (w code f3 : ℕ) → ((opcode w == code) && (funct3 w == f3)) ≡ true → (opcode w ≡ code) × (funct3 w ≡ f3)
two w code f3 h =
    let p = both_of (opcode w == code) (funct3 w == f3) h in
    (eqb-true (opcode w) code p.0, eqb-true (funct3 w) f3 p.1)

three : (w code f3 f7 : ℕ) → ((opcode w == code) && (funct3 w == f3) && (funct7 w == f7)) ≡ true → (opcode w ≡ code) × (funct3 w ≡ f3) × (funct7 w ≡ f7)
three w code f3 f7 h =
    let p = both_of ((opcode w == code) && (funct3 w == f3)) (funct7 w == f7) h in
    let q = two w code f3 p.0 in
    (q.0, q.1, eqb-true (funct7 w) f7 p.1)

u_tells : (code : ℕ) (inst : ℕ → ℕ → Inst) → ((d m : ℕ) → word_of (inst d m) ≡ word_u code d m) → Tells (u_row code inst)
u_tells code inst is = record { tells = λ w l h. let e : opcode w ≡ code = eqb-true (opcode w) code h in is (rd w) (imm_u w) ∙ (λ i. word_u (sym e i) (rd w) (imm_u w)) ∙ whole_u w l }

j_tells : (code : ℕ) (inst : ℕ → ℕ → Inst) → ((d m : ℕ) → word_of (inst d m) ≡ word_j code d m) → Tells (j_row code inst)
j_tells code inst is = record { tells = λ w l h. let e : opcode w ≡ code = eqb-true (opcode w) code h in is (rd w) (imm_j w) ∙ (λ i. word_j (sym e i) (rd w) (imm_j w)) ∙ whole_j w l }

i_tells : (code f3 : ℕ) (inst : ℕ → ℕ → ℕ → Inst) → ((d a m : ℕ) → word_of (inst d a m) ≡ word_i code f3 d a m) → Tells (i_row code f3 inst)
i_tells code f3 inst is = record { tells = λ w l h. let e = two w code f3 h in is (rd w) (rs1 w) (imm_i w) ∙ (λ i. word_i (sym e.0 i) (sym e.1 i) (rd w) (rs1 w) (imm_i w)) ∙ whole_i w l }

s_tells : (code f3 : ℕ) (inst : ℕ → ℕ → ℕ → Inst) → ((a b m : ℕ) → word_of (inst a b m) ≡ word_s code f3 a b m) → Tells (s_row code f3 inst)
s_tells code f3 inst is = record { tells = λ w l h. let e = two w code f3 h in is (rs1 w) (rs2 w) (imm_s w) ∙ (λ i. word_s (sym e.0 i) (sym e.1 i) (rs1 w) (rs2 w) (imm_s w)) ∙ whole_s w l }

b_tells : (code f3 : ℕ) (inst : ℕ → ℕ → ℕ → Inst) → ((a b m : ℕ) → word_of (inst a b m) ≡ word_b code f3 a b m) → Tells (b_row code f3 inst)
b_tells code f3 inst is = record { tells = λ w l h. let e = two w code f3 h in is (rs1 w) (rs2 w) (imm_b w) ∙ (λ i. word_b (sym e.0 i) (sym e.1 i) (rs1 w) (rs2 w) (imm_b w)) ∙ whole_b w l }

r_tells : (code f3 f7 : ℕ) (inst : ℕ → ℕ → ℕ → Inst) → ((d a b : ℕ) → word_of (inst d a b) ≡ word_r code f3 f7 d a b) → Tells (r_row code f3 f7 inst)
r_tells code f3 f7 inst is = record { tells = λ w l h. let e = three w code f3 f7 h in is (rd w) (rs1 w) (rs2 w) ∙ (λ i. word_r (sym e.0 i) (sym e.1 i) (sym e.2 i) (rd w) (rs1 w) (rs2 w)) ∙ whole w l }

shift_tells : (code f3 f7 : ℕ) (inst : ℕ → ℕ → ℕ → Inst) → ((d a b : ℕ) → word_of (inst d a b) ≡ word_r code f3 f7 d a b) → Tells (shift_row code f3 f7 inst)
shift_tells code f3 f7 inst is = record { tells = (r_tells code f3 f7 inst is).tells }

word_tells : (word : ℕ) (inst : Inst) → word_of inst ≡ word → Tells (word_row word inst)
word_tells word inst is = record { tells = λ w l h. is ∙ sym (eqb-true w word h) }

fence_tells : (code f3 : ℕ) (inst : ℕ → Inst) → ((w : ℕ) → word_of (inst w) ≡ w) → Tells (fence_row code f3 inst)
fence_tells code f3 inst is = record { tells = λ w l h. is w }

-- what the first row of some says
either : (row : Row) (rest : List Row) (w : ℕ) (inst : Inst) (b : Bool) → row.takes w ≡ b → (first_of rest w ≡ Some inst → word_of inst ≡ w) → Tells row → w < 2 ^ 32 → cond b (Some (row.says w)) (first_of rest w) ≡ Some inst → word_of inst ≡ w
either row rest w inst true e later t l h =
    let same : row.says w ≡ inst = cc in
    ap word_of (sym same) ∙ t.tells w l e
either row rest w inst false e later t l h = later h

first : (table : List Row) → AllByRecursion Tells table → (w : ℕ) (inst : Inst) → w < 2 ^ 32 → first_of table w ≡ Some inst → word_of inst ≡ w
first [] all w inst l h = absurd (cc)
first (row ∷ rest) all w inst l h = either row rest w inst (row.takes w) refl (λ e. first rest all.1 w inst l e) all.0 l h

all_tell : AllByRecursion Tells rows
all_tell = (
  u_tells 0b0110111 (λ d m. Lui d m) (λ d m. refl),
  (
    u_tells 0b0010111 (λ d m. Auipc d m) (λ d m. refl),
    (
      j_tells 0b1101111 (λ d m. Jal d m) (λ d m. refl),
      (
        i_tells 0b1100111 0b000 (λ d a m. Jalr d a m) (λ d a m. refl),
        (
          b_tells 0b1100011 0b000 (λ a b m. Beq a b m) (λ a b m. refl),
          (
            b_tells 0b1100011 0b001 (λ a b m. Bne a b m) (λ a b m. refl),
            (
              b_tells 0b1100011 0b100 (λ a b m. Blt a b m) (λ a b m. refl),
              (
                b_tells 0b1100011 0b101 (λ a b m. Bge a b m) (λ a b m. refl),
                (
                  b_tells 0b1100011 0b110 (λ a b m. Bltu a b m) (λ a b m. refl),
                  (
                    b_tells 0b1100011 0b111 (λ a b m. Bgeu a b m) (λ a b m. refl),
                    (
                      i_tells 0b0000011 0b000 (λ d a m. Lb d a m) (λ d a m. refl),
                      (
                        i_tells 0b0000011 0b001 (λ d a m. Lh d a m) (λ d a m. refl),
                        (
                          i_tells 0b0000011 0b010 (λ d a m. Lw d a m) (λ d a m. refl),
                          (
                            i_tells 0b0000011 0b100 (λ d a m. Lbu d a m) (λ d a m. refl),
                            (
                              i_tells 0b0000011 0b101 (λ d a m. Lhu d a m) (λ d a m. refl),
                              (
                                s_tells 0b0100011 0b000 (λ a b m. Sb a b m) (λ a b m. refl),
                                (
                                  s_tells 0b0100011 0b001 (λ a b m. Sh a b m) (λ a b m. refl),
                                  (
                                    s_tells 0b0100011 0b010 (λ a b m. Sw a b m) (λ a b m. refl),
                                    (
                                      i_tells 0b0010011 0b000 (λ d a m. Addi d a m) (λ d a m. refl),
                                      (
                                        i_tells 0b0010011 0b010 (λ d a m. Slti d a m) (λ d a m. refl),
                                        (
                                          i_tells 0b0010011 0b011 (λ d a m. Sltiu d a m) (λ d a m. refl),
                                          (
                                            i_tells 0b0010011 0b100 (λ d a m. Xori d a m) (λ d a m. refl),
                                            (
                                              i_tells 0b0010011 0b110 (λ d a m. Ori d a m) (λ d a m. refl),
                                              (
                                                i_tells 0b0010011 0b111 (λ d a m. Andi d a m) (λ d a m. refl),
                                                (
                                                  shift_tells 0b0010011 0b001 0b0000000 (λ d a b. Slli d a b) (λ d a b. refl),
                                                  (
                                                    shift_tells 0b0010011 0b101 0b0000000 (λ d a b. Srli d a b) (λ d a b. refl),
                                                    (
                                                      shift_tells 0b0010011 0b101 0b0100000 (λ d a b. Srai d a b) (λ d a b. refl),
                                                      (
                                                        r_tells 0b0110011 0b000 0b0000000 (λ d a b. Add d a b) (λ d a b. refl),
                                                        (
                                                          r_tells 0b0110011 0b000 0b0100000 (λ d a b. Sub d a b) (λ d a b. refl),
                                                          (
                                                            r_tells 0b0110011 0b001 0b0000000 (λ d a b. Sll d a b) (λ d a b. refl),
                                                            (
                                                              r_tells 0b0110011 0b010 0b0000000 (λ d a b. Slt d a b) (λ d a b. refl),
                                                              (
                                                                r_tells 0b0110011 0b011 0b0000000 (λ d a b. Sltu d a b) (λ d a b. refl),
                                                                (
                                                                  r_tells 0b0110011 0b100 0b0000000 (λ d a b. Xor d a b) (λ d a b. refl),
                                                                  (
                                                                    r_tells 0b0110011 0b101 0b0000000 (λ d a b. Srl d a b) (λ d a b. refl),
                                                                    (
                                                                      r_tells 0b0110011 0b101 0b0100000 (λ d a b. Sra d a b) (λ d a b. refl),
                                                                      (
                                                                        r_tells 0b0110011 0b110 0b0000000 (λ d a b. Or d a b) (λ d a b. refl),
                                                                        (
                                                                          r_tells 0b0110011 0b111 0b0000000 (λ d a b. And d a b) (λ d a b. refl),
                                                                          (
                                                                            r_tells 0b0110011 0b000 0b0000001 (λ d a b. Mul d a b) (λ d a b. refl),
                                                                            (
                                                                              r_tells 0b0110011 0b001 0b0000001 (λ d a b. Mulh d a b) (λ d a b. refl),
                                                                              (
                                                                                r_tells 0b0110011 0b010 0b0000001 (λ d a b. Mulhsu d a b) (λ d a b. refl),
                                                                                (
                                                                                  r_tells 0b0110011 0b011 0b0000001 (λ d a b. Mulhu d a b) (λ d a b. refl),
                                                                                  (
                                                                                    r_tells 0b0110011 0b100 0b0000001 (λ d a b. Div d a b) (λ d a b. refl),
                                                                                    (
                                                                                      r_tells 0b0110011 0b101 0b0000001 (λ d a b. Divu d a b) (λ d a b. refl),
                                                                                      (
                                                                                        r_tells 0b0110011 0b110 0b0000001 (λ d a b. Rem d a b) (λ d a b. refl),
                                                                                        (
                                                                                          r_tells 0b0110011 0b111 0b0000001 (λ d a b. Remu d a b) (λ d a b. refl),
                                                                                          (
                                                                                            fence_tells 0b0001111 0b000 (λ w. Fence w) (λ w. refl),
                                                                                            (
                                                                                              word_tells 0x00000073 Ecall refl,
                                                                                              (
                                                                                                word_tells 0x00100073 Ebreak refl,
                                                                                                tt,
                                                                                              ),
                                                                                            ),
                                                                                          ),
                                                                                        ),
                                                                                      ),
                                                                                    ),
                                                                                  ),
                                                                                ),
                                                                              ),
                                                                            ),
                                                                          ),
                                                                        ),
                                                                      ),
                                                                    ),
                                                                  ),
                                                                ),
                                                              ),
                                                            ),
                                                          ),
                                                        ),
                                                      ),
                                                    ),
                                                  ),
                                                ),
                                              ),
                                            ),
                                          ),
                                        ),
                                      ),
                                    ),
                                  ),
                                ),
                              ),
                            ),
                          ),
                        ),
                      ),
                    ),
                  ),
                ),
              ),
            ),
          ),
        ),
      ),
    ),
  ),
)

pub only : (w : ℕ) (inst : Inst) → w < 2 ^ 32 → decoded w ≡ Some inst → word_of inst ≡ w
unfolding decoded
only w inst l h = first rows all_tell w inst l h
