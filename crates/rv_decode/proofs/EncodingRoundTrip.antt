-- That the word of an instruction says it.
use Rattle.std.proofs.Common.{◌≡◌, ℕ, ◌+◌, ◌*◌, ◌/◌, ◌%◌, ◌^◌, ◌<◌, true, ◌&&◌, refl, ◌∙◌, arith, Some}
use Rattle.std.specs.Prelude.{nat_lt}
use borrow.Author.Tests.{ltb-true}
use Rattle.rv_decode.specs.declared.instruction.Inst.{Inst}
use Rattle.rv_decode.specs.declared.instruction.Inst.TheVariants.{Lui, Auipc, Jal, Jalr, Beq, Bne, Blt, Bge, Bltu, Bgeu, Lb, Lh, Lw, Lbu, Lhu, Sb, Sh, Sw, Addi, Slti, Sltiu, Xori, Ori, Andi, Slli, Srli, Srai, Add, Sub, Sll, Slt, Sltu, Xor, Srl, Sra, Or, And, Mul, Mulh, Mulhsu, Mulhu, Div, Divu, Rem, Remu, Fence, Ecall, Ebreak}
use Rattle.rv_decode.specs.Formats.{opcode, rd, funct3, rs1, rs2, funct7, imm_i, imm_s, imm_b, imm_u, imm_j}
use Rattle.rv_decode.specs.Rows.{decoded}
use Rattle.rv_decode.specs.Ranges.{HasRanges, RangesU, RangesJ, RangesI, RangesS, RangesB, RangesR}
use Rattle.rv_decode.specs.Words.{word_of, word_r, word_i, word_s, word_b, word_u, word_j}
use Rattle.rv_decode.proofs.Groups.{decoded_lui, decoded_auipc, decoded_jal, decoded_jalr, decoded_branch, decoded_load, decoded_store, decoded_on_immediate, decoded_on_register, decoded_fence, decoded_system, both_of}
use Rattle.rv_decode.proofs.WordFields.{opcode_r, rd_r, funct3_r, rs1_r, rs2_r, funct7_r, imm_i_r, imm_s_r, imm_b_r, extended_21}

-- a format's word says what a row of its opcode, funct3 and funct7 says
record Codes (code f3 f7 : ℕ) : Type 0 where
  small_code : code < 2 ^ 7
  small_f3 : f3 < 8
  small_f7 : f7 < 2 ^ 7

small : {code f3 f7 : ℕ} → (nat_lt code (2 ^ 7) && nat_lt f3 8 && nat_lt f7 (2 ^ 7)) ≡ true → Codes code f3 f7
small {code} {f3} {f7} h =
    let p = both_of (nat_lt code (2 ^ 7) && nat_lt f3 8) (nat_lt f7 (2 ^ 7)) h in
    let q = both_of (nat_lt code (2 ^ 7)) (nat_lt f3 8) p.0 in
    record { small_code = ltb-true code (2 ^ 7) q.0; small_f3 = ltb-true f3 8 q.1; small_f7 = ltb-true f7 (2 ^ 7) p.1 }

read_r : (code f3 f7 : ℕ) (inst : ℕ → ℕ → ℕ → Inst) → Codes code f3 f7 → ((w : ℕ) → opcode w ≡ code → funct3 w ≡ f3 → funct7 w ≡ f7 → decoded w ≡ Some (inst (rd w) (rs1 w) (rs2 w))) → (d a b : ℕ) → RangesR d a b → decoded (word_r code f3 f7 d a b) ≡ Some (inst d a b)
read_r code f3 f7 inst k found d a b h =
    let w : ℕ = word_r code f3 f7 d a b in
    let is_d = rd_r code f3 f7 d a b k.small_code h.0 in
    let is_a = rs1_r code f3 f7 d a b k.small_code h.0 k.small_f3 h.1 in
    let is_b = rs2_r code f3 f7 d a b k.small_code h.0 k.small_f3 h.1 h.2 in
    found w (opcode_r code f3 f7 d a b k.small_code) (funct3_r code f3 f7 d a b k.small_code h.0 k.small_f3) (funct7_r code f3 f7 d a b k.small_code h.0 k.small_f3 h.1 h.2 k.small_f7)
    ∙ (λ i. Some (inst (is_d i) (is_a i) (is_b i)))

read_i : (code f3 : ℕ) (inst : ℕ → ℕ → ℕ → Inst) → Codes code f3 0 → ((w : ℕ) → opcode w ≡ code → funct3 w ≡ f3 → decoded w ≡ Some (inst (rd w) (rs1 w) (imm_i w))) → (d a m : ℕ) → RangesI d a m → decoded (word_i code f3 d a m) ≡ Some (inst d a m)
read_i code f3 inst k found d a m h =
    let f7 : ℕ = m / 2 ^ 5 % 2 ^ 7 in
    let b : ℕ = m % 2 ^ 5 in
    let w : ℕ = word_r code f3 f7 d a b in
    let small : f7 < 2 ^ 7 = omega arith in
    let end : b < 32 = omega arith in
    let is_d = rd_r code f3 f7 d a b k.small_code h.0 in
    let is_a = rs1_r code f3 f7 d a b k.small_code h.0 k.small_f3 h.1 in
    let is_m = imm_i_r w m h.2 (funct7_r code f3 f7 d a b k.small_code h.0 k.small_f3 h.1 end small) (rs2_r code f3 f7 d a b k.small_code h.0 k.small_f3 h.1 end) in
    found w (opcode_r code f3 f7 d a b k.small_code) (funct3_r code f3 f7 d a b k.small_code h.0 k.small_f3)
    ∙ (λ i. Some (inst (is_d i) (is_a i) (is_m i)))

read_s : (code f3 : ℕ) (inst : ℕ → ℕ → ℕ → Inst) → Codes code f3 0 → ((w : ℕ) → opcode w ≡ code → funct3 w ≡ f3 → decoded w ≡ Some (inst (rs1 w) (rs2 w) (imm_s w))) → (a b m : ℕ) → RangesS a b m → decoded (word_s code f3 a b m) ≡ Some (inst a b m)
read_s code f3 inst k found a b m h =
    let f7 : ℕ = m / 2 ^ 5 % 2 ^ 7 in
    let d : ℕ = m % 2 ^ 5 in
    let w : ℕ = word_r code f3 f7 d a b in
    let small : f7 < 2 ^ 7 = omega arith in
    let end : d < 32 = omega arith in
    let is_a = rs1_r code f3 f7 d a b k.small_code end k.small_f3 h.0 in
    let is_b = rs2_r code f3 f7 d a b k.small_code end k.small_f3 h.0 h.1 in
    let is_m = imm_s_r w m h.2 (funct7_r code f3 f7 d a b k.small_code end k.small_f3 h.0 h.1 small) (rd_r code f3 f7 d a b k.small_code end) in
    found w (opcode_r code f3 f7 d a b k.small_code) (funct3_r code f3 f7 d a b k.small_code end k.small_f3)
    ∙ (λ i. Some (inst (is_a i) (is_b i) (is_m i)))

read_b : (code f3 : ℕ) (inst : ℕ → ℕ → ℕ → Inst) → Codes code f3 0 → ((w : ℕ) → opcode w ≡ code → funct3 w ≡ f3 → decoded w ≡ Some (inst (rs1 w) (rs2 w) (imm_b w))) → (a b m : ℕ) → RangesB a b m → decoded (word_b code f3 a b m) ≡ Some (inst a b m)
read_b code f3 inst k found a b m h =
    let f7 : ℕ = m / 2 ^ 12 % 2 * 2 ^ 6 + m / 2 ^ 5 % 2 ^ 6 in
    let d : ℕ = m / 2 % 2 ^ 4 * 2 + m / 2 ^ 11 % 2 in
    let w : ℕ = word_r code f3 f7 d a b in
    let small : f7 < 2 ^ 7 = omega arith in
    let end : d < 32 = omega arith in
    let is_a = rs1_r code f3 f7 d a b k.small_code end k.small_f3 h.0 in
    let is_b = rs2_r code f3 f7 d a b k.small_code end k.small_f3 h.0 h.1 in
    let is_m = imm_b_r w m h.2 h.3 (funct7_r code f3 f7 d a b k.small_code end k.small_f3 h.0 h.1 small) (rd_r code f3 f7 d a b k.small_code end) in
    found w (opcode_r code f3 f7 d a b k.small_code) (funct3_r code f3 f7 d a b k.small_code end k.small_f3)
    ∙ (λ i. Some (inst (is_a i) (is_b i) (is_m i)))

read_u : (code : ℕ) (inst : ℕ → ℕ → Inst) → code < 2 ^ 7 → ((w : ℕ) → opcode w ≡ code → decoded w ≡ Some (inst (rd w) (imm_u w))) → (d m : ℕ) → RangesU d m → decoded (word_u code d m) ≡ Some (inst d m)
read_u code inst k found d m h =
    let w : ℕ = word_u code d m in
    let is_code : opcode w ≡ code = omega (arith, h.0, h.1, h.2) in
    let is_d : rd w ≡ d = omega (arith, h.0, h.1, h.2) in
    let is_m : imm_u w ≡ m = omega (arith, h.0, h.1, h.2) in
    found w is_code ∙ (λ i. Some (inst (is_d i) (is_m i)))

-- the parts of a word of format J
parts_j : (code d a b c e : ℕ) → code < 2 ^ 7 → d < 32 → a < 2 → b < 2 ^ 8 → c < 2 → e < 2 ^ 10 → (w : ℕ) → w ≡ code + d * 2 ^ 7 + b * 2 ^ 12 + c * 2 ^ 20 + e * 2 ^ 21 + a * 2 ^ 31 → (opcode w ≡ code) × (rd w ≡ d) × (w / 2 ^ 31 % 2 ≡ a) × (w / 2 ^ 12 % 2 ^ 8 ≡ b) × (w / 2 ^ 20 % 2 ≡ c) × (w / 2 ^ 21 % 2 ^ 10 ≡ e)
parts_j code d a b c e k hd ha hb hc he w is = (omega arith, omega arith, omega arith, omega arith, omega arith, omega arith)

read_j : (code : ℕ) (inst : ℕ → ℕ → Inst) → code < 2 ^ 7 → ((w : ℕ) → opcode w ≡ code → decoded w ≡ Some (inst (rd w) (imm_j w))) → (d m : ℕ) → RangesJ d m → decoded (word_j code d m) ≡ Some (inst d m)
read_j code inst k found d m h =
    let w : ℕ = word_j code d m in
    let p = parts_j code d (m / 2 ^ 20 % 2) (m / 2 ^ 12 % 2 ^ 8) (m / 2 ^ 11 % 2) (m / 2 % 2 ^ 10) k h.0 (omega arith) (omega arith) (omega arith) (omega arith) w refl in
    let n : ℕ = w / 2 ^ 31 % 2 * 2 ^ 20 + w / 2 ^ 12 % 2 ^ 8 * 2 ^ 12 + w / 2 ^ 20 % 2 * 2 ^ 11 + w / 2 ^ 21 % 2 ^ 10 * 2 ^ 1 in
    let low : n ≡ m % 2 ^ 21 = (λ i. p.2 i * 2 ^ 20 + p.3 i * 2 ^ 12 + p.4 i * 2 ^ 11 + p.5 i * 2 ^ 1) ∙ omega (arith, h.2) in
    let is_m : imm_j w ≡ m = extended_21 m n h.1 low in
    found w p.0 ∙ (λ i. Some (inst (p.1 i) (is_m i)))

pub read : (inst : Inst) → HasRanges inst → decoded (word_of inst) ≡ Some inst
read (Lui d m) h = read_u 0b0110111 (λ d m. Lui d m) (omega arith) (λ w e. decoded_lui w e) d m h
read (Auipc d m) h = read_u 0b0010111 (λ d m. Auipc d m) (omega arith) (λ w e. decoded_auipc w e) d m h
read (Jal d m) h = read_j 0b1101111 (λ d m. Jal d m) (omega arith) (λ w e. decoded_jal w e) d m h
read (Jalr d a m) h = read_i 0b1100111 0b000 (λ d a m. Jalr d a m) (small refl) (λ w e f. decoded_jalr w e ∙ rw (e, f) refl) d a m h
read (Beq a b m) h = read_b 0b1100011 0b000 (λ a b m. Beq a b m) (small refl) (λ w e f. decoded_branch w e ∙ rw (e, f) refl) a b m h
read (Bne a b m) h = read_b 0b1100011 0b001 (λ a b m. Bne a b m) (small refl) (λ w e f. decoded_branch w e ∙ rw (e, f) refl) a b m h
read (Blt a b m) h = read_b 0b1100011 0b100 (λ a b m. Blt a b m) (small refl) (λ w e f. decoded_branch w e ∙ rw (e, f) refl) a b m h
read (Bge a b m) h = read_b 0b1100011 0b101 (λ a b m. Bge a b m) (small refl) (λ w e f. decoded_branch w e ∙ rw (e, f) refl) a b m h
read (Bltu a b m) h = read_b 0b1100011 0b110 (λ a b m. Bltu a b m) (small refl) (λ w e f. decoded_branch w e ∙ rw (e, f) refl) a b m h
read (Bgeu a b m) h = read_b 0b1100011 0b111 (λ a b m. Bgeu a b m) (small refl) (λ w e f. decoded_branch w e ∙ rw (e, f) refl) a b m h
read (Lb d a m) h = read_i 0b0000011 0b000 (λ d a m. Lb d a m) (small refl) (λ w e f. decoded_load w e ∙ rw (e, f) refl) d a m h
read (Lh d a m) h = read_i 0b0000011 0b001 (λ d a m. Lh d a m) (small refl) (λ w e f. decoded_load w e ∙ rw (e, f) refl) d a m h
read (Lw d a m) h = read_i 0b0000011 0b010 (λ d a m. Lw d a m) (small refl) (λ w e f. decoded_load w e ∙ rw (e, f) refl) d a m h
read (Lbu d a m) h = read_i 0b0000011 0b100 (λ d a m. Lbu d a m) (small refl) (λ w e f. decoded_load w e ∙ rw (e, f) refl) d a m h
read (Lhu d a m) h = read_i 0b0000011 0b101 (λ d a m. Lhu d a m) (small refl) (λ w e f. decoded_load w e ∙ rw (e, f) refl) d a m h
read (Sb a b m) h = read_s 0b0100011 0b000 (λ a b m. Sb a b m) (small refl) (λ w e f. decoded_store w e ∙ rw (e, f) refl) a b m h
read (Sh a b m) h = read_s 0b0100011 0b001 (λ a b m. Sh a b m) (small refl) (λ w e f. decoded_store w e ∙ rw (e, f) refl) a b m h
read (Sw a b m) h = read_s 0b0100011 0b010 (λ a b m. Sw a b m) (small refl) (λ w e f. decoded_store w e ∙ rw (e, f) refl) a b m h
read (Addi d a m) h = read_i 0b0010011 0b000 (λ d a m. Addi d a m) (small refl) (λ w e f. decoded_on_immediate w e ∙ rw (e, f) refl) d a m h
read (Slti d a m) h = read_i 0b0010011 0b010 (λ d a m. Slti d a m) (small refl) (λ w e f. decoded_on_immediate w e ∙ rw (e, f) refl) d a m h
read (Sltiu d a m) h = read_i 0b0010011 0b011 (λ d a m. Sltiu d a m) (small refl) (λ w e f. decoded_on_immediate w e ∙ rw (e, f) refl) d a m h
read (Xori d a m) h = read_i 0b0010011 0b100 (λ d a m. Xori d a m) (small refl) (λ w e f. decoded_on_immediate w e ∙ rw (e, f) refl) d a m h
read (Ori d a m) h = read_i 0b0010011 0b110 (λ d a m. Ori d a m) (small refl) (λ w e f. decoded_on_immediate w e ∙ rw (e, f) refl) d a m h
read (Andi d a m) h = read_i 0b0010011 0b111 (λ d a m. Andi d a m) (small refl) (λ w e f. decoded_on_immediate w e ∙ rw (e, f) refl) d a m h
read (Slli d a b) h = read_r 0b0010011 0b001 0b0000000 (λ d a b. Slli d a b) (small refl) (λ w e f g. decoded_on_immediate w e ∙ rw (e, f, g) refl) d a b h
read (Srli d a b) h = read_r 0b0010011 0b101 0b0000000 (λ d a b. Srli d a b) (small refl) (λ w e f g. decoded_on_immediate w e ∙ rw (e, f, g) refl) d a b h
read (Srai d a b) h = read_r 0b0010011 0b101 0b0100000 (λ d a b. Srai d a b) (small refl) (λ w e f g. decoded_on_immediate w e ∙ rw (e, f, g) refl) d a b h
read (Add d a b) h = read_r 0b0110011 0b000 0b0000000 (λ d a b. Add d a b) (small refl) (λ w e f g. decoded_on_register w e ∙ rw (e, f, g) refl) d a b h
read (Sub d a b) h = read_r 0b0110011 0b000 0b0100000 (λ d a b. Sub d a b) (small refl) (λ w e f g. decoded_on_register w e ∙ rw (e, f, g) refl) d a b h
read (Sll d a b) h = read_r 0b0110011 0b001 0b0000000 (λ d a b. Sll d a b) (small refl) (λ w e f g. decoded_on_register w e ∙ rw (e, f, g) refl) d a b h
read (Slt d a b) h = read_r 0b0110011 0b010 0b0000000 (λ d a b. Slt d a b) (small refl) (λ w e f g. decoded_on_register w e ∙ rw (e, f, g) refl) d a b h
read (Sltu d a b) h = read_r 0b0110011 0b011 0b0000000 (λ d a b. Sltu d a b) (small refl) (λ w e f g. decoded_on_register w e ∙ rw (e, f, g) refl) d a b h
read (Xor d a b) h = read_r 0b0110011 0b100 0b0000000 (λ d a b. Xor d a b) (small refl) (λ w e f g. decoded_on_register w e ∙ rw (e, f, g) refl) d a b h
read (Srl d a b) h = read_r 0b0110011 0b101 0b0000000 (λ d a b. Srl d a b) (small refl) (λ w e f g. decoded_on_register w e ∙ rw (e, f, g) refl) d a b h
read (Sra d a b) h = read_r 0b0110011 0b101 0b0100000 (λ d a b. Sra d a b) (small refl) (λ w e f g. decoded_on_register w e ∙ rw (e, f, g) refl) d a b h
read (Or d a b) h = read_r 0b0110011 0b110 0b0000000 (λ d a b. Or d a b) (small refl) (λ w e f g. decoded_on_register w e ∙ rw (e, f, g) refl) d a b h
read (And d a b) h = read_r 0b0110011 0b111 0b0000000 (λ d a b. And d a b) (small refl) (λ w e f g. decoded_on_register w e ∙ rw (e, f, g) refl) d a b h
read (Mul d a b) h = read_r 0b0110011 0b000 0b0000001 (λ d a b. Mul d a b) (small refl) (λ w e f g. decoded_on_register w e ∙ rw (e, f, g) refl) d a b h
read (Mulh d a b) h = read_r 0b0110011 0b001 0b0000001 (λ d a b. Mulh d a b) (small refl) (λ w e f g. decoded_on_register w e ∙ rw (e, f, g) refl) d a b h
read (Mulhsu d a b) h = read_r 0b0110011 0b010 0b0000001 (λ d a b. Mulhsu d a b) (small refl) (λ w e f g. decoded_on_register w e ∙ rw (e, f, g) refl) d a b h
read (Mulhu d a b) h = read_r 0b0110011 0b011 0b0000001 (λ d a b. Mulhu d a b) (small refl) (λ w e f g. decoded_on_register w e ∙ rw (e, f, g) refl) d a b h
read (Div d a b) h = read_r 0b0110011 0b100 0b0000001 (λ d a b. Div d a b) (small refl) (λ w e f g. decoded_on_register w e ∙ rw (e, f, g) refl) d a b h
read (Divu d a b) h = read_r 0b0110011 0b101 0b0000001 (λ d a b. Divu d a b) (small refl) (λ w e f g. decoded_on_register w e ∙ rw (e, f, g) refl) d a b h
read (Rem d a b) h = read_r 0b0110011 0b110 0b0000001 (λ d a b. Rem d a b) (small refl) (λ w e f g. decoded_on_register w e ∙ rw (e, f, g) refl) d a b h
read (Remu d a b) h = read_r 0b0110011 0b111 0b0000001 (λ d a b. Remu d a b) (small refl) (λ w e f g. decoded_on_register w e ∙ rw (e, f, g) refl) d a b h
read (Fence w) h = decoded_fence w h.1 ∙ (let e = h.1 in let f = h.2 in rw (e, f) refl)
read Ecall h = decoded_system 0x00000073 refl
read Ebreak h = decoded_system 0x00100073 refl
