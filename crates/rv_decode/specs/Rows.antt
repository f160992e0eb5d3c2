-- The table of the instructions of RV32IM, a row each: which words encode the instruction, and its fields. Source:
-- RISC-V unprivileged manual, chapter "RV32/64G Instruction Set Listings", tables "RV32I Base Instruction Set" and
-- "RV32M Standard Extension". What an instruction does is defined elsewhere.
use Rattle.std.specs.Prelude.{ℕ, ◌==◌, Bool, ◌&&◌, cond, List, [], ◌∷◌, ◌++◌, Option, Some, None}
use Rattle.rv_decode.specs.declared.instruction.Inst.{Inst}
use Rattle.rv_decode.specs.declared.instruction.Inst.TheVariants.{Lui, Auipc, Jal, Jalr, Beq, Bne, Blt, Bge, Bltu, Bgeu, Lb, Lh, Lw, Lbu, Lhu, Sb, Sh, Sw, Addi, Slti, Sltiu, Xori, Ori, Andi, Slli, Srli, Srai, Add, Sub, Sll, Slt, Sltu, Xor, Srl, Sra, Or, And, Mul, Mulh, Mulhsu, Mulhu, Div, Divu, Rem, Remu, Fence, Ecall, Ebreak}
use Rattle.rv_decode.specs.Formats.{opcode, rd, funct3, rs1, rs2, funct7, imm_i, imm_s, imm_b, imm_u, imm_j, shift_amount}

pub record Row : Type 0 where
  -- whether a word is of the row
  pub takes : ℕ → Bool
  -- the instruction that such a word means
  pub says : ℕ → Inst

-- Rows by their formats: an opcode, and where the format has them funct3 and funct7.
abbrev pub u_row : ℕ → (ℕ → ℕ → Inst) → Row
u_row code inst = record { takes = λ w. opcode w == code; says = λ w. inst (rd w) (imm_u w) }

abbrev pub j_row : ℕ → (ℕ → ℕ → Inst) → Row
j_row code inst = record { takes = λ w. opcode w == code; says = λ w. inst (rd w) (imm_j w) }

abbrev pub i_row : ℕ → ℕ → (ℕ → ℕ → ℕ → Inst) → Row
i_row code f3 inst = record { takes = λ w. (opcode w == code) && (funct3 w == f3); says = λ w. inst (rd w) (rs1 w) (imm_i w) }

abbrev pub s_row : ℕ → ℕ → (ℕ → ℕ → ℕ → Inst) → Row
s_row code f3 inst = record { takes = λ w. (opcode w == code) && (funct3 w == f3); says = λ w. inst (rs1 w) (rs2 w) (imm_s w) }

abbrev pub b_row : ℕ → ℕ → (ℕ → ℕ → ℕ → Inst) → Row
b_row code f3 inst = record { takes = λ w. (opcode w == code) && (funct3 w == f3); says = λ w. inst (rs1 w) (rs2 w) (imm_b w) }

abbrev pub r_row : ℕ → ℕ → ℕ → (ℕ → ℕ → ℕ → Inst) → Row
r_row code f3 f7 inst = record { takes = λ w. (opcode w == code) && (funct3 w == f3) && (funct7 w == f7); says = λ w. inst (rd w) (rs1 w) (rs2 w) }

-- a shift by an immediate: of format I, with funct7 in place of the upper bits of the immediate
abbrev pub shift_row : ℕ → ℕ → ℕ → (ℕ → ℕ → ℕ → Inst) → Row
shift_row code f3 f7 inst = record { takes = λ w. (opcode w == code) && (funct3 w == f3) && (funct7 w == f7); says = λ w. inst (rd w) (rs1 w) (shift_amount w) }

-- a fence, which keeps its word: the other fields are free
abbrev pub fence_row : ℕ → ℕ → (ℕ → Inst) → Row
fence_row code f3 inst = record { takes = λ w. (opcode w == code) && (funct3 w == f3); says = λ w. inst w }

-- an instruction of a single word
abbrev pub word_row : ℕ → Inst → Row
word_row word inst = record { takes = λ w. w == word; says = λ w. inst }

-- LUI and AUIPC
abbrev pub uppers : List Row
uppers =
    u_row 0b0110111 Lui
    ∷ u_row 0b0010111 Auipc
    ∷ []

-- unconditional jumps
abbrev pub jumps : List Row
jumps =
    j_row 0b1101111 Jal
    ∷ i_row 0b1100111 0b000 Jalr
    ∷ []

-- conditional branches
abbrev pub branches : List Row
branches =
    b_row 0b1100011 0b000 Beq
    ∷ b_row 0b1100011 0b001 Bne
    ∷ b_row 0b1100011 0b100 Blt
    ∷ b_row 0b1100011 0b101 Bge
    ∷ b_row 0b1100011 0b110 Bltu
    ∷ b_row 0b1100011 0b111 Bgeu
    ∷ []

abbrev pub loads : List Row
loads =
    i_row 0b0000011 0b000 Lb
    ∷ i_row 0b0000011 0b001 Lh
    ∷ i_row 0b0000011 0b010 Lw
    ∷ i_row 0b0000011 0b100 Lbu
    ∷ i_row 0b0000011 0b101 Lhu
    ∷ []

abbrev pub stores : List Row
stores =
    s_row 0b0100011 0b000 Sb
    ∷ s_row 0b0100011 0b001 Sh
    ∷ s_row 0b0100011 0b010 Sw
    ∷ []

-- computations on a register and an immediate
abbrev pub on_immediates : List Row
on_immediates =
    i_row 0b0010011 0b000 Addi
    ∷ i_row 0b0010011 0b010 Slti
    ∷ i_row 0b0010011 0b011 Sltiu
    ∷ i_row 0b0010011 0b100 Xori
    ∷ i_row 0b0010011 0b110 Ori
    ∷ i_row 0b0010011 0b111 Andi
    ∷ shift_row 0b0010011 0b001 0b0000000 Slli
    ∷ shift_row 0b0010011 0b101 0b0000000 Srli
    ∷ shift_row 0b0010011 0b101 0b0100000 Srai
    ∷ []

-- computations on two registers; with 1 as funct7 those of the extension M, products and divisions
abbrev pub on_registers : List Row
on_registers =
    r_row 0b0110011 0b000 0b0000000 Add
    ∷ r_row 0b0110011 0b000 0b0100000 Sub
    ∷ r_row 0b0110011 0b001 0b0000000 Sll
    ∷ r_row 0b0110011 0b010 0b0000000 Slt
    ∷ r_row 0b0110011 0b011 0b0000000 Sltu
    ∷ r_row 0b0110011 0b100 0b0000000 Xor
    ∷ r_row 0b0110011 0b101 0b0000000 Srl
    ∷ r_row 0b0110011 0b101 0b0100000 Sra
    ∷ r_row 0b0110011 0b110 0b0000000 Or
    ∷ r_row 0b0110011 0b111 0b0000000 And
    ∷ r_row 0b0110011 0b000 0b0000001 Mul
    ∷ r_row 0b0110011 0b001 0b0000001 Mulh
    ∷ r_row 0b0110011 0b010 0b0000001 Mulhsu
    ∷ r_row 0b0110011 0b011 0b0000001 Mulhu
    ∷ r_row 0b0110011 0b100 0b0000001 Div
    ∷ r_row 0b0110011 0b101 0b0000001 Divu
    ∷ r_row 0b0110011 0b110 0b0000001 Rem
    ∷ r_row 0b0110011 0b111 0b0000001 Remu
    ∷ []

-- memory ordering, environment call and breakpoint
abbrev pub others : List Row
others =
    fence_row 0b0001111 0b000 Fence
    ∷ word_row 0x00000073 Ecall
    ∷ word_row 0x00100073 Ebreak
    ∷ []

abbrev pub rows : List Row
rows = uppers ++ jumps ++ branches ++ loads ++ stores ++ on_immediates ++ on_registers ++ others

-- what the first of some rows that takes a word means
abbrev pub first_of : List Row → ℕ → Option Inst
first_of [] w = None
first_of (row ∷ rest) w = cond (row.takes w) (Some (row.says w)) (first_of rest w)

-- the instruction that a word means; a word of no row is illegal
unfoldable pub decoded : ℕ → Option Inst
decoded w = first_of rows w
