-- The words of the formats with given fields: an encoder's output. It doesn't use the table of rows.
use Rattle.std.specs.Prelude.{ℕ, ◌+◌, ◌*◌, ◌/◌, ◌%◌, ◌^◌}
use Rattle.rv_decode.specs.declared.instruction.Inst.{Inst}
use Rattle.rv_decode.specs.declared.instruction.Inst.TheVariants.{Lui, Auipc, Jal, Jalr, Beq, Bne, Blt, Bge, Bltu, Bgeu, Lb, Lh, Lw, Lbu, Lhu, Sb, Sh, Sw, Addi, Slti, Sltiu, Xori, Ori, Andi, Slli, Srli, Srai, Add, Sub, Sll, Slt, Sltu, Xor, Srl, Sra, Or, And, Mul, Mulh, Mulhsu, Mulhu, Div, Divu, Rem, Remu, Fence, Ecall, Ebreak}

-- an opcode, funct3 and funct7, and registers at their places
abbrev pub word_r : ℕ → ℕ → ℕ → ℕ → ℕ → ℕ → ℕ
word_r code f3 f7 rd rs1 rs2 = code + rd * 2 ^ 7 + f3 * 2 ^ 12 + rs1 * 2 ^ 15 + rs2 * 2 ^ 20 + f7 * 2 ^ 25

-- the word of registers and an immediate; each format puts the immediate's bits elsewhere
abbrev pub word_i : ℕ → ℕ → ℕ → ℕ → ℕ → ℕ
word_i code f3 rd rs1 imm = word_r code f3 (imm / 2 ^ 5 % 2 ^ 7) rd rs1 (imm % 2 ^ 5)

abbrev pub word_s : ℕ → ℕ → ℕ → ℕ → ℕ → ℕ
word_s code f3 rs1 rs2 imm = word_r code f3 (imm / 2 ^ 5 % 2 ^ 7) (imm % 2 ^ 5) rs1 rs2

abbrev pub word_b : ℕ → ℕ → ℕ → ℕ → ℕ → ℕ
word_b code f3 rs1 rs2 imm = word_r code f3 (imm / 2 ^ 12 % 2 * 2 ^ 6 + imm / 2 ^ 5 % 2 ^ 6) (imm / 2 % 2 ^ 4 * 2 + imm / 2 ^ 11 % 2) rs1 rs2

abbrev pub word_u : ℕ → ℕ → ℕ → ℕ
word_u code rd imm = code + rd * 2 ^ 7 + imm

abbrev pub word_j : ℕ → ℕ → ℕ → ℕ
word_j code rd imm = code + rd * 2 ^ 7 + imm / 2 ^ 12 % 2 ^ 8 * 2 ^ 12 + imm / 2 ^ 11 % 2 * 2 ^ 20 + imm / 2 % 2 ^ 10 * 2 ^ 21 + imm / 2 ^ 20 % 2 * 2 ^ 31

-- the word of an instruction
abbrev pub word_of : Inst → ℕ
word_of (Lui rd imm) = word_u 0b0110111 rd imm
word_of (Auipc rd imm) = word_u 0b0010111 rd imm
word_of (Jal rd imm) = word_j 0b1101111 rd imm
word_of (Jalr rd rs1 imm) = word_i 0b1100111 0b000 rd rs1 imm
word_of (Beq rs1 rs2 imm) = word_b 0b1100011 0b000 rs1 rs2 imm
word_of (Bne rs1 rs2 imm) = word_b 0b1100011 0b001 rs1 rs2 imm
word_of (Blt rs1 rs2 imm) = word_b 0b1100011 0b100 rs1 rs2 imm
word_of (Bge rs1 rs2 imm) = word_b 0b1100011 0b101 rs1 rs2 imm
word_of (Bltu rs1 rs2 imm) = word_b 0b1100011 0b110 rs1 rs2 imm
word_of (Bgeu rs1 rs2 imm) = word_b 0b1100011 0b111 rs1 rs2 imm
word_of (Lb rd rs1 imm) = word_i 0b0000011 0b000 rd rs1 imm
word_of (Lh rd rs1 imm) = word_i 0b0000011 0b001 rd rs1 imm
word_of (Lw rd rs1 imm) = word_i 0b0000011 0b010 rd rs1 imm
word_of (Lbu rd rs1 imm) = word_i 0b0000011 0b100 rd rs1 imm
word_of (Lhu rd rs1 imm) = word_i 0b0000011 0b101 rd rs1 imm
word_of (Sb rs1 rs2 imm) = word_s 0b0100011 0b000 rs1 rs2 imm
word_of (Sh rs1 rs2 imm) = word_s 0b0100011 0b001 rs1 rs2 imm
word_of (Sw rs1 rs2 imm) = word_s 0b0100011 0b010 rs1 rs2 imm
word_of (Addi rd rs1 imm) = word_i 0b0010011 0b000 rd rs1 imm
word_of (Slti rd rs1 imm) = word_i 0b0010011 0b010 rd rs1 imm
word_of (Sltiu rd rs1 imm) = word_i 0b0010011 0b011 rd rs1 imm
word_of (Xori rd rs1 imm) = word_i 0b0010011 0b100 rd rs1 imm
word_of (Ori rd rs1 imm) = word_i 0b0010011 0b110 rd rs1 imm
word_of (Andi rd rs1 imm) = word_i 0b0010011 0b111 rd rs1 imm
word_of (Slli rd rs1 imm) = word_r 0b0010011 0b001 0b0000000 rd rs1 imm
word_of (Srli rd rs1 imm) = word_r 0b0010011 0b101 0b0000000 rd rs1 imm
word_of (Srai rd rs1 imm) = word_r 0b0010011 0b101 0b0100000 rd rs1 imm
word_of (Add rd rs1 rs2) = word_r 0b0110011 0b000 0b0000000 rd rs1 rs2
word_of (Sub rd rs1 rs2) = word_r 0b0110011 0b000 0b0100000 rd rs1 rs2
word_of (Sll rd rs1 rs2) = word_r 0b0110011 0b001 0b0000000 rd rs1 rs2
word_of (Slt rd rs1 rs2) = word_r 0b0110011 0b010 0b0000000 rd rs1 rs2
word_of (Sltu rd rs1 rs2) = word_r 0b0110011 0b011 0b0000000 rd rs1 rs2
word_of (Xor rd rs1 rs2) = word_r 0b0110011 0b100 0b0000000 rd rs1 rs2
word_of (Srl rd rs1 rs2) = word_r 0b0110011 0b101 0b0000000 rd rs1 rs2
word_of (Sra rd rs1 rs2) = word_r 0b0110011 0b101 0b0100000 rd rs1 rs2
word_of (Or rd rs1 rs2) = word_r 0b0110011 0b110 0b0000000 rd rs1 rs2
word_of (And rd rs1 rs2) = word_r 0b0110011 0b111 0b0000000 rd rs1 rs2
word_of (Mul rd rs1 rs2) = word_r 0b0110011 0b000 0b0000001 rd rs1 rs2
word_of (Mulh rd rs1 rs2) = word_r 0b0110011 0b001 0b0000001 rd rs1 rs2
word_of (Mulhsu rd rs1 rs2) = word_r 0b0110011 0b010 0b0000001 rd rs1 rs2
word_of (Mulhu rd rs1 rs2) = word_r 0b0110011 0b011 0b0000001 rd rs1 rs2
word_of (Div rd rs1 rs2) = word_r 0b0110011 0b100 0b0000001 rd rs1 rs2
word_of (Divu rd rs1 rs2) = word_r 0b0110011 0b101 0b0000001 rd rs1 rs2
word_of (Rem rd rs1 rs2) = word_r 0b0110011 0b110 0b0000001 rd rs1 rs2
word_of (Remu rd rs1 rs2) = word_r 0b0110011 0b111 0b0000001 rd rs1 rs2
word_of (Fence word) = word
word_of Ecall = 0x00000073
word_of Ebreak = 0x00100073

-- the instructions that compute on registers, or on a register and an immediate
abbrev pub IsOperation : Inst → Type 0
IsOperation (Addi _ _ _) = Unit {0}
IsOperation (Slti _ _ _) = Unit {0}
IsOperation (Sltiu _ _ _) = Unit {0}
IsOperation (Xori _ _ _) = Unit {0}
IsOperation (Ori _ _ _) = Unit {0}
IsOperation (Andi _ _ _) = Unit {0}
IsOperation (Slli _ _ _) = Unit {0}
IsOperation (Srli _ _ _) = Unit {0}
IsOperation (Srai _ _ _) = Unit {0}
IsOperation (Add _ _ _) = Unit {0}
IsOperation (Sub _ _ _) = Unit {0}
IsOperation (Sll _ _ _) = Unit {0}
IsOperation (Slt _ _ _) = Unit {0}
IsOperation (Sltu _ _ _) = Unit {0}
IsOperation (Xor _ _ _) = Unit {0}
IsOperation (Srl _ _ _) = Unit {0}
IsOperation (Sra _ _ _) = Unit {0}
IsOperation (Or _ _ _) = Unit {0}
IsOperation (And _ _ _) = Unit {0}
IsOperation (Mul _ _ _) = Unit {0}
IsOperation (Mulh _ _ _) = Unit {0}
IsOperation (Mulhsu _ _ _) = Unit {0}
IsOperation (Mulhu _ _ _) = Unit {0}
IsOperation (Div _ _ _) = Unit {0}
IsOperation (Divu _ _ _) = Unit {0}
IsOperation (Rem _ _ _) = Unit {0}
IsOperation (Remu _ _ _) = Unit {0}
IsOperation _ = ⊥
