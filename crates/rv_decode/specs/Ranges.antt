-- Which fields an instruction may have. A register is one of x0 to x31. An immediate is one that its format can encode.
use Rattle.std.specs.Prelude.{◌≡◌, ℕ, ◌-◌, ◌%◌, ◌^◌, ◌<◌, ◌≤◌, ◌⊎◌}
use Rattle.rv_decode.specs.declared.instruction.Inst.{Inst}
use Rattle.rv_decode.specs.declared.instruction.Inst.TheVariants.{Lui, Auipc, Jal, Jalr, Beq, Bne, Blt, Bge, Bltu, Bgeu, Lb, Lh, Lw, Lbu, Lhu, Sb, Sh, Sw, Addi, Slti, Sltiu, Xori, Ori, Andi, Slli, Srli, Srai, Add, Sub, Sll, Slt, Sltu, Xor, Srl, Sra, Or, And, Mul, Mulh, Mulhsu, Mulhu, Div, Divu, Rem, Remu, Fence, Ecall, Ebreak}
use Rattle.rv_decode.specs.Formats.{opcode, funct3}

-- A number of 32 bits that fits so many bits in two's complement: near 0, or near 2 ^ 32. There are 1 to 32 bits, so
-- the subtraction doesn't truncate.
abbrev pub IsSigned : ℕ → ℕ → Type 0
IsSigned width n = (n < 2 ^ (width - 1)) ⊎ ((2 ^ 32 - 2 ^ (width - 1) ≤ n) × (n < 2 ^ 32))

-- the ranges of the formats
abbrev pub RangesU : ℕ → ℕ → Type 0
RangesU rd imm = (rd < 32) × (imm < 2 ^ 32) × (imm % 2 ^ 12 ≡ 0)

abbrev pub RangesJ : ℕ → ℕ → Type 0
RangesJ rd imm = (rd < 32) × IsSigned 21 imm × (imm % 2 ≡ 0)

abbrev pub RangesI : ℕ → ℕ → ℕ → Type 0
RangesI rd rs1 imm = (rd < 32) × (rs1 < 32) × IsSigned 12 imm

abbrev pub RangesS : ℕ → ℕ → ℕ → Type 0
RangesS rs1 rs2 imm = (rs1 < 32) × (rs2 < 32) × IsSigned 12 imm

abbrev pub RangesB : ℕ → ℕ → ℕ → Type 0
RangesB rs1 rs2 imm = (rs1 < 32) × (rs2 < 32) × IsSigned 13 imm × (imm % 2 ≡ 0)

-- of registers alone, and of a shift, which is by less than 32 places
abbrev pub RangesR : ℕ → ℕ → ℕ → Type 0
RangesR rd rs1 last = (rd < 32) × (rs1 < 32) × (last < 32)

abbrev pub HasRanges : Inst → Type 0
HasRanges (Lui rd imm) = RangesU rd imm
HasRanges (Auipc rd imm) = RangesU rd imm
HasRanges (Jal rd imm) = RangesJ rd imm
HasRanges (Jalr rd rs1 imm) = RangesI rd rs1 imm
HasRanges (Beq rs1 rs2 imm) = RangesB rs1 rs2 imm
HasRanges (Bne rs1 rs2 imm) = RangesB rs1 rs2 imm
HasRanges (Blt rs1 rs2 imm) = RangesB rs1 rs2 imm
HasRanges (Bge rs1 rs2 imm) = RangesB rs1 rs2 imm
HasRanges (Bltu rs1 rs2 imm) = RangesB rs1 rs2 imm
HasRanges (Bgeu rs1 rs2 imm) = RangesB rs1 rs2 imm
HasRanges (Lb rd rs1 imm) = RangesI rd rs1 imm
HasRanges (Lh rd rs1 imm) = RangesI rd rs1 imm
HasRanges (Lw rd rs1 imm) = RangesI rd rs1 imm
HasRanges (Lbu rd rs1 imm) = RangesI rd rs1 imm
HasRanges (Lhu rd rs1 imm) = RangesI rd rs1 imm
HasRanges (Sb rs1 rs2 imm) = RangesS rs1 rs2 imm
HasRanges (Sh rs1 rs2 imm) = RangesS rs1 rs2 imm
HasRanges (Sw rs1 rs2 imm) = RangesS rs1 rs2 imm
HasRanges (Addi rd rs1 imm) = RangesI rd rs1 imm
HasRanges (Slti rd rs1 imm) = RangesI rd rs1 imm
HasRanges (Sltiu rd rs1 imm) = RangesI rd rs1 imm
HasRanges (Xori rd rs1 imm) = RangesI rd rs1 imm
HasRanges (Ori rd rs1 imm) = RangesI rd rs1 imm
HasRanges (Andi rd rs1 imm) = RangesI rd rs1 imm
HasRanges (Slli rd rs1 imm) = RangesR rd rs1 imm
HasRanges (Srli rd rs1 imm) = RangesR rd rs1 imm
HasRanges (Srai rd rs1 imm) = RangesR rd rs1 imm
HasRanges (Add rd rs1 rs2) = RangesR rd rs1 rs2
HasRanges (Sub rd rs1 rs2) = RangesR rd rs1 rs2
HasRanges (Sll rd rs1 rs2) = RangesR rd rs1 rs2
HasRanges (Slt rd rs1 rs2) = RangesR rd rs1 rs2
HasRanges (Sltu rd rs1 rs2) = RangesR rd rs1 rs2
HasRanges (Xor rd rs1 rs2) = RangesR rd rs1 rs2
HasRanges (Srl rd rs1 rs2) = RangesR rd rs1 rs2
HasRanges (Sra rd rs1 rs2) = RangesR rd rs1 rs2
HasRanges (Or rd rs1 rs2) = RangesR rd rs1 rs2
HasRanges (And rd rs1 rs2) = RangesR rd rs1 rs2
HasRanges (Mul rd rs1 rs2) = RangesR rd rs1 rs2
HasRanges (Mulh rd rs1 rs2) = RangesR rd rs1 rs2
HasRanges (Mulhsu rd rs1 rs2) = RangesR rd rs1 rs2
HasRanges (Mulhu rd rs1 rs2) = RangesR rd rs1 rs2
HasRanges (Div rd rs1 rs2) = RangesR rd rs1 rs2
HasRanges (Divu rd rs1 rs2) = RangesR rd rs1 rs2
HasRanges (Rem rd rs1 rs2) = RangesR rd rs1 rs2
HasRanges (Remu rd rs1 rs2) = RangesR rd rs1 rs2
HasRanges (Fence word) = (word < 2 ^ 32) × (opcode word ≡ 0b0001111) × (funct3 word ≡ 0b000)
HasRanges Ecall = Unit {0}
HasRanges Ebreak = Unit {0}
