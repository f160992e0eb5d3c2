-- The fields of an instruction word and its immediate, by the formats of RV32I. Source: RISC-V unprivileged manual,
-- chapter "RV32I Base Integer Instruction Set", sections "Base Instruction Formats" and "Immediate Encoding Variants".
-- A word is a number below 2 ^ 32.
use Rattle.std.specs.Prelude.{ℕ, ◌+◌, ◌-◌, ◌*◌, ◌/◌, ◌%◌, ◌^◌, cond, nat_lt}

-- the bits of a word from a high one down to a low one, as a number. The high one is never below the low one.
abbrev pub bits : ℕ → ℕ → ℕ → ℕ
bits high low w = w / 2 ^ low % 2 ^ (high + 1 - low)

abbrev pub opcode : ℕ → ℕ
opcode w = w % 2 ^ 7

abbrev pub rd : ℕ → ℕ
rd w = bits 11 7 w

abbrev pub funct3 : ℕ → ℕ
funct3 w = bits 14 12 w

abbrev pub rs1 : ℕ → ℕ
rs1 w = bits 19 15 w

abbrev pub rs2 : ℕ → ℕ
rs2 w = bits 24 20 w

abbrev pub funct7 : ℕ → ℕ
funct7 w = bits 31 25 w

-- a number of so many bits in two's complement, as one of 32 bits. There are 1 to 32 bits, so neither subtraction
-- truncates.
abbrev pub sign_extended : ℕ → ℕ → ℕ
sign_extended width n = cond (nat_lt n (2 ^ (width - 1))) n (n + 2 ^ 32 - 2 ^ width)

-- the immediate of format I: bits 31 to 20 are its bits 11 to 0
abbrev pub imm_i : ℕ → ℕ
imm_i w = sign_extended 12 (bits 31 20 w)

-- of format S: bits 31:25 are its bits 11:5, and bits 11:7 its bits 4:0
abbrev pub imm_s : ℕ → ℕ
imm_s w = sign_extended 12 (bits 31 25 w * 2 ^ 5 + bits 11 7 w)

-- of format B: bit 31 is its bit 12, bit 7 its bit 11, bits 30:25 its bits 10:5, bits 11:8 its bits 4:1
abbrev pub imm_b : ℕ → ℕ
imm_b w = sign_extended 13 (bits 31 31 w * 2 ^ 12 + bits 7 7 w * 2 ^ 11 + bits 30 25 w * 2 ^ 5 + bits 11 8 w * 2 ^ 1)

-- of format U: bits 31 to 12 are its bits 31 to 12
abbrev pub imm_u : ℕ → ℕ
imm_u w = bits 31 12 w * 2 ^ 12

-- of format J: bit 31 is its bit 20, bits 19:12 its bits 19:12, bit 20 its bit 11, bits 30:21 its bits 10:1
abbrev pub imm_j : ℕ → ℕ
imm_j w = sign_extended 21 (bits 31 31 w * 2 ^ 20 + bits 19 12 w * 2 ^ 12 + bits 20 20 w * 2 ^ 11 + bits 30 21 w * 2 ^ 1)

-- how far a shift by an immediate shifts: bits 24 to 20
abbrev pub shift_amount : ℕ → ℕ
shift_amount w = bits 24 20 w
