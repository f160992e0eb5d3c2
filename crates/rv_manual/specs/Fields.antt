-- The fields of an instruction word and its immediate, as the manual's figures draw them. Source: RISC-V unprivileged
-- manual, chapter "RV32I Base Integer Instruction Set", sections "Base Instruction Formats" and "Immediate Encoding
-- Variants".
use Rattle.std.specs.Prelude.{ℕ, ◌+◌, ◌*◌, ◌/◌, ◌%◌, ◌^◌, ℤ, pos, ◌-ℤ◌}

-- the bits of a word from a high one down to a low one, as a number
abbrev pub bits : ℕ → ℕ → ℕ → ℕ
bits high low w = w % 2 ^ (high + 1) / 2 ^ low

abbrev pub rd : ℕ → ℕ
rd w = bits 11 7 w

abbrev pub rs1 : ℕ → ℕ
rs1 w = bits 19 15 w

abbrev pub rs2 : ℕ → ℕ
rs2 w = bits 24 20 w

-- how far a shift by an immediate shifts
abbrev pub shamt : ℕ → ℕ
shamt w = bits 24 20 w

-- Immediates are integers. Bit 31 of the word is the sign bit of each.
abbrev pub i_immediate : ℕ → ℤ
i_immediate w = pos (bits 30 20 w) -ℤ pos (bits 31 31 w * 2 ^ 11)

abbrev pub s_immediate : ℕ → ℤ
s_immediate w = pos (bits 30 25 w * 2 ^ 5 + bits 11 7 w) -ℤ pos (bits 31 31 w * 2 ^ 11)

abbrev pub b_immediate : ℕ → ℤ
b_immediate w = pos (bits 7 7 w * 2 ^ 11 + bits 30 25 w * 2 ^ 5 + bits 11 8 w * 2) -ℤ pos (bits 31 31 w * 2 ^ 12)

abbrev pub u_immediate : ℕ → ℤ
u_immediate w = pos (bits 30 12 w * 2 ^ 12) -ℤ pos (bits 31 31 w * 2 ^ 31)

abbrev pub j_immediate : ℕ → ℤ
j_immediate w = pos (bits 19 12 w * 2 ^ 12 + bits 20 20 w * 2 ^ 11 + bits 30 21 w * 2) -ℤ pos (bits 31 31 w * 2 ^ 20)
