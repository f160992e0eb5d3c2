-- The effects of the instructions, a line each. Source: RISC-V unprivileged manual, chapters "RV32I Base Integer
-- Instruction Set" and "M" Extension for Integer Multiplication and Division. x gives the registers by their numbers,
-- and pc is the address of the instruction. Sums are modulo 2 ^ 32. In SUB the subtraction doesn't truncate, since a
-- register is below 2 ^ 32.
use Rattle.std.specs.Prelude.{ℕ, ◌+◌, ◌-◌, ◌*◌, ◌/◌, ◌%◌, ◌^◌, ◌==◌, ◌<◌, true, false, not, nat_lt, bit_and, bit_or, bit_xor}
use Rattle.rv_pages.specs.Memory.{wrapped}
use Rattle.rv_decode.specs.declared.instruction.Inst.{Inst}
use Rattle.rv_decode.specs.declared.instruction.Inst.TheVariants.{Lui, Auipc, Jal, Jalr, Beq, Bne, Blt, Bge, Bltu, Bgeu, Lb, Lh, Lw, Lbu, Lhu, Sb, Sh, Sw, Addi, Slti, Sltiu, Xori, Ori, Andi, Slli, Srli, Srai, Add, Sub, Sll, Slt, Sltu, Xor, Srl, Sra, Or, And, Mul, Mulh, Mulhsu, Mulhu, Div, Divu, Rem, Remu, Fence, Ecall, Ebreak}
use Rattle.rv_machine.specs.declared.effect.Effect.{Effect}
use Rattle.rv_machine.specs.declared.effect.Effect.TheVariants.{Put, Jump, Branch, Load, Store, Nothing, Call, Break}
use Rattle.rv_machine.specs.declared.effect.Width.{Width}
use Rattle.rv_machine.specs.declared.effect.Width.TheVariants.{Byte, Half, Word}
use Rattle.rv_machine.specs.Numbers.{signed_lt, shifted_left, shifted_right, shifted_right_signed, one_if}
use Rattle.rv_machine.specs.Products.{high_signed, high_signed_unsigned, high_unsigned, quotient_signed, quotient_unsigned, remainder_signed, remainder_unsigned}

-- The effects: Put rd value; Jump rd target; Branch taken target; Nothing; Call; Break. Also Load rd address width
-- with_sign; Store address width value.
abbrev pub effect_of : (ℕ → ℕ) → ℕ → Inst → Effect
-- upper immediates
effect_of x pc (Lui rd imm) = Put rd imm
effect_of x pc (Auipc rd imm) = Put rd (wrapped (pc + imm))
-- jumps
effect_of x pc (Jal rd imm) = Jump rd (wrapped (pc + imm))
effect_of x pc (Jalr rd rs1 imm) = Jump rd (wrapped (x rs1 + imm) / 2 * 2)
-- branches
effect_of x pc (Beq rs1 rs2 imm) = Branch (x rs1 == x rs2) (wrapped (pc + imm))
effect_of x pc (Bne rs1 rs2 imm) = Branch (not (x rs1 == x rs2)) (wrapped (pc + imm))
effect_of x pc (Blt rs1 rs2 imm) = Branch (signed_lt (x rs1) (x rs2)) (wrapped (pc + imm))
effect_of x pc (Bge rs1 rs2 imm) = Branch (not (signed_lt (x rs1) (x rs2))) (wrapped (pc + imm))
effect_of x pc (Bltu rs1 rs2 imm) = Branch (nat_lt (x rs1) (x rs2)) (wrapped (pc + imm))
effect_of x pc (Bgeu rs1 rs2 imm) = Branch (not (nat_lt (x rs1) (x rs2))) (wrapped (pc + imm))
-- loads and stores
effect_of x pc (Lb rd rs1 imm) = Load rd (wrapped (x rs1 + imm)) Byte true
effect_of x pc (Lh rd rs1 imm) = Load rd (wrapped (x rs1 + imm)) Half true
effect_of x pc (Lw rd rs1 imm) = Load rd (wrapped (x rs1 + imm)) Word false
effect_of x pc (Lbu rd rs1 imm) = Load rd (wrapped (x rs1 + imm)) Byte false
effect_of x pc (Lhu rd rs1 imm) = Load rd (wrapped (x rs1 + imm)) Half false
effect_of x pc (Sb rs1 rs2 imm) = Store (wrapped (x rs1 + imm)) Byte (x rs2)
effect_of x pc (Sh rs1 rs2 imm) = Store (wrapped (x rs1 + imm)) Half (x rs2)
effect_of x pc (Sw rs1 rs2 imm) = Store (wrapped (x rs1 + imm)) Word (x rs2)
-- computations on a register and an immediate
effect_of x pc (Addi rd rs1 imm) = Put rd (wrapped (x rs1 + imm))
effect_of x pc (Slti rd rs1 imm) = Put rd (one_if (signed_lt (x rs1) imm))
effect_of x pc (Sltiu rd rs1 imm) = Put rd (one_if (nat_lt (x rs1) imm))
effect_of x pc (Xori rd rs1 imm) = Put rd (bit_xor (x rs1) imm)
effect_of x pc (Ori rd rs1 imm) = Put rd (bit_or (x rs1) imm)
effect_of x pc (Andi rd rs1 imm) = Put rd (bit_and (x rs1) imm)
effect_of x pc (Slli rd rs1 imm) = Put rd (shifted_left (x rs1) imm)
effect_of x pc (Srli rd rs1 imm) = Put rd (shifted_right (x rs1) imm)
effect_of x pc (Srai rd rs1 imm) = Put rd (shifted_right_signed (x rs1) imm)
-- computations on two registers
effect_of x pc (Add rd rs1 rs2) = Put rd (wrapped (x rs1 + x rs2))
effect_of x pc (Sub rd rs1 rs2) = Put rd (wrapped (x rs1 + 2 ^ 32 - x rs2))
effect_of x pc (Sll rd rs1 rs2) = Put rd (shifted_left (x rs1) (x rs2 % 32))
effect_of x pc (Slt rd rs1 rs2) = Put rd (one_if (signed_lt (x rs1) (x rs2)))
effect_of x pc (Sltu rd rs1 rs2) = Put rd (one_if (nat_lt (x rs1) (x rs2)))
effect_of x pc (Xor rd rs1 rs2) = Put rd (bit_xor (x rs1) (x rs2))
effect_of x pc (Srl rd rs1 rs2) = Put rd (shifted_right (x rs1) (x rs2 % 32))
effect_of x pc (Sra rd rs1 rs2) = Put rd (shifted_right_signed (x rs1) (x rs2 % 32))
effect_of x pc (Or rd rs1 rs2) = Put rd (bit_or (x rs1) (x rs2))
effect_of x pc (And rd rs1 rs2) = Put rd (bit_and (x rs1) (x rs2))
-- products, quotients and remainders of two registers
effect_of x pc (Mul rd rs1 rs2) = Put rd (wrapped (x rs1 * x rs2))
effect_of x pc (Mulh rd rs1 rs2) = Put rd (high_signed (x rs1) (x rs2))
effect_of x pc (Mulhsu rd rs1 rs2) = Put rd (high_signed_unsigned (x rs1) (x rs2))
effect_of x pc (Mulhu rd rs1 rs2) = Put rd (high_unsigned (x rs1) (x rs2))
effect_of x pc (Div rd rs1 rs2) = Put rd (quotient_signed (x rs1) (x rs2))
effect_of x pc (Divu rd rs1 rs2) = Put rd (quotient_unsigned (x rs1) (x rs2))
effect_of x pc (Rem rd rs1 rs2) = Put rd (remainder_signed (x rs1) (x rs2))
effect_of x pc (Remu rd rs1 rs2) = Put rd (remainder_unsigned (x rs1) (x rs2))
-- the rest
effect_of x pc (Fence word) = Nothing
effect_of x pc Ecall = Call
effect_of x pc Ebreak = Break

-- how many bytes a load or a store moves
abbrev pub bytes_of : Width → ℕ
bytes_of Byte = 1
bytes_of Half = 2
bytes_of Word = 4

-- the register that an effect changes is one of x0 to x31
abbrev pub NamesRegister : Effect → Type 0
NamesRegister (Put rd value) = rd < 32
NamesRegister (Jump rd target) = rd < 32
NamesRegister (Load rd at width with_sign) = rd < 32
NamesRegister _ = Unit {0}
