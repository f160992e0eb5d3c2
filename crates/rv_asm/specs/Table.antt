-- The instructions of a source, a row for each name. Compare it with the table of the instruction words. The lower-case
-- names are those of the RISC-V unprivileged manual, chapter "RV32/64G Instruction Set Listings". The order of operands
-- is from its chapter "RISC-V Assembly Programmer's Handbook". There `fence` without operands is a fence of all on all,
-- the word 0ff0000f. An extension of the instruction set adds a line for each of its instructions.
use Rattle.std.specs.Prelude.{◌≡◌, ℕ, ◌*◌, ◌^◌, ◌<◌, List, [], ◌∷◌, Option, Some, codes}
use Rattle.std.specs.Str.{bytes_eq}
use Rattle.std.specs.Map.{lookup}
use Rattle.rv_decode.specs.declared.instruction.Inst.{Inst}
use Rattle.rv_decode.specs.declared.instruction.Inst.TheVariants.{Lui, Auipc, Jal, Jalr, Beq, Bne, Blt, Bge, Bltu, Bgeu, Lb, Lh, Lw, Lbu, Lhu, Sb, Sh, Sw, Addi, Slti, Sltiu, Xori, Ori, Andi, Slli, Srli, Srai, Add, Sub, Sll, Slt, Sltu, Xor, Srl, Sra, Or, And, Mul, Mulh, Mulhsu, Mulhu, Div, Divu, Rem, Remu, Fence, Ecall, Ebreak}
use Rattle.rv_decode.specs.Rows.{decoded}
use Rattle.rv_asm.specs.declared.table.Field.TheVariants.{Rd, Rs1, Rs2}
use Rattle.rv_asm.specs.declared.table.Want.{Want}
use Rattle.rv_asm.specs.declared.table.Want.TheVariants.{Register, Mark, Number, Target}
use Rattle.rv_asm.specs.declared.table.Format.{Format}
use Rattle.rv_asm.specs.declared.table.Format.TheVariants.{Upper, Jump, Indexed, Branch, Store, Immediate, Shift, Registers, Plain, Word}
use Rattle.rv_asm.specs.declared.table.Operands.{Operands}

-- The operands of each format: registers, bytes, and a number or a target with its range. A range goes so far below 0
-- and so far above.
abbrev pub comma : Want
comma = Mark 44

abbrev pub opening : Want
opening = Mark 40

abbrev pub closing : Want
closing = Mark 41

abbrev pub wants : Format → List Want
wants Upper = Register Rd ∷ comma ∷ Number 0 1048575 ∷ []
wants Jump = Register Rd ∷ comma ∷ Target 1048576 1048574 ∷ []
wants Indexed = Register Rd ∷ comma ∷ Number 2048 2047 ∷ opening ∷ Register Rs1 ∷ closing ∷ []
wants Branch = Register Rs1 ∷ comma ∷ Register Rs2 ∷ comma ∷ Target 4096 4094 ∷ []
wants Store = Register Rs2 ∷ comma ∷ Number 2048 2047 ∷ opening ∷ Register Rs1 ∷ closing ∷ []
wants Immediate = Register Rd ∷ comma ∷ Register Rs1 ∷ comma ∷ Number 2048 2047 ∷ []
wants Shift = Register Rd ∷ comma ∷ Register Rs1 ∷ comma ∷ Number 0 31 ∷ []
wants Registers = Register Rd ∷ comma ∷ Register Rs1 ∷ comma ∷ Register Rs2 ∷ []
wants Plain = []
wants Word = Number 0 4294967295 ∷ []

-- what a line means: an instruction, or a plain word
pub data Statement : Type 0 where
  instruction : Inst → Statement
  bare : ℕ → Statement

-- a row: the format of the operands, and what a line with these operands means
pub record Row (A : Type 0) : Type 0 where
  pub format : Format
  pub says : Operands → A

-- rows by their names
abbrev pub Table : Type 0 → Type 0
Table A = List (List ℕ × Row A)

-- The row of an instruction, by its format: how operands become its fields. A number of LUI and AUIPC is the upper 20
-- bits.
abbrev pub row : Format → (Operands → Inst) → Row Statement
row format inst = record { format = format; says = λ o. instruction (inst o) }

abbrev pub upper : (ℕ → ℕ → Inst) → Row Statement
upper inst = row Upper (λ o. inst o.rd (o.imm * 2 ^ 12))

abbrev pub jump : (ℕ → ℕ → Inst) → Row Statement
jump inst = row Jump (λ o. inst o.rd o.imm)

abbrev pub indexed : (ℕ → ℕ → ℕ → Inst) → Row Statement
indexed inst = row Indexed (λ o. inst o.rd o.rs1 o.imm)

abbrev pub branch : (ℕ → ℕ → ℕ → Inst) → Row Statement
branch inst = row Branch (λ o. inst o.rs1 o.rs2 o.imm)

abbrev pub store : (ℕ → ℕ → ℕ → Inst) → Row Statement
store inst = row Store (λ o. inst o.rs1 o.rs2 o.imm)

abbrev pub immediate : (ℕ → ℕ → ℕ → Inst) → Row Statement
immediate inst = row Immediate (λ o. inst o.rd o.rs1 o.imm)

abbrev pub shift : (ℕ → ℕ → ℕ → Inst) → Row Statement
shift inst = row Shift (λ o. inst o.rd o.rs1 o.imm)

abbrev pub registers : (ℕ → ℕ → ℕ → Inst) → Row Statement
registers inst = row Registers (λ o. inst o.rd o.rs1 o.rs2)

-- of one that has no operands, and of any word
abbrev pub plain : Inst → Row Statement
plain inst = row Plain (λ o. inst)

abbrev pub any_word : Row Statement
any_word = record { format = Word; says = λ o. bare o.imm }

-- the table
unfoldable pub rows : Table Statement
rows =
    (codes "lui", upper Lui)
    ∷ (codes "auipc", upper Auipc)
    ∷ (codes "jal", jump Jal)
    ∷ (codes "jalr", indexed Jalr)
    ∷ (codes "beq", branch Beq)
    ∷ (codes "bne", branch Bne)
    ∷ (codes "blt", branch Blt)
    ∷ (codes "bge", branch Bge)
    ∷ (codes "bltu", branch Bltu)
    ∷ (codes "bgeu", branch Bgeu)
    ∷ (codes "lb", indexed Lb)
    ∷ (codes "lh", indexed Lh)
    ∷ (codes "lw", indexed Lw)
    ∷ (codes "lbu", indexed Lbu)
    ∷ (codes "lhu", indexed Lhu)
    ∷ (codes "sb", store Sb)
    ∷ (codes "sh", store Sh)
    ∷ (codes "sw", store Sw)
    ∷ (codes "addi", immediate Addi)
    ∷ (codes "slti", immediate Slti)
    ∷ (codes "sltiu", immediate Sltiu)
    ∷ (codes "xori", immediate Xori)
    ∷ (codes "ori", immediate Ori)
    ∷ (codes "andi", immediate Andi)
    ∷ (codes "slli", shift Slli)
    ∷ (codes "srli", shift Srli)
    ∷ (codes "srai", shift Srai)
    ∷ (codes "add", registers Add)
    ∷ (codes "sub", registers Sub)
    ∷ (codes "sll", registers Sll)
    ∷ (codes "slt", registers Slt)
    ∷ (codes "sltu", registers Sltu)
    ∷ (codes "xor", registers Xor)
    ∷ (codes "srl", registers Srl)
    ∷ (codes "sra", registers Sra)
    ∷ (codes "or", registers Or)
    ∷ (codes "and", registers And)
    ∷ (codes "mul", registers Mul)
    ∷ (codes "mulh", registers Mulh)
    ∷ (codes "mulhsu", registers Mulhsu)
    ∷ (codes "mulhu", registers Mulhu)
    ∷ (codes "div", registers Div)
    ∷ (codes "divu", registers Divu)
    ∷ (codes "rem", registers Rem)
    ∷ (codes "remu", registers Remu)
    ∷ (codes "fence", plain (Fence 0x0ff0000f))
    ∷ (codes "ecall", plain Ecall)
    ∷ (codes "ebreak", plain Ebreak)
    ∷ (codes ".word", any_word)
    ∷ []

-- the row of a name
unfoldable pub named : {A : Type 0} → Table A → List ℕ → Option (Row A)
named table name = lookup (bytes_eq name) table

-- a word means what a line means: it decodes to the instruction, or is the line's word
abbrev pub IsWordOf : Statement → ℕ → Type 0
IsWordOf (instruction inst) w = (w < 2 ^ 32) × (decoded w ≡ Some inst)
IsWordOf (bare n) w = w ≡ n
