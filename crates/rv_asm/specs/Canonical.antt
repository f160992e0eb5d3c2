-- The canonical line of a word. It has the name, one blank, and operands with a comma and one blank between them. There
-- are no blanks in `number(rs1)`. Numbers are decimal, and targets are numbers. A word without such a line is `.word
-- 0x` and eight digits. The rows and operands are those of sources.
use Rattle.std.specs.Prelude.{◌≡◌, ◌⊎◌, ◌-◌, ◌/◌, ◌^◌, ◌==◌, ◌++◌, ℕ, List, [], ◌∷◌, Some, nat_lt, codes, decimal, if◌then◌else◌}
use Rattle.std.specs.List.{flat_map}
use Rattle.rv_decode.specs.declared.instruction.Inst.{Inst}
use Rattle.rv_decode.specs.Formats.{rd, rs1, rs2, imm_i, imm_s, imm_b, imm_j, shift_amount}
use Rattle.rv_decode.specs.Rows.{decoded}
use Rattle.line_texts.specs.Numbers.{hex_word}
use Rattle.rv_asm.specs.declared.table.Field.{Field}
use Rattle.rv_asm.specs.declared.table.Field.TheVariants.{Rd, Rs1, Rs2}
use Rattle.rv_asm.specs.declared.table.Want.{Want}
use Rattle.rv_asm.specs.declared.table.Want.TheVariants.{Register, Mark, Number, Target}
use Rattle.rv_asm.specs.declared.table.Format.{Format}
use Rattle.rv_asm.specs.declared.table.Format.TheVariants.{Upper, Jump, Indexed, Branch, Store, Immediate, Shift, Registers, Plain, Word}
use Rattle.rv_asm.specs.declared.table.Operands.{Operands}
use Rattle.rv_asm.specs.Table.{Statement, instruction, Row, wants, rows, named}

-- the operands of a word by the format: rd, rs1, rs2 and the immediate, or 0
abbrev pub of_four : ℕ → ℕ → ℕ → ℕ → Operands
of_four d a b m = record { rd = d; rs1 = a; rs2 = b; imm = m }

abbrev pub unpacked : Format → ℕ → Operands
unpacked Upper w = of_four (rd w) 0 0 (w / 2 ^ 12)
unpacked Jump w = of_four (rd w) 0 0 (imm_j w)
unpacked Indexed w = of_four (rd w) (rs1 w) 0 (imm_i w)
unpacked Branch w = of_four 0 (rs1 w) (rs2 w) (imm_b w)
unpacked Store w = of_four 0 (rs1 w) (rs2 w) (imm_s w)
unpacked Immediate w = of_four (rd w) (rs1 w) 0 (imm_i w)
unpacked Shift w = of_four (rd w) (rs1 w) 0 (shift_amount w)
unpacked Registers w = of_four (rd w) (rs1 w) (rs2 w) 0
unpacked Plain w = of_four 0 0 0 0
unpacked Word w = of_four 0 0 0 w

-- the register of a field
abbrev pub register_in : Field → Operands → ℕ
register_in Rd o = o.rd
register_in Rs1 o = o.rs1
register_in Rs2 o = o.rs2

-- a number of 32 bits in two's complement, in decimal
abbrev pub signed_text : ℕ → List ℕ
signed_text imm = if nat_lt imm (2 ^ 31) then decimal imm else 45 ∷ decimal (2 ^ 32 - imm)

-- What is printed for a want: `x` and the register's number, the byte, or the number. A comma has a blank after it.
abbrev pub printed_want : Operands → Want → List ℕ
printed_want o (Register field) = 120 ∷ decimal (register_in field o)
printed_want o (Mark byte) = if byte == 44 then codes ", " else byte ∷ []
printed_want o (Number low high) = signed_text o.imm
printed_want o (Target low high) = signed_text o.imm

abbrev pub printed : Operands → List Want → List ℕ
printed o ws = flat_map (printed_want o) ws

-- a blank and the operands, if there are some
abbrev pub operands_text : Operands → List Want → List ℕ
operands_text o [] = []
operands_text o (w ∷ ws) = 32 ∷ printed o (w ∷ ws)

-- the line of a word by a row: the row's instruction with the word's operands means the word
pub record IsSpelled (w : ℕ) (line : List ℕ) : Type 0 where
  pub name : List ℕ
  pub row : Row Statement
  pub there : named rows name ≡ Some row
  pub inst : Inst
  pub says : row.says (unpacked row.format w) ≡ instruction inst
  pub word : decoded w ≡ Some inst
  pub text : line ≡ name ++ operands_text (unpacked row.format w) (wants row.format)

-- the line of a word: that of its row, or of the plain word if it has none
abbrev pub IsCanonical : ℕ → List ℕ → Type 0
IsCanonical w line =
    IsSpelled w line ⊎ ((((text : List ℕ) → IsSpelled w text → ⊥)) × (line ≡ codes ".word 0x" ++ hex_word w))
