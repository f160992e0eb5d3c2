-- No public clause cites this file. Words of the formats with given operands, from the word with all operands 0, which
-- is the base.
use Rattle.std.specs.Prelude.{◌≡◌, ◌+◌, ◌*◌, ◌/◌, ◌%◌, ◌^◌, ◌<◌, ◌==◌, ◌&&◌, nat_lt, Bool, false, ℕ}
use Rattle.rv_decode.specs.Formats.{opcode, funct3, funct7}
use Rattle.rv_decode.specs.Ranges.{IsSigned}
use Rattle.rv_asm.specs.declared.table.Format.{Format}
use Rattle.rv_asm.specs.declared.table.Format.TheVariants.{Upper, Jump, Indexed, Branch, Store, Immediate, Shift, Registers, Plain, Word}
use Rattle.rv_asm.specs.declared.table.Operands.{Operands}

-- the word of operands, by the format; each format puts the bits of an immediate elsewhere
abbrev pub packed : Format → ℕ → Operands → ℕ
packed Upper base o = base + o.rd * 2 ^ 7 + o.imm * 2 ^ 12
packed Jump base o =
    base + o.rd * 2 ^ 7 + o.imm / 2 ^ 12 % 2 ^ 8 * 2 ^ 12 + o.imm / 2 ^ 11 % 2 * 2 ^ 20 + o.imm / 2 % 2 ^ 10 * 2 ^ 21
    + o.imm / 2 ^ 20 % 2 * 2 ^ 31
packed Indexed base o = base + o.rd * 2 ^ 7 + o.rs1 * 2 ^ 15 + o.imm % 2 ^ 5 * 2 ^ 20 + o.imm / 2 ^ 5 % 2 ^ 7 * 2 ^ 25
packed Branch base o =
    base + (o.imm / 2 % 2 ^ 4 * 2 + o.imm / 2 ^ 11 % 2) * 2 ^ 7 + o.rs1 * 2 ^ 15 + o.rs2 * 2 ^ 20
    + (o.imm / 2 ^ 12 % 2 * 2 ^ 6 + o.imm / 2 ^ 5 % 2 ^ 6) * 2 ^ 25
packed Store base o = base + o.imm % 2 ^ 5 * 2 ^ 7 + o.rs1 * 2 ^ 15 + o.rs2 * 2 ^ 20 + o.imm / 2 ^ 5 % 2 ^ 7 * 2 ^ 25
packed Immediate base o = base + o.rd * 2 ^ 7 + o.rs1 * 2 ^ 15 + o.imm % 2 ^ 5 * 2 ^ 20 + o.imm / 2 ^ 5 % 2 ^ 7 * 2 ^ 25
packed Shift base o = base + o.rd * 2 ^ 7 + o.rs1 * 2 ^ 15 + o.imm * 2 ^ 20
packed Registers base o = base + o.rd * 2 ^ 7 + o.rs1 * 2 ^ 15 + o.rs2 * 2 ^ 20
packed Plain base o = base
packed Word base o = o.imm

-- A word belongs to a row with this word of zeros. It has the row's opcode, and where the format has them its funct3
-- and funct7. No word belongs to the row of `.word`.
abbrev pub takes : Format → ℕ → ℕ → Bool
takes Upper base w = opcode w == base
takes Jump base w = opcode w == base
takes Indexed base w = (opcode w + funct3 w * 2 ^ 12) == base
takes Branch base w = (opcode w + funct3 w * 2 ^ 12) == base
takes Store base w = (opcode w + funct3 w * 2 ^ 12) == base
takes Immediate base w = (opcode w + funct3 w * 2 ^ 12) == base
takes Shift base w = (opcode w + funct3 w * 2 ^ 12 + funct7 w * 2 ^ 25) == base
takes Registers base w = (opcode w + funct3 w * 2 ^ 12 + funct7 w * 2 ^ 25) == base
takes Plain base w = w == base
takes Word base w = false

-- a base leaves room for the operands: an opcode alone, one with funct3, and one with funct7 too
abbrev pub is_small : ℕ → Bool
is_small base = nat_lt base (2 ^ 15) && (base / 2 ^ 7 % 2 ^ 5 == 0)

abbrev pub is_wide : ℕ → Bool
is_wide base = nat_lt base (2 ^ 32) && (base / 2 ^ 7 % 2 ^ 5 == 0) && (base / 2 ^ 15 % 2 ^ 10 == 0)

abbrev pub is_base : Format → ℕ → Bool
is_base Upper base = nat_lt base (2 ^ 7)
is_base Jump base = nat_lt base (2 ^ 7)
is_base Indexed base = is_small base
is_base Branch base = is_small base
is_base Store base = is_small base
is_base Immediate base = is_small base
is_base Shift base = is_wide base
is_base Registers base = is_wide base
is_base Plain base = nat_lt base (2 ^ 32)
is_base Word base = nat_lt base (2 ^ 32)

-- the base leaves room, as facts
pub record IsSmall (base : ℕ) : Type 0 where
  pub low : base < 2 ^ 15
  pub rd : base / 2 ^ 7 % 2 ^ 5 ≡ 0

pub record IsWide (base : ℕ) : Type 0 where
  pub low : base < 2 ^ 32
  pub rd : base / 2 ^ 7 % 2 ^ 5 ≡ 0
  pub rs : base / 2 ^ 15 % 2 ^ 10 ≡ 0

abbrev pub IsBase : Format → ℕ → Type 0
IsBase Upper base = base < 2 ^ 7
IsBase Jump base = base < 2 ^ 7
IsBase Indexed base = IsSmall base
IsBase Branch base = IsSmall base
IsBase Store base = IsSmall base
IsBase Immediate base = IsSmall base
IsBase Shift base = IsWide base
IsBase Registers base = IsWide base
IsBase Plain base = base < 2 ^ 32
IsBase Word base = base < 2 ^ 32

-- immediates that a format can hold
abbrev pub IsImmediate : Format → ℕ → Type 0
IsImmediate Upper imm = imm < 2 ^ 20
IsImmediate Jump imm = IsSigned 21 imm × (imm % 2 ≡ 0)
IsImmediate Indexed imm = IsSigned 12 imm
IsImmediate Branch imm = IsSigned 13 imm × (imm % 2 ≡ 0)
IsImmediate Store imm = IsSigned 12 imm
IsImmediate Immediate imm = IsSigned 12 imm
IsImmediate Shift imm = imm < 32
IsImmediate Registers imm = Unit {0}
IsImmediate Plain imm = Unit {0}
IsImmediate Word imm = imm < 2 ^ 32

-- operands that a format can hold
pub record InFormat (format : Format) (o : Operands) : Type 0 where
  pub rd : o.rd < 32
  pub rs1 : o.rs1 < 32
  pub rs2 : o.rs2 < 32
  pub imm : IsImmediate format o.imm
