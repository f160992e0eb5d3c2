-- The name of what a line says.
use Rattle.std.proofs.Common.{ℕ, List}
use Rattle.std.specs.Prelude.{codes}
use Rattle.rv_decode.specs.declared.instruction.Inst.{Inst}
use Rattle.rv_decode.specs.declared.instruction.Inst.TheVariants.{Lui, Auipc, Jal, Jalr, Beq, Bne, Blt, Bge, Bltu, Bgeu, Lb, Lh, Lw, Lbu, Lhu, Sb, Sh, Sw, Addi, Slti, Sltiu, Xori, Ori, Andi, Slli, Srli, Srai, Add, Sub, Sll, Slt, Sltu, Xor, Srl, Sra, Or, And, Mul, Mulh, Mulhsu, Mulhu, Div, Divu, Rem, Remu, Fence, Ecall, Ebreak}
use Rattle.rv_asm.specs.Table.{Statement, instruction, bare}

-- a fence has one name, whatever its other bits
abbrev pub name_of : Inst → List ℕ
name_of (Lui _ _) = codes "lui"
name_of (Auipc _ _) = codes "auipc"
name_of (Jal _ _) = codes "jal"
name_of (Jalr _ _ _) = codes "jalr"
name_of (Beq _ _ _) = codes "beq"
name_of (Bne _ _ _) = codes "bne"
name_of (Blt _ _ _) = codes "blt"
name_of (Bge _ _ _) = codes "bge"
name_of (Bltu _ _ _) = codes "bltu"
name_of (Bgeu _ _ _) = codes "bgeu"
name_of (Lb _ _ _) = codes "lb"
name_of (Lh _ _ _) = codes "lh"
name_of (Lw _ _ _) = codes "lw"
name_of (Lbu _ _ _) = codes "lbu"
name_of (Lhu _ _ _) = codes "lhu"
name_of (Sb _ _ _) = codes "sb"
name_of (Sh _ _ _) = codes "sh"
name_of (Sw _ _ _) = codes "sw"
name_of (Addi _ _ _) = codes "addi"
name_of (Slti _ _ _) = codes "slti"
name_of (Sltiu _ _ _) = codes "sltiu"
name_of (Xori _ _ _) = codes "xori"
name_of (Ori _ _ _) = codes "ori"
name_of (Andi _ _ _) = codes "andi"
name_of (Slli _ _ _) = codes "slli"
name_of (Srli _ _ _) = codes "srli"
name_of (Srai _ _ _) = codes "srai"
name_of (Add _ _ _) = codes "add"
name_of (Sub _ _ _) = codes "sub"
name_of (Sll _ _ _) = codes "sll"
name_of (Slt _ _ _) = codes "slt"
name_of (Sltu _ _ _) = codes "sltu"
name_of (Xor _ _ _) = codes "xor"
name_of (Srl _ _ _) = codes "srl"
name_of (Sra _ _ _) = codes "sra"
name_of (Or _ _ _) = codes "or"
name_of (And _ _ _) = codes "and"
name_of (Mul _ _ _) = codes "mul"
name_of (Mulh _ _ _) = codes "mulh"
name_of (Mulhsu _ _ _) = codes "mulhsu"
name_of (Mulhu _ _ _) = codes "mulhu"
name_of (Div _ _ _) = codes "div"
name_of (Divu _ _ _) = codes "divu"
name_of (Rem _ _ _) = codes "rem"
name_of (Remu _ _ _) = codes "remu"
name_of (Fence _) = codes "fence"
name_of Ecall = codes "ecall"
name_of Ebreak = codes "ebreak"

abbrev pub name_in : Statement → List ℕ
name_in (instruction inst) = name_of inst
name_in (bare _) = codes ".word"
