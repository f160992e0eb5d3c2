-- The instructions of RV32I and RV32M, a row each, by their formats. Source: RISC-V unprivileged manual, chapter
-- "RV32/64G Instruction Set Listings", tables "RV32I Base Instruction Set" and "RV32M Standard Extension". A row has
-- the fixed bits, in the order of the manual's columns, and then what the instruction computes.
use Rattle.std.specs.Prelude.{List, [], ◌∷◌, ◌++◌, pos, ◌+ℤ◌}
use Rattle.rv_machine.specs.StateChanges.{trapped}
use Rattle.rv_machine.specs.SystemCalls.{called}
use Rattle.rv_manual.specs.Integers.{twos_complement}
use Rattle.rv_manual.specs.Operations.{add, sub, slt, sltu, xor, or, and, sll, srl, sra, mul, mulh, mulhsu, mulhu, div, divu, rem, remu, equal, not_equal, less, greater_or_equal, less_unsigned, greater_or_equal_unsigned}
use Rattle.rv_manual.specs.Access.{byte, halfword, word, with_byte, with_halfword, with_word}
use Rattle.rv_manual.specs.Formats.{Row, r_type, i_type, shift_type, load_type, s_type, b_type, u_type, j_type, jump_to_register, fence, environment}

-- upper immediates, of format U
abbrev pub upper_immediates : List Row
upper_immediates =
    u_type 0b0110111 (λ pc immediate. immediate)  -- LUI
    ∷ u_type 0b0010111 (λ pc immediate. pc +ℤ immediate)  -- AUIPC
    ∷ []

-- unconditional jumps, of the formats J and I
abbrev pub jumping : List Row
jumping =
    j_type 0b1101111  -- JAL
    ∷ jump_to_register 0b000 0b1100111  -- JALR
    ∷ []

-- conditional branches, of format B
abbrev pub branching : List Row
branching =
    b_type 0b000 0b1100011 equal  -- BEQ
    ∷ b_type 0b001 0b1100011 not_equal  -- BNE
    ∷ b_type 0b100 0b1100011 less  -- BLT
    ∷ b_type 0b101 0b1100011 greater_or_equal  -- BGE
    ∷ b_type 0b110 0b1100011 less_unsigned  -- BLTU
    ∷ b_type 0b111 0b1100011 greater_or_equal_unsigned  -- BGEU
    ∷ []

-- loads, of format I
abbrev pub loading : List Row
loading =
    load_type 0b000 0b0000011 byte (twos_complement 7)  -- LB
    ∷ load_type 0b001 0b0000011 halfword (twos_complement 15)  -- LH
    ∷ load_type 0b010 0b0000011 word (twos_complement 31)  -- LW
    ∷ load_type 0b100 0b0000011 byte pos  -- LBU
    ∷ load_type 0b101 0b0000011 halfword pos  -- LHU
    ∷ []

-- stores, of format S
abbrev pub storing : List Row
storing =
    s_type 0b000 0b0100011 byte with_byte  -- SB
    ∷ s_type 0b001 0b0100011 halfword with_halfword  -- SH
    ∷ s_type 0b010 0b0100011 word with_word  -- SW
    ∷ []

-- operations on a register and an immediate, of format I
abbrev pub register_immediate : List Row
register_immediate =
    i_type 0b000 0b0010011 add  -- ADDI
    ∷ i_type 0b010 0b0010011 slt  -- SLTI
    ∷ i_type 0b011 0b0010011 sltu  -- SLTIU
    ∷ i_type 0b100 0b0010011 xor  -- XORI
    ∷ i_type 0b110 0b0010011 or  -- ORI
    ∷ i_type 0b111 0b0010011 and  -- ANDI
    ∷ shift_type 0b0000000 0b001 0b0010011 sll  -- SLLI
    ∷ shift_type 0b0000000 0b101 0b0010011 srl  -- SRLI
    ∷ shift_type 0b0100000 0b101 0b0010011 sra  -- SRAI
    ∷ []

-- operations on two registers, of format R
abbrev pub register_register : List Row
register_register =
    r_type 0b0000000 0b000 0b0110011 add  -- ADD
    ∷ r_type 0b0100000 0b000 0b0110011 sub  -- SUB
    ∷ r_type 0b0000000 0b001 0b0110011 sll  -- SLL
    ∷ r_type 0b0000000 0b010 0b0110011 slt  -- SLT
    ∷ r_type 0b0000000 0b011 0b0110011 sltu  -- SLTU
    ∷ r_type 0b0000000 0b100 0b0110011 xor  -- XOR
    ∷ r_type 0b0000000 0b101 0b0110011 srl  -- SRL
    ∷ r_type 0b0100000 0b101 0b0110011 sra  -- SRA
    ∷ r_type 0b0000000 0b110 0b0110011 or  -- OR
    ∷ r_type 0b0000000 0b111 0b0110011 and  -- AND
    ∷ []

-- RV32M, of format R
abbrev pub products : List Row
products =
    r_type 0b0000001 0b000 0b0110011 mul  -- MUL
    ∷ r_type 0b0000001 0b001 0b0110011 mulh  -- MULH
    ∷ r_type 0b0000001 0b010 0b0110011 mulhsu  -- MULHSU
    ∷ r_type 0b0000001 0b011 0b0110011 mulhu  -- MULHU
    ∷ r_type 0b0000001 0b100 0b0110011 div  -- DIV
    ∷ r_type 0b0000001 0b101 0b0110011 divu  -- DIVU
    ∷ r_type 0b0000001 0b110 0b0110011 rem  -- REM
    ∷ r_type 0b0000001 0b111 0b0110011 remu  -- REMU
    ∷ []

-- the order of memory, a system call, and a breakpoint, which is trap 3
abbrev pub system : List Row
system =
    fence 0b000 0b0001111  -- FENCE
    ∷ environment 0b000000000000 0b00000 0b000 0b00000 0b1110011 called  -- ECALL
    ∷ environment 0b000000000001 0b00000 0b000 0b00000 0b1110011 (λ s journal. trapped s 3)  -- EBREAK
    ∷ []

abbrev pub listing : List Row
listing = upper_immediates ++ jumping ++ branching ++ loading ++ storing ++ register_immediate ++ register_register ++ products ++ system
