-- Rows of the listing by their formats: which bits an instruction fixes, and what it does. Source: RISC-V unprivileged
-- manual, chapter "RV32I Base Integer Instruction Set", from the section "Base Instruction Formats" on.
use Rattle.std.specs.Prelude.{ℕ, ◌*◌, ◌==◌, Bool, List, [], ◌∷◌, Option, is_some, ℤ, pos, ◌+ℤ◌}
use Rattle.std.specs.List.{list_all}
use Rattle.rv_pages.specs.Memory.{Memory}
use Rattle.rv_machine.specs.MachineState.{MachineState}
use Rattle.rv_manual.specs.Fields.{bits, rd, rs1, rs2, shamt, i_immediate, s_immediate, b_immediate, u_immediate, j_immediate}
use Rattle.rv_manual.specs.Integers.{word_of}
use Rattle.rv_manual.specs.Changes.{x, following, gives, jumps, branches, loads, stores, address}

pub record Row : Type 0 where
  -- the fixed bits: from a high one down to a low one, and their value as a number
  pub fixed : List (ℕ × ℕ × ℕ)
  -- the state after an instruction of the row, from its word, the state before and the recorded input
  pub after : ℕ → MachineState → List (List ℕ) → MachineState

-- whether a word has the bits that a row fixes
abbrev pub takes : ℕ → Row → Bool
takes w row = list_all (λ f. bits f.0 f.1 w == f.2) row.fixed

-- The rows of each format. A comment has the fields from bit 31 down. Those that are fixed are arguments. funct7, rs2,
-- rs1, funct3, rd, opcode: an operation on two registers
abbrev pub r_type : ℕ → ℕ → ℕ → (ℕ → ℕ → ℤ) → Row
r_type funct7 funct3 opcode operation = record {
  fixed = (31, 25, funct7) ∷ (14, 12, funct3) ∷ (6, 0, opcode) ∷ [];
  after = λ w s journal. gives s (rd w) (operation (x s (rs1 w)) (x s (rs2 w)));
}

-- imm[11:0], rs1, funct3, rd, opcode: an operation on a register and the immediate, sign-extended to a word
abbrev pub i_type : ℕ → ℕ → (ℕ → ℕ → ℤ) → Row
i_type funct3 opcode operation = record {
  fixed = (14, 12, funct3) ∷ (6, 0, opcode) ∷ [];
  after = λ w s journal. gives s (rd w) (operation (x s (rs1 w)) (word_of (i_immediate w)));
}

-- seven fixed bits, shamt, rs1, funct3, rd, opcode: a shift of a register by shamt
abbrev pub shift_type : ℕ → ℕ → ℕ → (ℕ → ℕ → ℤ) → Row
shift_type funct7 funct3 opcode operation = record {
  fixed = (31, 25, funct7) ∷ (14, 12, funct3) ∷ (6, 0, opcode) ∷ [];
  after = λ w s journal. gives s (rd w) (operation (x s (rs1 w)) (shamt w));
}

-- imm[11:0], rs1, funct3, rd, opcode: a load, and the integer of its bytes
abbrev pub load_type : ℕ → ℕ → (Memory → ℕ → Option ℕ) → (ℕ → ℤ) → Row
load_type funct3 opcode load integer = record {
  fixed = (14, 12, funct3) ∷ (6, 0, opcode) ∷ [];
  after = λ w s journal. loads integer s (rd w) (load s.memory (address s w (i_immediate w)));
}

-- imm[11:5], rs2, rs1, funct3, imm[4:0], opcode: a store of rs2
abbrev pub s_type : ℕ → ℕ → (Memory → ℕ → Option ℕ) → (Memory → ℕ → ℕ → Memory) → Row
s_type funct3 opcode load store = record {
  fixed = (14, 12, funct3) ∷ (6, 0, opcode) ∷ [];
  after = λ w s journal. let at : ℕ = address s w (s_immediate w) in stores (is_some (load s.memory at)) s (store s.memory at (x s (rs2 w)));
}

-- imm[12|10:5], rs2, rs1, funct3, imm[4:1|11], opcode: a branch relative to pc
abbrev pub b_type : ℕ → ℕ → (ℕ → ℕ → Bool) → Row
b_type funct3 opcode condition = record {
  fixed = (14, 12, funct3) ∷ (6, 0, opcode) ∷ [];
  after = λ w s journal. branches (condition (x s (rs1 w)) (x s (rs2 w))) s (word_of (pos s.pc +ℤ b_immediate w));
}

-- imm[31:12], rd, opcode: a function of pc and the immediate
abbrev pub u_type : ℕ → (ℤ → ℤ → ℤ) → Row
u_type opcode value = record {
  fixed = (6, 0, opcode) ∷ [];
  after = λ w s journal. gives s (rd w) (value (pos s.pc) (u_immediate w));
}

-- imm[20|10:1|11|19:12], rd, opcode: a jump relative to pc
abbrev pub j_type : ℕ → Row
j_type opcode = record {
  fixed = (6, 0, opcode) ∷ [];
  after = λ w s journal. jumps s (rd w) (word_of (pos s.pc +ℤ j_immediate w));
}

-- imm[11:0], rs1, funct3, rd, opcode: a jump to a register plus an immediate, with bit 0 set to zero
abbrev pub jump_to_register : ℕ → ℕ → Row
jump_to_register funct3 opcode = record {
  fixed = (14, 12, funct3) ∷ (6, 0, opcode) ∷ [];
  after = λ w s journal. jumps s (rd w) (bits 31 1 (address s w (i_immediate w)) * 2);
}

-- fm, pred, succ, rs1, funct3, rd, opcode: an ordering of memory accesses. Here accesses happen in order, so pc just
-- moves on
abbrev pub fence : ℕ → ℕ → Row
fence funct3 opcode = record {
  fixed = (14, 12, funct3) ∷ (6, 0, opcode) ∷ [];
  after = λ w s journal. record s { pc = word_of (following s) };
}

-- all bits are fixed: a request to the execution environment
abbrev pub environment : ℕ → ℕ → ℕ → ℕ → ℕ → (MachineState → List (List ℕ) → MachineState) → Row
environment funct12 rs1 funct3 rd opcode asked = record {
  fixed = (31, 20, funct12) ∷ (19, 15, rs1) ∷ (14, 12, funct3) ∷ (11, 7, rd) ∷ (6, 0, opcode) ∷ [];
  after = λ w s journal. asked s journal;
}
