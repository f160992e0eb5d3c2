-- The rows of the assembler are those of the table: the same names and formats, and words that say the instructions.
use Rattle.std.proofs.Common.{◌≡◌, ℕ, ◌+◌, ◌*◌, ◌^◌, ◌<◌, ◌≢◌, true, List, [], ◌∷◌, Option, Some, None, refl, sym, ap, ◌∙◌, arith, inl, inr}
use Rattle.std.specs.Prelude.{codes}
use Rattle.std.specs.Str.{bytes_eq}
use Rattle.std.specs.Map.{lookup}
use Rattle.std.proofs.lemmas.Bool.{eqb-true}
use borrow.Author.Tests.{ltb-true}
use Rattle.rv_decode.specs.declared.instruction.Inst.{Inst}
use Rattle.rv_decode.specs.declared.instruction.Inst.TheVariants.{Lui, Auipc, Jal, Jalr, Beq, Bne, Blt, Bge, Bltu, Bgeu, Lb, Lh, Lw, Lbu, Lhu, Sb, Sh, Sw, Addi, Slti, Sltiu, Xori, Ori, Andi, Slli, Srli, Srai, Add, Sub, Sll, Slt, Sltu, Xor, Srl, Sra, Or, And, Mul, Mulh, Mulhsu, Mulhu, Div, Divu, Rem, Remu, Fence, Ecall, Ebreak}
use Rattle.rv_decode.specs.Ranges.{HasRanges, RangesU, RangesJ, RangesI, RangesS, RangesB, RangesR}
use Rattle.rv_decode.specs.Words.{word_of, word_u, word_j, word_i, word_s, word_b, word_r}
use Rattle.rv_asm.specs.declared.table.Format.{Format}
use Rattle.rv_asm.specs.declared.table.Format.TheVariants.{Upper, Jump, Indexed, Branch, Store, Immediate, Shift, Registers, Plain, Word}
use Rattle.rv_asm.specs.declared.table.Operands.{Operands}
use Rattle.rv_asm.specs.Table.{Statement, instruction, bare, Row, upper, jump, indexed, branch, store, immediate, shift, registers, plain, any_word, rows, named}
use Rattle.rv_asm.specs.PackedWords.{packed, is_small, is_wide, is_base, IsSmall, IsWide, IsBase, InFormat}
use Rattle.rv_asm.specs.Encoder.{code_of, code_row, entries, code_table, encoded}
use Rattle.rv_asm.proofs.Names.{name_of, name_in}
use Rattle.line_texts.proofs.Steps.{which, both, same_bytes}

-- ---- words of 32 bits

small_of : (base : ℕ) → is_small base ≡ true → IsSmall base
small_of base is = let p = both _ _ is in record { low = ltb-true _ _ p.0; rd = eqb-true _ _ p.1 }

wide_of : (base : ℕ) → is_wide base ≡ true → IsWide base
wide_of base is =
    let p = both _ _ is in
    let q = both _ _ p.0 in
    record { low = ltb-true _ _ q.0; rd = eqb-true _ _ q.1; rs = eqb-true _ _ p.1 }

pub base_of : (format : Format) (base : ℕ) → is_base format base ≡ true → IsBase format base
base_of Upper base is = ltb-true _ _ is
base_of Jump base is = ltb-true _ _ is
base_of Indexed base is = small_of base is
base_of Branch base is = small_of base is
base_of Store base is = small_of base is
base_of Immediate base is = small_of base is
base_of Shift base is = wide_of base is
base_of Registers base is = wide_of base is
base_of Plain base is = ltb-true _ _ is
base_of Word base is = ltb-true _ _ is

pub packed_low : (format : Format) (base : ℕ) (o : Operands) → IsBase format base → InFormat format o → packed format base o < 2 ^ 32
packed_low Upper base o is f = omega (arith, f.rd, f.imm)
packed_low Jump base o is f = omega (arith, f.rd)
packed_low Indexed base o is f = omega (arith, f.rd, f.rs1, is.low, is.rd)
packed_low Branch base o is f = omega (arith, f.rs1, f.rs2, is.low, is.rd)
packed_low Store base o is f = omega (arith, f.rs1, f.rs2, is.low, is.rd)
packed_low Immediate base o is f = omega (arith, f.rd, f.rs1, is.low, is.rd)
packed_low Shift base o is f = omega (arith, f.rd, f.rs1, f.imm, is.low, is.rd, is.rs)
packed_low Registers base o is f = omega (arith, f.rd, f.rs1, f.rs2, is.low, is.rd, is.rs)
packed_low Plain base o is f = is
packed_low Word base o is f = f.imm

-- ---- one row

abbrev pub HasStatement : Statement → Type 0
HasStatement (instruction inst) = HasRanges inst
HasStatement (bare n) = Unit {0}

-- the two rows of a name
pub record Alike (r : Row Statement) (k : Row ℕ) : Type 0 where
  pub format : r.format ≡ k.format
  pub word : (o : Operands) → encoded (r.says o) ≡ k.says o
  pub ranges : (o : Operands) → InFormat r.format o → HasStatement (r.says o)
  pub low : (o : Operands) → InFormat r.format o → encoded (r.says o) < 2 ^ 32
  pub inst : r.format ≢ Word → (o : Operands) → (i : Inst) × (r.says o ≡ instruction i)
  pub bare_is : r.format ≡ Word → (o : Operands) → r.says o ≡ bare o.imm

-- two rows at one place of the two tables
record Tied (r : List ℕ × Row Statement) (k : List ℕ × Row ℕ) : Type 0 where
  name : r.0 ≡ k.0
  alike : Alike r.1 k.1
  called : (o : Operands) → name_in (r.1.says o) ≡ r.0

abbrev code : Format → ℕ → Row ℕ
code format base = code_row (code_of format base)

tie_upper : (name : List ℕ) (base : ℕ) (inst : ℕ → ℕ → Inst) → is_base Upper base ≡ true → ((d m : ℕ) → word_of (inst d m) ≡ word_u base d m) → ((d m : ℕ) → RangesU d m → HasRanges (inst d m)) → ((d m : ℕ) → name_of (inst d m) ≡ name) →
    Tied (name, upper inst) (name, code Upper base)
tie_upper name base inst is word ranges called =
    let same : (o : Operands) → encoded ((upper inst).says o) ≡ packed Upper base o = λ o. word o.rd (o.imm * 2 ^ 12) in
    record {
      name = refl;
      alike = record {
        format = refl;
        word = same;
        ranges = λ o f. ranges o.rd (o.imm * 2 ^ 12) (f.rd, omega (arith, f.imm), omega arith);
        low = λ o f. omega (arith, same o, packed_low Upper base o (base_of Upper base is) f);
        inst = λ other o. (inst o.rd (o.imm * 2 ^ 12), refl);
        bare_is = λ is. absurd (cc is);
      };
      called = λ o. called o.rd (o.imm * 2 ^ 12);
    }

tie_jump : (name : List ℕ) (base : ℕ) (inst : ℕ → ℕ → Inst) → is_base Jump base ≡ true → ((d m : ℕ) → word_of (inst d m) ≡ word_j base d m) → ((d m : ℕ) → RangesJ d m → HasRanges (inst d m)) → ((d m : ℕ) → name_of (inst d m) ≡ name) →
    Tied (name, jump inst) (name, code Jump base)
tie_jump name base inst is word ranges called =
    let same : (o : Operands) → encoded ((jump inst).says o) ≡ packed Jump base o = λ o. word o.rd o.imm in
    record {
      name = refl;
      alike = record {
        format = refl;
        word = same;
        ranges = λ o f. ranges o.rd o.imm (f.rd, f.imm.0, f.imm.1);
        low = λ o f. omega (arith, same o, packed_low Jump base o (base_of Jump base is) f);
        inst = λ other o. (inst o.rd o.imm, refl);
        bare_is = λ is. absurd (cc is);
      };
      called = λ o. called o.rd o.imm;
    }

-- rows whose base is an opcode and funct3
tie_indexed : (name : List ℕ) (c f3 : ℕ) (inst : ℕ → ℕ → ℕ → Inst) → is_small (c + f3 * 2 ^ 12) ≡ true → ((d a m : ℕ) → word_of (inst d a m) ≡ word_i c f3 d a m) → ((d a m : ℕ) → RangesI d a m → HasRanges (inst d a m)) → ((d a m : ℕ) → name_of (inst d a m) ≡ name) →
    Tied (name, indexed inst) (name, code Indexed (c + f3 * 2 ^ 12))
tie_indexed name c f3 inst is word ranges called =
    let same : (o : Operands) → encoded ((indexed inst).says o) ≡ packed Indexed (c + f3 * 2 ^ 12) o = λ o. word o.rd o.rs1 o.imm ∙ omega arith in
    record {
      name = refl;
      alike = record {
        format = refl;
        word = same;
        ranges = λ o f. ranges o.rd o.rs1 o.imm (f.rd, f.rs1, f.imm);
        low = λ o f. omega (arith, same o, packed_low Indexed (c + f3 * 2 ^ 12) o (base_of Indexed (c + f3 * 2 ^ 12) is) f);
        inst = λ other o. (inst o.rd o.rs1 o.imm, refl);
        bare_is = λ is. absurd (cc is);
      };
      called = λ o. called o.rd o.rs1 o.imm;
    }

tie_immediate : (name : List ℕ) (c f3 : ℕ) (inst : ℕ → ℕ → ℕ → Inst) → is_small (c + f3 * 2 ^ 12) ≡ true → ((d a m : ℕ) → word_of (inst d a m) ≡ word_i c f3 d a m) → ((d a m : ℕ) → RangesI d a m → HasRanges (inst d a m)) → ((d a m : ℕ) → name_of (inst d a m) ≡ name) →
    Tied (name, immediate inst) (name, code Immediate (c + f3 * 2 ^ 12))
tie_immediate name c f3 inst is word ranges called =
    let same : (o : Operands) → encoded ((immediate inst).says o) ≡ packed Immediate (c + f3 * 2 ^ 12) o = λ o. word o.rd o.rs1 o.imm ∙ omega arith in
    record {
      name = refl;
      alike = record {
        format = refl;
        word = same;
        ranges = λ o f. ranges o.rd o.rs1 o.imm (f.rd, f.rs1, f.imm);
        low = λ o f. omega (arith, same o, packed_low Immediate (c + f3 * 2 ^ 12) o (base_of Immediate (c + f3 * 2 ^ 12) is) f);
        inst = λ other o. (inst o.rd o.rs1 o.imm, refl);
        bare_is = λ is. absurd (cc is);
      };
      called = λ o. called o.rd o.rs1 o.imm;
    }

tie_store : (name : List ℕ) (c f3 : ℕ) (inst : ℕ → ℕ → ℕ → Inst) → is_small (c + f3 * 2 ^ 12) ≡ true → ((a b m : ℕ) → word_of (inst a b m) ≡ word_s c f3 a b m) → ((a b m : ℕ) → RangesS a b m → HasRanges (inst a b m)) → ((a b m : ℕ) → name_of (inst a b m) ≡ name) →
    Tied (name, store inst) (name, code Store (c + f3 * 2 ^ 12))
tie_store name c f3 inst is word ranges called =
    let same : (o : Operands) → encoded ((store inst).says o) ≡ packed Store (c + f3 * 2 ^ 12) o = λ o. word o.rs1 o.rs2 o.imm ∙ omega arith in
    record {
      name = refl;
      alike = record {
        format = refl;
        word = same;
        ranges = λ o f. ranges o.rs1 o.rs2 o.imm (f.rs1, f.rs2, f.imm);
        low = λ o f. omega (arith, same o, packed_low Store (c + f3 * 2 ^ 12) o (base_of Store (c + f3 * 2 ^ 12) is) f);
        inst = λ other o. (inst o.rs1 o.rs2 o.imm, refl);
        bare_is = λ is. absurd (cc is);
      };
      called = λ o. called o.rs1 o.rs2 o.imm;
    }

tie_branch : (name : List ℕ) (c f3 : ℕ) (inst : ℕ → ℕ → ℕ → Inst) → is_small (c + f3 * 2 ^ 12) ≡ true → ((a b m : ℕ) → word_of (inst a b m) ≡ word_b c f3 a b m) → ((a b m : ℕ) → RangesB a b m → HasRanges (inst a b m)) → ((a b m : ℕ) → name_of (inst a b m) ≡ name) →
    Tied (name, branch inst) (name, code Branch (c + f3 * 2 ^ 12))
tie_branch name c f3 inst is word ranges called =
    let same : (o : Operands) → encoded ((branch inst).says o) ≡ packed Branch (c + f3 * 2 ^ 12) o = λ o. word o.rs1 o.rs2 o.imm ∙ omega arith in
    record {
      name = refl;
      alike = record {
        format = refl;
        word = same;
        ranges = λ o f. ranges o.rs1 o.rs2 o.imm (f.rs1, f.rs2, f.imm.0, f.imm.1);
        low = λ o f. omega (arith, same o, packed_low Branch (c + f3 * 2 ^ 12) o (base_of Branch (c + f3 * 2 ^ 12) is) f);
        inst = λ other o. (inst o.rs1 o.rs2 o.imm, refl);
        bare_is = λ is. absurd (cc is);
      };
      called = λ o. called o.rs1 o.rs2 o.imm;
    }

-- and funct7
tie_shift : (name : List ℕ) (c f3 f7 : ℕ) (inst : ℕ → ℕ → ℕ → Inst) → is_wide (c + f3 * 2 ^ 12 + f7 * 2 ^ 25) ≡ true → ((d a b : ℕ) → word_of (inst d a b) ≡ word_r c f3 f7 d a b) → ((d a b : ℕ) → RangesR d a b → HasRanges (inst d a b)) → ((d a b : ℕ) → name_of (inst d a b) ≡ name) →
    Tied (name, shift inst) (name, code Shift (c + f3 * 2 ^ 12 + f7 * 2 ^ 25))
tie_shift name c f3 f7 inst is word ranges called =
    let same : (o : Operands) → encoded ((shift inst).says o) ≡ packed Shift (c + f3 * 2 ^ 12 + f7 * 2 ^ 25) o = λ o. word o.rd o.rs1 o.imm ∙ omega arith in
    record {
      name = refl;
      alike = record {
        format = refl;
        word = same;
        ranges = λ o f. ranges o.rd o.rs1 o.imm (f.rd, f.rs1, f.imm);
        low = λ o f. omega (arith, same o, packed_low Shift (c + f3 * 2 ^ 12 + f7 * 2 ^ 25) o (base_of Shift (c + f3 * 2 ^ 12 + f7 * 2 ^ 25) is) f);
        inst = λ other o. (inst o.rd o.rs1 o.imm, refl);
        bare_is = λ is. absurd (cc is);
      };
      called = λ o. called o.rd o.rs1 o.imm;
    }

tie_registers : (name : List ℕ) (c f3 f7 : ℕ) (inst : ℕ → ℕ → ℕ → Inst) → is_wide (c + f3 * 2 ^ 12 + f7 * 2 ^ 25) ≡ true → ((d a b : ℕ) → word_of (inst d a b) ≡ word_r c f3 f7 d a b) → ((d a b : ℕ) → RangesR d a b → HasRanges (inst d a b)) → ((d a b : ℕ) → name_of (inst d a b) ≡ name) →
    Tied (name, registers inst) (name, code Registers (c + f3 * 2 ^ 12 + f7 * 2 ^ 25))
tie_registers name c f3 f7 inst is word ranges called =
    let same : (o : Operands) → encoded ((registers inst).says o) ≡ packed Registers (c + f3 * 2 ^ 12 + f7 * 2 ^ 25) o = λ o. word o.rd o.rs1 o.rs2 ∙ omega arith in
    record {
      name = refl;
      alike = record {
        format = refl;
        word = same;
        ranges = λ o f. ranges o.rd o.rs1 o.rs2 (f.rd, f.rs1, f.rs2);
        low = λ o f. omega (arith, same o, packed_low Registers (c + f3 * 2 ^ 12 + f7 * 2 ^ 25) o (base_of Registers (c + f3 * 2 ^ 12 + f7 * 2 ^ 25) is) f);
        inst = λ other o. (inst o.rd o.rs1 o.rs2, refl);
        bare_is = λ is. absurd (cc is);
      };
      called = λ o. called o.rd o.rs1 o.rs2;
    }

tie_plain : (name : List ℕ) (base : ℕ) (inst : Inst) → is_base Plain base ≡ true → word_of inst ≡ base → HasRanges inst → name_of inst ≡ name → Tied (name, plain inst) (name, code Plain base)
tie_plain name base inst is word ranges called =
    record {
      name = refl;
      alike = record {
        format = refl;
        word = λ o. word;
        ranges = λ o f. ranges;
        low = λ o f. omega (arith, word, base_of Plain base is);
        inst = λ other o. (inst, refl);
        bare_is = λ is. absurd (cc is);
      };
      called = λ o. called;
    }

tie_word : (name : List ℕ) → codes ".word" ≡ name → Tied (name, any_word) (name, code Word 0)
tie_word name called =
    record {
      name = refl;
      alike = record {
        format = refl;
        word = λ o. refl;
        ranges = λ o f. tt;
        low = λ o f. f.imm;
        inst = λ other. absurd (other refl);
        bare_is = λ is o. refl;
      };
      called = λ o. called;
    }

-- ---- all rows

abbrev AllTied : List (List ℕ × Row Statement) → List (List ℕ × Row ℕ) → Type 0
AllTied [] [] = Unit {0}
AllTied [] (k ∷ ks) = ⊥
AllTied (r ∷ rs) [] = ⊥
AllTied (r ∷ rs) (k ∷ ks) = Tied r k × AllTied rs ks

infixr 5 ◌&◌
abbrev ◌&◌ : {A B : Type 0} → A → B → A × B
a & b = (a, b)

all_tied : AllTied rows code_table
unfolding rows code_table entries
all_tied =
    tie_upper (codes "lui") 0b0110111 (λ d m. Lui d m) refl (λ d m. refl) (λ d m h. h) (λ d m. refl)
    & tie_upper (codes "auipc") 0b0010111 (λ d m. Auipc d m) refl (λ d m. refl) (λ d m h. h) (λ d m. refl)
    & tie_jump (codes "jal") 0b1101111 (λ d m. Jal d m) refl (λ d m. refl) (λ d m h. h) (λ d m. refl)
    & tie_indexed (codes "jalr") 0b1100111 0b000 (λ a b m. Jalr a b m) refl (λ a b m. refl) (λ a b m h. h) (λ a b m. refl)
    & tie_branch (codes "beq") 0b1100011 0b000 (λ a b m. Beq a b m) refl (λ a b m. refl) (λ a b m h. h) (λ a b m. refl)
    & tie_branch (codes "bne") 0b1100011 0b001 (λ a b m. Bne a b m) refl (λ a b m. refl) (λ a b m h. h) (λ a b m. refl)
    & tie_branch (codes "blt") 0b1100011 0b100 (λ a b m. Blt a b m) refl (λ a b m. refl) (λ a b m h. h) (λ a b m. refl)
    & tie_branch (codes "bge") 0b1100011 0b101 (λ a b m. Bge a b m) refl (λ a b m. refl) (λ a b m h. h) (λ a b m. refl)
    & tie_branch (codes "bltu") 0b1100011 0b110 (λ a b m. Bltu a b m) refl (λ a b m. refl) (λ a b m h. h) (λ a b m. refl)
    & tie_branch (codes "bgeu") 0b1100011 0b111 (λ a b m. Bgeu a b m) refl (λ a b m. refl) (λ a b m h. h) (λ a b m. refl)
    & tie_indexed (codes "lb") 0b0000011 0b000 (λ a b m. Lb a b m) refl (λ a b m. refl) (λ a b m h. h) (λ a b m. refl)
    & tie_indexed (codes "lh") 0b0000011 0b001 (λ a b m. Lh a b m) refl (λ a b m. refl) (λ a b m h. h) (λ a b m. refl)
    & tie_indexed (codes "lw") 0b0000011 0b010 (λ a b m. Lw a b m) refl (λ a b m. refl) (λ a b m h. h) (λ a b m. refl)
    & tie_indexed (codes "lbu") 0b0000011 0b100 (λ a b m. Lbu a b m) refl (λ a b m. refl) (λ a b m h. h) (λ a b m. refl)
    & tie_indexed (codes "lhu") 0b0000011 0b101 (λ a b m. Lhu a b m) refl (λ a b m. refl) (λ a b m h. h) (λ a b m. refl)
    & tie_store (codes "sb") 0b0100011 0b000 (λ a b m. Sb a b m) refl (λ a b m. refl) (λ a b m h. h) (λ a b m. refl)
    & tie_store (codes "sh") 0b0100011 0b001 (λ a b m. Sh a b m) refl (λ a b m. refl) (λ a b m h. h) (λ a b m. refl)
    & tie_store (codes "sw") 0b0100011 0b010 (λ a b m. Sw a b m) refl (λ a b m. refl) (λ a b m h. h) (λ a b m. refl)
    & tie_immediate (codes "addi") 0b0010011 0b000 (λ a b m. Addi a b m) refl (λ a b m. refl) (λ a b m h. h) (λ a b m. refl)
    & tie_immediate (codes "slti") 0b0010011 0b010 (λ a b m. Slti a b m) refl (λ a b m. refl) (λ a b m h. h) (λ a b m. refl)
    & tie_immediate (codes "sltiu") 0b0010011 0b011 (λ a b m. Sltiu a b m) refl (λ a b m. refl) (λ a b m h. h) (λ a b m. refl)
    & tie_immediate (codes "xori") 0b0010011 0b100 (λ a b m. Xori a b m) refl (λ a b m. refl) (λ a b m h. h) (λ a b m. refl)
    & tie_immediate (codes "ori") 0b0010011 0b110 (λ a b m. Ori a b m) refl (λ a b m. refl) (λ a b m h. h) (λ a b m. refl)
    & tie_immediate (codes "andi") 0b0010011 0b111 (λ a b m. Andi a b m) refl (λ a b m. refl) (λ a b m h. h) (λ a b m. refl)
    & tie_shift (codes "slli") 0b0010011 0b001 0b0000000 (λ a b m. Slli a b m) refl (λ a b m. refl) (λ a b m h. h) (λ a b m. refl)
    & tie_shift (codes "srli") 0b0010011 0b101 0b0000000 (λ a b m. Srli a b m) refl (λ a b m. refl) (λ a b m h. h) (λ a b m. refl)
    & tie_shift (codes "srai") 0b0010011 0b101 0b0100000 (λ a b m. Srai a b m) refl (λ a b m. refl) (λ a b m h. h) (λ a b m. refl)
    & tie_registers (codes "add") 0b0110011 0b000 0b0000000 (λ a b m. Add a b m) refl (λ a b m. refl) (λ a b m h. h) (λ a b m. refl)
    & tie_registers (codes "sub") 0b0110011 0b000 0b0100000 (λ a b m. Sub a b m) refl (λ a b m. refl) (λ a b m h. h) (λ a b m. refl)
    & tie_registers (codes "sll") 0b0110011 0b001 0b0000000 (λ a b m. Sll a b m) refl (λ a b m. refl) (λ a b m h. h) (λ a b m. refl)
    & tie_registers (codes "slt") 0b0110011 0b010 0b0000000 (λ a b m. Slt a b m) refl (λ a b m. refl) (λ a b m h. h) (λ a b m. refl)
    & tie_registers (codes "sltu") 0b0110011 0b011 0b0000000 (λ a b m. Sltu a b m) refl (λ a b m. refl) (λ a b m h. h) (λ a b m. refl)
    & tie_registers (codes "xor") 0b0110011 0b100 0b0000000 (λ a b m. Xor a b m) refl (λ a b m. refl) (λ a b m h. h) (λ a b m. refl)
    & tie_registers (codes "srl") 0b0110011 0b101 0b0000000 (λ a b m. Srl a b m) refl (λ a b m. refl) (λ a b m h. h) (λ a b m. refl)
    & tie_registers (codes "sra") 0b0110011 0b101 0b0100000 (λ a b m. Sra a b m) refl (λ a b m. refl) (λ a b m h. h) (λ a b m. refl)
    & tie_registers (codes "or") 0b0110011 0b110 0b0000000 (λ a b m. Or a b m) refl (λ a b m. refl) (λ a b m h. h) (λ a b m. refl)
    & tie_registers (codes "and") 0b0110011 0b111 0b0000000 (λ a b m. And a b m) refl (λ a b m. refl) (λ a b m h. h) (λ a b m. refl)
    & tie_registers (codes "mul") 0b0110011 0b000 0b0000001 (λ a b m. Mul a b m) refl (λ a b m. refl) (λ a b m h. h) (λ a b m. refl)
    & tie_registers (codes "mulh") 0b0110011 0b001 0b0000001 (λ a b m. Mulh a b m) refl (λ a b m. refl) (λ a b m h. h) (λ a b m. refl)
    & tie_registers (codes "mulhsu") 0b0110011 0b010 0b0000001 (λ a b m. Mulhsu a b m) refl (λ a b m. refl) (λ a b m h. h) (λ a b m. refl)
    & tie_registers (codes "mulhu") 0b0110011 0b011 0b0000001 (λ a b m. Mulhu a b m) refl (λ a b m. refl) (λ a b m h. h) (λ a b m. refl)
    & tie_registers (codes "div") 0b0110011 0b100 0b0000001 (λ a b m. Div a b m) refl (λ a b m. refl) (λ a b m h. h) (λ a b m. refl)
    & tie_registers (codes "divu") 0b0110011 0b101 0b0000001 (λ a b m. Divu a b m) refl (λ a b m. refl) (λ a b m h. h) (λ a b m. refl)
    & tie_registers (codes "rem") 0b0110011 0b110 0b0000001 (λ a b m. Rem a b m) refl (λ a b m. refl) (λ a b m h. h) (λ a b m. refl)
    & tie_registers (codes "remu") 0b0110011 0b111 0b0000001 (λ a b m. Remu a b m) refl (λ a b m. refl) (λ a b m h. h) (λ a b m. refl)
    & tie_plain (codes "fence") 0x0ff0000f (Fence 0x0ff0000f) refl refl (omega arith, refl, refl) refl
    & tie_plain (codes "ecall") 0x00000073 Ecall refl refl tt refl
    & tie_plain (codes "ebreak") 0x00100073 Ebreak refl refl tt refl
    & tie_word (codes ".word") refl
    & tt

-- what the tables have at a name
abbrev pub AreAlike : Option (Row Statement) → Option (Row ℕ) → Type 0
AreAlike None None = Unit {0}
AreAlike None (Some k) = ⊥
AreAlike (Some r) None = ⊥
AreAlike (Some r) (Some k) = Alike r k

tied_lookup : (rs : List (List ℕ × Row Statement)) (ks : List (List ℕ × Row ℕ)) (name : List ℕ) → AllTied rs ks → AreAlike (lookup (bytes_eq name) rs) (lookup (bytes_eq name) ks)
tied_lookup [] [] name all = tt
tied_lookup [] (k ∷ ks) name all = absurd all
tied_lookup (r ∷ rs) [] name all = absurd all
tied_lookup (r ∷ rs) (k ∷ ks) name all =
    let same : bytes_eq name r.0 ≡ bytes_eq name k.0 = ap (bytes_eq name) all.0.name in
    elim (which (bytes_eq name k.0)) [
      | inl hit ↦ rw (same, hit) all.0.alike
      | inr miss ↦ rw (same, miss) (tied_lookup rs ks name all.1)
    ]

pub named_alike : (name : List ℕ) → AreAlike (named rows name) (named code_table name)
unfolding named
named_alike name = tied_lookup rows code_table name all_tied

-- a row is found by the name of what it says
tied_name : (rs : List (List ℕ × Row Statement)) (ks : List (List ℕ × Row ℕ)) (name : List ℕ) (row : Row Statement) (o : Operands) → AllTied rs ks → lookup (bytes_eq name) rs ≡ Some row → name_in (row.says o) ≡ name
tied_name [] ks name row o all is = absurd cc
tied_name (r ∷ rs) [] name row o all is = absurd all
tied_name (r ∷ rs) (k ∷ ks) name row o all is = elim (which (bytes_eq name r.0)) [
  | inl hit ↦
      let same : r.1 ≡ row = cc (rw hit at is) in
      ap (λ (x : Row Statement). name_in (x.says o)) (sym same) ∙ all.0.called o ∙ sym (same_bytes name r.0 hit)
  | inr miss ↦ tied_name rs ks name row o all.1 (rw miss at is)
]

pub named_name : (name : List ℕ) (row : Row Statement) (o : Operands) → named rows name ≡ Some row → name_in (row.says o) ≡ name
unfolding named
named_name name row o is = tied_name rows code_table name row o all_tied is
