-- Row by row, the listing and the table of the machine say the same.
use Rattle.std.proofs.Common.{Bool, Option, ◌≡◌, ℕ, ◌+◌, ◌-◌, ◌*◌, ◌%◌, ◌^◌, ◌<◌, ◌==◌, ◌||◌, true, false, cond, not, nat_lt, bit_and, bit_or, bit_xor, refl, sym, ap, ◌∙◌, arith, pos, ◌+ℤ◌, List, [], ◌∷◌, ◌++◌, Some, is_some, count_by}
use Rattle.std.proofs.lemmas.List.Sums.{sum_by-cons}
use Rattle.std.specs.List.{list_any}
use Rattle.rv_pages.specs.Memory.{wrapped}
use Rattle.rv_decode.specs.declared.instruction.Inst.{Inst}
use Rattle.rv_decode.specs.declared.instruction.Inst.TheVariants.{Lui, Auipc, Jal, Jalr, Beq, Bne, Blt, Bge, Bltu, Bgeu, Lb, Lh, Lw, Lbu, Lhu, Sb, Sh, Sw, Addi, Slti, Sltiu, Xori, Ori, Andi, Slli, Srli, Srai, Add, Sub, Sll, Slt, Sltu, Xor, Srl, Sra, Or, And, Mul, Mulh, Mulhsu, Mulhu, Div, Divu, Rem, Remu, Fence, Ecall, Ebreak}
use Rattle.rv_decode.specs.Rows as decode
use Rattle.rv_machine.specs.MachineState.{MachineState, IsMachineState}
use Rattle.rv_machine.specs.Numbers as machine
use Rattle.rv_machine.specs.Products as product
use Rattle.rv_machine.specs.StateChanges.{trapped}
use Rattle.rv_machine.specs.SystemCalls.{called}
use Rattle.rv_machine.specs.StepTable.{said}
use Rattle.rv_manual.specs.Integers.{twos_complement}
use Rattle.rv_manual.specs.Operations as op
use Rattle.rv_manual.specs.Access.{byte, halfword, word, with_byte, with_halfword, with_word}
use Rattle.rv_manual.specs.Formats.{Row, takes}
use Rattle.rv_manual.specs.Listing.{listing, upper_immediates, jumping, branching, loading, storing, register_immediate, register_register, products, system}
use Rattle.rv_manual.specs.NextState.{is_listed, by_rows}
use Rattle.rv_manual.proofs.Numbers.{sum}
use Rattle.rv_manual.proofs.OperationResults.{add_is, sub_is, sll_is, slt_is, sltu_is, srl_is, sra_is, mul_is, mulh_is, mulhsu_is, mulhu_is, div_is, divu_is, rem_is, remu_is, less_is, greater_or_equal_is, greater_or_equal_unsigned_is}
use Rattle.rv_manual.proofs.Bitwise.{xor_is, or_is, and_is}
use Rattle.rv_manual.proofs.LoadsAndStores.{byte_is, halfword_is, word_is, with_byte_is, with_halfword_is, with_word_is, sign_8, sign_16, sign_32}
use Rattle.rv_manual.proofs.Agreement.{Agrees, r_agrees, i_agrees, shift_agrees, load_agrees, s_agrees, b_agrees, u_agrees, j_agrees, jump_to_register_agrees, fence_agrees, environment_agrees}

-- rows beside rows
infixr 5 ◌also◌
data Agree : List Row → List decode.Row → Type 0 where
  none : Agree [] []
  ◌also◌ : {m : Row} {t : decode.Row} {ms : List Row} {ts : List decode.Row} → Agrees m t → Agree ms ts → Agree (m ∷ ms) (t ∷ ts)

before : {ms : List Row} {ts : List decode.Row} (ns : List Row) (us : List decode.Row) → Agree ms ts → Agree ns us → Agree (ms ++ ns) (ts ++ us)
before ns us none b = b
before ns us (a also rest) b = a also before ns us rest b

upper_immediates_agree : Agree upper_immediates decode.uppers
upper_immediates_agree =
    u_agrees 0b0110111 (λ pc z. z) (λ d m. Lui d m) (λ pc m. m) (λ s journal d m. refl) (λ pc m z l e. e)
    also u_agrees 0b0010111 (λ pc z. pc +ℤ z) (λ d m. Auipc d m) (λ pc m. wrapped (pc + m)) (λ s journal d m. refl)
    (λ pc m z l e. sum pc z ∙ ap (λ n. wrapped (pc + n)) e)
    also none

jumping_agree : Agree jumping decode.jumps
jumping_agree =
    j_agrees 0b1101111 (λ d m. Jal d m) (λ s journal d m. refl)
    also jump_to_register_agrees 0b000 0b1100111 (λ d a m. Jalr d a m) (λ s journal d a m. refl)
    also none

branching_agree : Agree branching decode.branches
branching_agree =
    b_agrees 0b000 0b1100011 op.equal (λ a b m. Beq a b m) (λ p q. p == q) (λ s journal a b m. refl) (λ p q k l. refl)
    also b_agrees 0b001 0b1100011 op.not_equal (λ a b m. Bne a b m) (λ p q. not (p == q)) (λ s journal a b m. refl) (λ p q k l. refl)
    also b_agrees 0b100 0b1100011 op.less (λ a b m. Blt a b m) (λ p q. machine.signed_lt p q) (λ s journal a b m. refl) less_is
    also b_agrees 0b101 0b1100011 op.greater_or_equal (λ a b m. Bge a b m) (λ p q. not (machine.signed_lt p q)) (λ s journal a b m. refl) greater_or_equal_is
    also b_agrees 0b110 0b1100011 op.less_unsigned (λ a b m. Bltu a b m) (λ p q. nat_lt p q) (λ s journal a b m. refl) (λ p q k l. refl)
    also b_agrees 0b111 0b1100011 op.greater_or_equal_unsigned (λ a b m. Bgeu a b m) (λ p q. not (nat_lt p q)) (λ s journal a b m. refl)
    (λ p q k l. greater_or_equal_unsigned_is p q)
    also none

loading_agree : Agree loading decode.loads
loading_agree =
    load_agrees 0b000 0b0000011 byte (λ n. twos_complement 7 n) (λ d a m. Lb d a m) 1 true (λ s journal d a m. refl) byte_is sign_8
    also load_agrees 0b001 0b0000011 halfword (λ n. twos_complement 15 n) (λ d a m. Lh d a m) 2 true (λ s journal d a m. refl) halfword_is sign_16
    also load_agrees 0b010 0b0000011 word (λ n. twos_complement 31 n) (λ d a m. Lw d a m) 4 false (λ s journal d a m. refl) word_is sign_32
    also load_agrees 0b100 0b0000011 byte (λ n. pos n) (λ d a m. Lbu d a m) 1 false (λ s journal d a m. refl) byte_is (λ v l. omega arith)
    also load_agrees 0b101 0b0000011 halfword (λ n. pos n) (λ d a m. Lhu d a m) 2 false (λ s journal d a m. refl) halfword_is (λ v l. omega arith)
    also none

storing_agree : Agree storing decode.stores
storing_agree =
    s_agrees 0b000 0b0100011 byte with_byte (λ a b m. Sb a b m) 1 (λ s journal a b m. refl) byte_is with_byte_is
    also s_agrees 0b001 0b0100011 halfword with_halfword (λ a b m. Sh a b m) 2 (λ s journal a b m. refl) halfword_is with_halfword_is
    also s_agrees 0b010 0b0100011 word with_word (λ a b m. Sw a b m) 4 (λ s journal a b m. refl) word_is with_word_is
    also none

register_immediate_agree : Agree register_immediate decode.on_immediates
register_immediate_agree =
    i_agrees 0b000 0b0010011 op.add (λ d a m. Addi d a m) (λ p q. wrapped (p + q)) (λ s journal d a m. refl) add_is
    also i_agrees 0b010 0b0010011 op.slt (λ d a m. Slti d a m) (λ p q. machine.one_if (machine.signed_lt p q)) (λ s journal d a m. refl) slt_is
    also i_agrees 0b011 0b0010011 op.sltu (λ d a m. Sltiu d a m) (λ p q. machine.one_if (nat_lt p q)) (λ s journal d a m. refl) (λ p q k l. sltu_is p q)
    also i_agrees 0b100 0b0010011 op.xor (λ d a m. Xori d a m) bit_xor (λ s journal d a m. refl) xor_is
    also i_agrees 0b110 0b0010011 op.or (λ d a m. Ori d a m) bit_or (λ s journal d a m. refl) or_is
    also i_agrees 0b111 0b0010011 op.and (λ d a m. Andi d a m) bit_and (λ s journal d a m. refl) and_is
    also shift_agrees 0b0000000 0b001 0b0010011 op.sll (λ d a m. Slli d a m) machine.shifted_left (λ s journal d a m. refl) (λ p q k. sll_is p q)
    also shift_agrees 0b0000000 0b101 0b0010011 op.srl (λ d a m. Srli d a m) machine.shifted_right (λ s journal d a m. refl) srl_is
    also shift_agrees 0b0100000 0b101 0b0010011 op.sra (λ d a m. Srai d a m) machine.shifted_right_signed (λ s journal d a m. refl) sra_is
    also none

on_registers_agree : Agree (register_register ++ products) decode.on_registers
on_registers_agree =
    r_agrees 0b0000000 0b000 0b0110011 op.add (λ d a b. Add d a b) (λ p q. wrapped (p + q)) (λ s j d a b. refl) add_is
    also r_agrees 0b0100000 0b000 0b0110011 op.sub (λ d a b. Sub d a b) (λ p q. wrapped (p + 2 ^ 32 - q)) (λ s j d a b. refl) sub_is
    also r_agrees 0b0000000 0b001 0b0110011 op.sll (λ d a b. Sll d a b) (λ p q. machine.shifted_left p (q % 32)) (λ s j d a b. refl) (λ p q k l. sll_is p q)
    also r_agrees 0b0000000 0b010 0b0110011 op.slt (λ d a b. Slt d a b) (λ p q. machine.one_if (machine.signed_lt p q)) (λ s j d a b. refl) slt_is
    also r_agrees 0b0000000 0b011 0b0110011 op.sltu (λ d a b. Sltu d a b) (λ p q. machine.one_if (nat_lt p q)) (λ s j d a b. refl) (λ p q k l. sltu_is p q)
    also r_agrees 0b0000000 0b100 0b0110011 op.xor (λ d a b. Xor d a b) bit_xor (λ s j d a b. refl) xor_is
    also r_agrees 0b0000000 0b101 0b0110011 op.srl (λ d a b. Srl d a b) (λ p q. machine.shifted_right p (q % 32)) (λ s j d a b. refl) (λ p q k l. srl_is p q k)
    also r_agrees 0b0100000 0b101 0b0110011 op.sra (λ d a b. Sra d a b) (λ p q. machine.shifted_right_signed p (q % 32)) (λ s j d a b. refl)
    (λ p q k l. sra_is p q k)
    also r_agrees 0b0000000 0b110 0b0110011 op.or (λ d a b. Or d a b) bit_or (λ s j d a b. refl) or_is
    also r_agrees 0b0000000 0b111 0b0110011 op.and (λ d a b. And d a b) bit_and (λ s j d a b. refl) and_is
    also r_agrees 0b0000001 0b000 0b0110011 op.mul (λ d a b. Mul d a b) (λ p q. wrapped (p * q)) (λ s j d a b. refl) mul_is
    also r_agrees 0b0000001 0b001 0b0110011 op.mulh (λ d a b. Mulh d a b) product.high_signed (λ s j d a b. refl) mulh_is
    also r_agrees 0b0000001 0b010 0b0110011 op.mulhsu (λ d a b. Mulhsu d a b) product.high_signed_unsigned (λ s j d a b. refl) (λ p q k l. mulhsu_is p q k)
    also r_agrees 0b0000001 0b011 0b0110011 op.mulhu (λ d a b. Mulhu d a b) product.high_unsigned (λ s j d a b. refl) (λ p q k l. mulhu_is p q)
    also r_agrees 0b0000001 0b100 0b0110011 op.div (λ d a b. Div d a b) product.quotient_signed (λ s j d a b. refl) div_is
    also r_agrees 0b0000001 0b101 0b0110011 op.divu (λ d a b. Divu d a b) product.quotient_unsigned (λ s j d a b. refl) (λ p q k l. divu_is p q k)
    also r_agrees 0b0000001 0b110 0b0110011 op.rem (λ d a b. Rem d a b) product.remainder_signed (λ s j d a b. refl) rem_is
    also r_agrees 0b0000001 0b111 0b0110011 op.remu (λ d a b. Remu d a b) product.remainder_unsigned (λ s j d a b. refl) (λ p q k l. remu_is p q k)
    also none

system_agree : Agree system decode.others
system_agree =
    fence_agrees 0b000 0b0001111 (λ w. Fence w) (λ s journal w. refl)
    also environment_agrees 0b000000000000 0b00000 0b000 0b00000 0b1110011 0x00000073 called Ecall refl (omega arith) (omega arith) (omega arith)
    (omega arith) (omega arith) (λ s journal. refl)
    also environment_agrees 0b000000000001 0b00000 0b000 0b00000 0b1110011 0x00100073 (λ s journal. trapped s 3) Ebreak refl (omega arith) (omega arith)
    (omega arith) (omega arith) (omega arith) (λ s journal. refl)
    also none

listing_agrees : Agree listing decode.rows
listing_agrees =
    before _ _ upper_immediates_agree
    (before _ _ jumping_agree
    (before _ _ branching_agree
    (before _ _ loading_agree
    (before _ _ storing_agree
    (before _ _ register_immediate_agree
    (before _ _ on_registers_agree system_agree))))))

by_test : {A B : Type 0} (b : Bool) (f : A → B) (p q : A) → f (cond b p q) ≡ cond b (f p) (f q)
by_test true f p q = refl
by_test false f p q = refl

some_by_test : (b : Bool) (inst : Inst) (o : Option Inst) → (b || is_some o) ≡ is_some (cond b (Some inst) o)
some_by_test true inst o = refl
some_by_test false inst o = refl

-- so they do the same by the first row that takes a word
same_step : {ms : List Row} {ts : List decode.Row} → Agree ms ts → (w : ℕ) (s : MachineState) (journal : List (List ℕ)) → w < 2 ^ 32 → IsMachineState s →
    said s journal (decode.first_of ts w) ≡ by_rows ms w s journal
same_step none w s journal l h = refl
same_step (◌also◌ {m} {t} {ms} {ts} a rest) w s journal l h =
    by_test (t.takes w) (said s journal) (Some (t.says w)) (decode.first_of ts w)
    ∙ (λ i. cond (sym (a.taken w l) i) (sym (a.done w s journal l h) i) (same_step rest w s journal l h i))

pub steps_agree : (w : ℕ) (s : MachineState) (journal : List (List ℕ)) → w < 2 ^ 32 → IsMachineState s →
    said s journal (decode.first_of decode.rows w) ≡ by_rows listing w s journal
steps_agree = same_step listing_agrees

-- they take the same words
same_words : {ms : List Row} {ts : List decode.Row} → Agree ms ts → (w : ℕ) → w < 2 ^ 32 → list_any (λ row. takes w row) ms ≡ is_some (decode.first_of ts w)
same_words none w l = refl
same_words (◌also◌ {m} {t} {ms} {ts} a rest) w l =
    (λ i. a.taken w l i || same_words rest w l i)
    ∙ some_by_test (t.takes w) (t.says w) (decode.first_of ts w)

pub words_agree : (w : ℕ) → w < 2 ^ 32 → is_listed w ≡ is_some (decode.first_of decode.rows w)
words_agree = same_words listing_agrees

-- as many rows take a word
same_count : {ms : List Row} {ts : List decode.Row} → Agree ms ts → (w : ℕ) → w < 2 ^ 32 → count_by (λ row. takes w row) ms ≡ count_by (λ row. row.takes w) ts
same_count none w l = refl
same_count (◌also◌ {m} {t} {ms} {ts} a rest) w l =
    sum_by-cons (λ row. cond (takes w row) 1 0) m ms
    ∙ (λ i. cond (a.taken w l i) 1 0 + same_count rest w l i)
    ∙ sym (sum_by-cons (λ row. cond (row.takes w) 1 0) t ts)

pub counts_agree : (w : ℕ) → w < 2 ^ 32 → count_by (λ row. takes w row) listing ≡ count_by (λ row. row.takes w) decode.rows
counts_agree = same_count listing_agrees
