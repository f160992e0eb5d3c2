-- That the rows of the listing and those of the machine say the same: one beside the other.
use Rattle.std.proofs.Common.{inl, inr, ◌≡◌, ℕ, ◌+◌, ◌*◌, ◌/◌, ◌%◌, ◌^◌, ◌<◌, ◌==◌, ◌&&◌, Bool, true, false, cond, refl, sym, ap, ◌∙◌, arith, ℤ, pos, ◌+ℤ◌, List, Option, is_some}
use Rattle.std.proofs.lemmas.Bool.{ne_eqb, eq-eqb, cases_eq, and_parts, eqb-true, false_from_ne_true}
use Rattle.rv_pages.specs.Memory.{Memory, wrapped, number_at, with_number}
use Rattle.rv_pages.proofs.MemoryInvariant.{number_below}
use Rattle.rv_decode.specs.declared.instruction.Inst.{Inst}
use Rattle.rv_decode.specs.Formats as machine
use Rattle.rv_decode.specs.Rows as decode
use Rattle.rv_machine.specs.MachineState.{MachineState, IsMachineState}
use Rattle.rv_machine.specs.StateChanges.{gone_on, put}
use Rattle.rv_machine.specs.StepTable.{applied, effect_in, jumped}
use Rattle.rv_machine.proofs.UpperWords.{as_word_small}
use Rattle.rv_manual.specs.Fields.{bits, rd, rs1, rs2, shamt, i_immediate, s_immediate, b_immediate, u_immediate, j_immediate}
use Rattle.rv_manual.specs.Integers.{word_of}
use Rattle.rv_manual.specs.Changes.{x, loads, stores, address}
use Rattle.rv_manual.specs.Formats.{Row, takes, r_type, i_type, shift_type, load_type, s_type, b_type, u_type, j_type, jump_to_register, fence, environment}
use Rattle.rv_manual.proofs.Numbers.{sum}
use Rattle.rv_manual.proofs.Immediates.{rd_is, rs1_is, rs2_is, i_is, s_is, b_is, u_is, j_is}
use Rattle.rv_manual.proofs.FormatSteps.{loaded, stored, x_small, gives_is, jumps_is, branches_is, loads_is, stores_is}

-- the two rows take the same words, and do the same to a state
pub record Agrees (mine : Row) (theirs : decode.Row) : Type 0 where
  pub taken : (w : ℕ) → w < 2 ^ 32 → takes w mine ≡ theirs.takes w
  pub done : (w : ℕ) (s : MachineState) (journal : List (List ℕ)) → w < 2 ^ 32 → IsMachineState s →
      mine.after w s journal ≡ applied s journal (effect_in s (theirs.says w))

-- the bits that are fixed
code_is : (w : ℕ) → bits 6 0 w ≡ machine.opcode w
code_is w = omega arith

funct3_is : (w : ℕ) → bits 14 12 w ≡ machine.funct3 w
funct3_is w = omega arith

funct7_is : (w : ℕ) → bits 31 25 w ≡ machine.funct7 w
funct7_is w = omega arith

one : (p : Bool) → (p && true) ≡ p
one true = refl
one false = refl

two : (p q : Bool) → (p && (q && true)) ≡ (q && p)
two true true = refl
two true false = refl
two false true = refl
two false false = refl

three : (p q r : Bool) → (p && (q && (r && true))) ≡ ((r && q) && p)
three true true true = refl
three true true false = refl
three true false true = refl
three true false false = refl
three false true true = refl
three false true false = refl
three false false true = refl
three false false false = refl

take_code : (w code : ℕ) → ((bits 6 0 w == code) && true) ≡ (machine.opcode w == code)
take_code w code = (λ i. (code_is w i == code) && true) ∙ one (machine.opcode w == code)

take_funct3 : (w f3 code : ℕ) → ((bits 14 12 w == f3) && ((bits 6 0 w == code) && true)) ≡ ((machine.opcode w == code) && (machine.funct3 w == f3))
take_funct3 w f3 code = (λ i. (funct3_is w i == f3) && ((code_is w i == code) && true)) ∙ two (machine.funct3 w == f3) (machine.opcode w == code)

take_funct7 : (w f7 f3 code : ℕ) → ((bits 31 25 w == f7) && ((bits 14 12 w == f3) && ((bits 6 0 w == code) && true))) ≡
    ((machine.opcode w == code) && (machine.funct3 w == f3) && (machine.funct7 w == f7))
take_funct7 w f7 f3 code =
    (λ i. (funct7_is w i == f7) && ((funct3_is w i == f3) && ((code_is w i == code) && true)))
    ∙ three (machine.funct7 w == f7) (machine.funct3 w == f3) (machine.opcode w == code)

-- operations on two registers, on a register and an immediate, and shifts by an immediate
pub r_agrees : (f7 f3 code : ℕ) (operation : ℕ → ℕ → ℤ) (inst : ℕ → ℕ → ℕ → Inst) (value : ℕ → ℕ → ℕ) →
    ((s : MachineState) (journal : List (List ℕ)) (d a b : ℕ) → applied s journal (effect_in s (inst d a b)) ≡ put s d (value (x s a) (x s b))) →
    ((a b : ℕ) → a < 2 ^ 32 → b < 2 ^ 32 → word_of (operation a b) ≡ value a b) → Agrees (r_type f7 f3 code operation) (decode.r_row code f3 f7 inst)
r_agrees f7 f3 code operation inst value is gives_value = record {
  taken = λ w l. take_funct7 w f7 f3 code;
  done = λ w s journal l h.
      gives_is s (rd w) (machine.rd w) (operation (x s (rs1 w)) (x s (rs2 w))) (value (x s (machine.rs1 w)) (x s (machine.rs2 w))) (rd_is w)
      ((λ i. word_of (operation (x s (rs1_is w i)) (x s (rs2_is w i))))
      ∙ gives_value (x s (machine.rs1 w)) (x s (machine.rs2 w)) (x_small s (machine.rs1 w) h) (x_small s (machine.rs2 w) h)) h
      ∙ sym (is s journal (machine.rd w) (machine.rs1 w) (machine.rs2 w));
}

pub i_agrees : (f3 code : ℕ) (operation : ℕ → ℕ → ℤ) (inst : ℕ → ℕ → ℕ → Inst) (value : ℕ → ℕ → ℕ) →
    ((s : MachineState) (journal : List (List ℕ)) (d a m : ℕ) → applied s journal (effect_in s (inst d a m)) ≡ put s d (value (x s a) m)) →
    ((a b : ℕ) → a < 2 ^ 32 → b < 2 ^ 32 → word_of (operation a b) ≡ value a b) → Agrees (i_type f3 code operation) (decode.i_row code f3 inst)
i_agrees f3 code operation inst value is gives_value = record {
  taken = λ w l. take_funct3 w f3 code;
  done = λ w s journal l h.
      let below : word_of (i_immediate w) < 2 ^ 32 = as_word_small (i_immediate w) in
      let small : machine.imm_i w < 2 ^ 32 = omega (arith, below, i_is w l) in
      gives_is s (rd w) (machine.rd w) (operation (x s (rs1 w)) (word_of (i_immediate w))) (value (x s (machine.rs1 w)) (machine.imm_i w)) (rd_is w)
      ((λ i. word_of (operation (x s (rs1_is w i)) (i_is w l i))) ∙ gives_value (x s (machine.rs1 w)) (machine.imm_i w) (x_small s (machine.rs1 w) h) small) h
      ∙ sym (is s journal (machine.rd w) (machine.rs1 w) (machine.imm_i w));
}

pub shift_agrees : (f7 f3 code : ℕ) (operation : ℕ → ℕ → ℤ) (inst : ℕ → ℕ → ℕ → Inst) (value : ℕ → ℕ → ℕ) →
    ((s : MachineState) (journal : List (List ℕ)) (d a m : ℕ) → applied s journal (effect_in s (inst d a m)) ≡ put s d (value (x s a) m)) →
    ((a b : ℕ) → a < 2 ^ 32 → word_of (operation a b) ≡ value a (b % 32)) → Agrees (shift_type f7 f3 code operation) (decode.shift_row code f3 f7 inst)
shift_agrees f7 f3 code operation inst value is gives_value = record {
  taken = λ w l. take_funct7 w f7 f3 code;
  done = λ w s journal l h.
      let same : shamt w % 32 ≡ machine.shift_amount w = omega arith in
      gives_is s (rd w) (machine.rd w) (operation (x s (rs1 w)) (shamt w)) (value (x s (machine.rs1 w)) (machine.shift_amount w)) (rd_is w)
      ((λ i. word_of (operation (x s (rs1_is w i)) (shamt w))) ∙ gives_value (x s (machine.rs1 w)) (shamt w) (x_small s (machine.rs1 w) h)
      ∙ ap (value (x s (machine.rs1 w))) same) h
      ∙ sym (is s journal (machine.rd w) (machine.rs1 w) (machine.shift_amount w));
}

-- addresses
address_is : (s : MachineState) (w m : ℕ) (immediate : ℤ) → word_of immediate ≡ m → address s w immediate ≡ wrapped (x s (machine.rs1 w) + m)
address_is s w m immediate e = sum (x s (rs1 w)) immediate ∙ (λ i. wrapped (x s (rs1_is w i) + e i))

pub load_agrees : (f3 code : ℕ) (load : Memory → ℕ → Option ℕ) (integer : ℕ → ℤ) (inst : ℕ → ℕ → ℕ → Inst) (count : ℕ) (with_sign : Bool) →
    ((s : MachineState) (journal : List (List ℕ)) (d a m : ℕ) →
    applied s journal (effect_in s (inst d a m)) ≡ loaded s d count with_sign (number_at s.memory (wrapped (x s a + m)) count)) →
    ((m : Memory) (at : ℕ) → load m at ≡ number_at m at count) →
    ((v : ℕ) → v < 2 ^ (8 * count) → word_of (integer v) ≡ cond with_sign (machine.sign_extended (8 * count) v) v) →
    Agrees (load_type f3 code load integer) (decode.i_row code f3 inst)
load_agrees f3 code load integer inst count with_sign is load_is integer_is = record {
  taken = λ w l. take_funct3 w f3 code;
  done = λ w s journal l h.
      let at : ℕ = wrapped (x s (machine.rs1 w) + machine.imm_i w) in
      (λ i. loads integer s (rd w) (load s.memory (address_is s w (machine.imm_i w) (i_immediate w) (i_is w l) i)))
      ∙ ap (loads integer s (rd w)) (load_is s.memory at)
      ∙ loads_is s integer (rd w) (machine.rd w) (number_at s.memory at count) count with_sign (rd_is w) integer_is
      (number_below s.memory h.memory at count) h
      ∙ sym (is s journal (machine.rd w) (machine.rs1 w) (machine.imm_i w));
}

pub s_agrees : (f3 code : ℕ) (load : Memory → ℕ → Option ℕ) (store : Memory → ℕ → ℕ → Memory) (inst : ℕ → ℕ → ℕ → Inst) (count : ℕ) →
    ((s : MachineState) (journal : List (List ℕ)) (a b m : ℕ) →
    applied s journal (effect_in s (inst a b m)) ≡ stored s (wrapped (x s a + m)) count (x s b)) →
    ((m : Memory) (at : ℕ) → load m at ≡ number_at m at count) →
    ((m : Memory) (at value : ℕ) → store m at value ≡ with_number m at count value) →
    Agrees (s_type f3 code load store) (decode.s_row code f3 inst)
s_agrees f3 code load store inst count is load_is store_is = record {
  taken = λ w l. take_funct3 w f3 code;
  done = λ w s journal l h.
      let at : ℕ = wrapped (x s (machine.rs1 w) + machine.imm_s w) in
      let same : address s w (s_immediate w) ≡ at = address_is s w (machine.imm_s w) (s_immediate w) (s_is w l) in
      (λ i. stores (is_some (load s.memory (same i))) s (store s.memory (same i) (x s (rs2_is w i))))
      ∙ stores_is s (is_some (load s.memory at)) (is_some (number_at s.memory at count)) (store s.memory at (x s (machine.rs2 w)))
      (with_number s.memory at count (x s (machine.rs2 w)))
      (ap is_some (load_is s.memory at)) (store_is s.memory at (x s (machine.rs2 w)))
      ∙ sym (is s journal (machine.rs1 w) (machine.rs2 w) (machine.imm_s w));
}

-- branches
pub b_agrees : (f3 code : ℕ) (condition : ℕ → ℕ → Bool) (inst : ℕ → ℕ → ℕ → Inst) (test : ℕ → ℕ → Bool) →
    ((s : MachineState) (journal : List (List ℕ)) (a b m : ℕ) →
    applied s journal (effect_in s (inst a b m)) ≡ cond (test (x s a) (x s b)) (jumped s 0 (wrapped (s.pc + m))) (gone_on s)) →
    ((a b : ℕ) → a < 2 ^ 32 → b < 2 ^ 32 → condition a b ≡ test a b) → Agrees (b_type f3 code condition) (decode.b_row code f3 inst)
b_agrees f3 code condition inst test is condition_is = record {
  taken = λ w l. take_funct3 w f3 code;
  done = λ w s journal l h.
      branches_is s (condition (x s (rs1 w)) (x s (rs2 w))) (test (x s (machine.rs1 w)) (x s (machine.rs2 w))) (word_of (pos s.pc +ℤ b_immediate w))
      (wrapped (s.pc + machine.imm_b w))
      ((λ i. condition (x s (rs1_is w i)) (x s (rs2_is w i)))
      ∙ condition_is (x s (machine.rs1 w)) (x s (machine.rs2 w)) (x_small s (machine.rs1 w) h) (x_small s (machine.rs2 w) h))
      (sum s.pc (b_immediate w) ∙ ap (λ m. wrapped (s.pc + m)) (b_is w l))
      ∙ sym (is s journal (machine.rs1 w) (machine.rs2 w) (machine.imm_b w));
}

-- upper immediates
pub u_agrees : (code : ℕ) (value : ℤ → ℤ → ℤ) (inst : ℕ → ℕ → Inst) (result : ℕ → ℕ → ℕ) →
    ((s : MachineState) (journal : List (List ℕ)) (d m : ℕ) → applied s journal (effect_in s (inst d m)) ≡ put s d (result s.pc m)) →
    ((pc m : ℕ) (z : ℤ) → m < 2 ^ 32 → word_of z ≡ m → word_of (value (pos pc) z) ≡ result pc m) → Agrees (u_type code value) (decode.u_row code inst)
u_agrees code value inst result is value_is = record {
  taken = λ w l. take_code w code;
  done = λ w s journal l h.
      gives_is s (rd w) (machine.rd w) (value (pos s.pc) (u_immediate w)) (result s.pc (machine.imm_u w)) (rd_is w)
      (value_is s.pc (machine.imm_u w) (u_immediate w) (omega (arith, u_is w l)) (u_is w l)) h
      ∙ sym (is s journal (machine.rd w) (machine.imm_u w));
}

-- jumps
pub j_agrees : (code : ℕ) (inst : ℕ → ℕ → Inst) →
    ((s : MachineState) (journal : List (List ℕ)) (d m : ℕ) →
    applied s journal (effect_in s (inst d m)) ≡ jumped s d (wrapped (s.pc + m))) → Agrees (j_type code) (decode.j_row code inst)
j_agrees code inst is = record {
  taken = λ w l. take_code w code;
  done = λ w s journal l h.
      jumps_is s (rd w) (machine.rd w) (word_of (pos s.pc +ℤ j_immediate w)) (wrapped (s.pc + machine.imm_j w)) (rd_is w)
      (sum s.pc (j_immediate w) ∙ ap (λ m. wrapped (s.pc + m)) (j_is w l)) h
      ∙ sym (is s journal (machine.rd w) (machine.imm_j w));
}

pub jump_to_register_agrees : (f3 code : ℕ) (inst : ℕ → ℕ → ℕ → Inst) →
    ((s : MachineState) (journal : List (List ℕ)) (d a m : ℕ) →
    applied s journal (effect_in s (inst d a m)) ≡ jumped s d (wrapped (x s a + m) / 2 * 2)) →
    Agrees (jump_to_register f3 code) (decode.i_row code f3 inst)
jump_to_register_agrees f3 code inst is = record {
  taken = λ w l. take_funct3 w f3 code;
  done = λ w s journal l h.
      let at : ℕ = wrapped (x s (machine.rs1 w) + machine.imm_i w) in
      let same : address s w (i_immediate w) ≡ at = address_is s w (machine.imm_i w) (i_immediate w) (i_is w l) in
      jumps_is s (rd w) (machine.rd w) (bits 31 1 (address s w (i_immediate w)) * 2) (at / 2 * 2) (rd_is w) (omega (arith, same)) h
      ∙ sym (is s journal (machine.rd w) (machine.rs1 w) (machine.imm_i w));
}

-- the rest
pub fence_agrees : (f3 code : ℕ) (inst : ℕ → Inst) →
    ((s : MachineState) (journal : List (List ℕ)) (w : ℕ) →
    applied s journal (effect_in s (inst w)) ≡ gone_on s) →
    Agrees (fence f3 code) (decode.fence_row code f3 inst)
fence_agrees f3 code inst is = record {
  taken = λ w l. take_funct3 w f3 code;
  done = λ w s journal l h. sym (is s journal w);
}

-- a word all of whose bits are fixed
all_fixed : (w f12 a f3 d code n : ℕ) → w < 2 ^ 32 → n ≡ f12 * 2 ^ 20 + a * 2 ^ 15 + f3 * 2 ^ 12 + d * 2 ^ 7 + code → a < 2 ^ 5 → f3 < 2 ^ 3 → d < 2 ^ 5 →
    code < 2 ^ 7 → f12 < 2 ^ 12 →
    ((bits 31 20 w == f12) && ((bits 19 15 w == a) && ((bits 14 12 w == f3) && ((bits 11 7 w == d) && ((bits 6 0 w == code) && true))))) ≡ (w == n)
all_fixed w f12 a f3 d code n l e ha hf hd hc h12 =
    elim (cases_eq w n) [
      | inl same ↦
          let p : (bits 31 20 w == f12) ≡ true = eq-eqb (bits 31 20 w) f12 (omega arith) in
          let q : (bits 19 15 w == a) ≡ true = eq-eqb (bits 19 15 w) a (omega arith) in
          let r : (bits 14 12 w == f3) ≡ true = eq-eqb (bits 14 12 w) f3 (omega arith) in
          let t : (bits 11 7 w == d) ≡ true = eq-eqb (bits 11 7 w) d (omega arith) in
          let u : (bits 6 0 w == code) ≡ true = eq-eqb (bits 6 0 w) code (omega arith) in
          (λ i. p i && (q i && (r i && (t i && (u i && true))))) ∙ sym (eq-eqb w n same)
      | inr other ↦ false_from_ne_true _ (λ h. other (whole h)) ∙ sym (ne_eqb w n other)
    ]
  where
    whole : ((bits 31 20 w == f12) && ((bits 19 15 w == a) && ((bits 14 12 w == f3) && ((bits 11 7 w == d) && ((bits 6 0 w == code) && true))))) ≡ true → w ≡ n
    whole h =
        let p = and_parts (bits 31 20 w == f12) _ h in
        let q = and_parts (bits 19 15 w == a) _ p.1 in
        let r = and_parts (bits 14 12 w == f3) _ q.1 in
        let t = and_parts (bits 11 7 w == d) _ r.1 in
        let u = and_parts (bits 6 0 w == code) true t.1 in
        let first : bits 31 20 w ≡ f12 = eqb-true (bits 31 20 w) f12 p.0 in
        let second : bits 19 15 w ≡ a = eqb-true (bits 19 15 w) a q.0 in
        let third : bits 14 12 w ≡ f3 = eqb-true (bits 14 12 w) f3 r.0 in
        let fourth : bits 11 7 w ≡ d = eqb-true (bits 11 7 w) d t.0 in
        let last : bits 6 0 w ≡ code = eqb-true (bits 6 0 w) code u.0 in
        omega (arith, e, first, second, third, fourth, last, l)

pub environment_agrees : (f12 a f3 d code word : ℕ) (asked : MachineState → List (List ℕ) → MachineState) (inst : Inst) →
    word ≡ f12 * 2 ^ 20 + a * 2 ^ 15 + f3 * 2 ^ 12 + d * 2 ^ 7 + code →
    a < 2 ^ 5 → f3 < 2 ^ 3 → d < 2 ^ 5 → code < 2 ^ 7 → f12 < 2 ^ 12 →
    ((s : MachineState) (journal : List (List ℕ)) → asked s journal ≡ applied s journal (effect_in s inst)) →
    Agrees (environment f12 a f3 d code asked) (decode.word_row word inst)
environment_agrees f12 a f3 d code word asked inst e ha hf hd hc h12 is = record {
  taken = λ w l. all_fixed w f12 a f3 d code word l e ha hf hd hc h12;
  done = λ w s journal l h. is s journal;
}
