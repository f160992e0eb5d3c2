-- Operands that are read can be held by the format, so that the instruction that is said has a word.
use Rattle.std.proofs.Common.{◌≡◌, ℕ, zero, suc, ◌-◌, ◌%◌, ◌^◌, ◌<◌, ◌≤◌, Bool, true, eqb, ◌&&◌, List, [], ◌∷◌, drop, Option, Some, None, Result, Ok, Err, refl, sym, subst, arith, inl, inr}
use Rattle.std.specs.Prelude.{nat_le, nat_lt}
use Rattle.std.specs.Str.{bytes_eq}
use Rattle.std.proofs.lemmas.Bool.{eqb-true}
use Rattle.std.proofs.lemmas.Bool.Decides.{nat_tests}
use borrow.Author.Tests.{ltb-true}
use Rattle.rv_decode.specs.Ranges.{IsSigned}
use Rattle.rv_asm.specs.declared.fault.Rule.{Rule}
use Rattle.rv_asm.specs.declared.fault.Rule.TheVariants as rule
use Rattle.line_texts.specs.declared.fault.LineFault.{LineFault}
use Rattle.rv_asm.specs.declared.number.Signed.{Signed}
use Rattle.rv_asm.specs.declared.number.Signed.TheVariants.{Plus, Minus}
use Rattle.rv_asm.specs.declared.table.Field.{Field}
use Rattle.rv_asm.specs.declared.table.Field.TheVariants.{Rd, Rs1, Rs2}
use Rattle.rv_asm.specs.declared.table.Want.{Want}
use Rattle.rv_asm.specs.declared.table.Want.TheVariants.{Register, Mark, Number, Target}
use Rattle.rv_asm.specs.declared.table.Format.{Format}
use Rattle.rv_asm.specs.declared.table.Format.TheVariants.{Upper, Jump, Indexed, Branch, Store, Immediate, Shift, Registers, Plain, Word}
use Rattle.rv_asm.specs.declared.table.Operands.{Operands}
use Rattle.line_texts.specs.Tokens.{Token}
use Rattle.rv_asm.specs.Numbers.{register_of, decimal_of, below_32, begins_letter}
use Rattle.rv_asm.specs.Table.{Statement, Row, wants, rows, named}
use Rattle.rv_asm.specs.LineMeaning.{Names, no_operands, put, bits_of, is_within, is_even, number_in, target_in, put_number, put_register, taken, in_column, operands_of, said, instruction_of, begins_label, is_bare_name, is_earlier, line_of}
use Rattle.line_texts.specs.Parsers.{◌>>=◌}
use Rattle.line_texts.specs.Cursors.{text_in}
use Rattle.rv_asm.specs.PackedWords.{IsImmediate, InFormat}
use Rattle.rv_asm.specs.Encoder.{encoded, code_table}
use Rattle.line_texts.proofs.Steps.{which, chosen, both, bind_ok, ok_is, done}
use Rattle.rv_asm.proofs.RowAgreement.{AreAlike, HasStatement, named_alike}

pub at_most : (n high : ℕ) → nat_le n high ≡ true → n ≤ high
at_most n high is = grind (arith, nat_tests)

-- ---- registers

low_32 : (o : Option ℕ) (n : ℕ) → below_32 o ≡ Some n → n < 32
low_32 None n e = absurd cc
low_32 (Some m) n e = elim (chosen (nat_lt m 32) (Some m) None (Some n) e) [
  | inl h ↦ let same : m ≡ n = cc (h.1) in subst (λ (k : ℕ). k < 32) same (ltb-true _ _ h.0)
  | inr h ↦ absurd (cc (h.1))
]

pub register_low : (text : List ℕ) (n : ℕ) → register_of text ≡ Some n → n < 32
unfolding register_of
register_low [] n e = absurd cc
register_low (c ∷ cs) n e = elim (chosen (eqb c 120) (below_32 (decimal_of cs)) None (Some n) e) [
  | inl h ↦ low_32 (decimal_of cs) n h.1
  | inr h ↦ absurd (cc (h.1))
]

record HasRegisters (o : Operands) : Type 0 where
  rd : o.rd < 32
  rs1 : o.rs1 < 32
  rs2 : o.rs2 < 32

put_low : (field : Field) (n : ℕ) (o : Operands) → n < 32 → HasRegisters o → HasRegisters (put field n o)
put_low Rd n o low has = record { rd = low; rs1 = has.rs1; rs2 = has.rs2 }
put_low Rs1 n o low has = record { rd = has.rd; rs1 = low; rs2 = has.rs2 }
put_low Rs2 n o low has = record { rd = has.rd; rs1 = has.rs1; rs2 = low }

put_imm : (field : Field) (n : ℕ) (o : Operands) → (put field n o).imm ≡ o.imm
put_imm Rd n o = refl
put_imm Rs1 n o = refl
put_imm Rs2 n o = refl

-- ---- one want

-- how the immediate goes on
abbrev Moves : Want → ℕ → ℕ → Type 0
Moves (Register field) before after = after ≡ before
Moves (Mark byte) before after = after ≡ before
Moves (Number low high) before after = (n : Signed) × (is_within low high n ≡ true) × (after ≡ bits_of n)
Moves (Target low high) before after = (n : Signed) × ((is_within low high n && is_even n) ≡ true) × (after ≡ bits_of n)

record IsTaken (w : Want) (o p : Operands) : Type 0 where
  registers : HasRegisters p
  imm : Moves w o.imm p.imm

of_register : (field : Field) (text : List ℕ) (o p : Operands) → HasRegisters o → (found : Option ℕ) → register_of text ≡ found → put_register field o (begins_letter text) found ≡ Ok p → IsTaken (Register field) o p
of_register field text o p has (Some n) is e =
    let same : put field n o ≡ p = ok_is (put field n o) p e in
    subst (λ (q : Operands). IsTaken (Register field) o q) same (record { registers = put_low field n o (register_low text n is) has; imm = put_imm field n o })
of_register field text o p has None is e = absurd cc

record IsPut (fits : Bool) (o : Operands) (n : Signed) (p : Operands) : Type 0 where
  fit : fits ≡ true
  same : record o { imm = bits_of n } ≡ p

number_put : (fits : Bool) (o : Operands) (n : Signed) (p : Operands) → put_number fits o n ≡ Ok p → IsPut fits o n p
number_put fits o n p e = elim (chosen fits (Ok (record o { imm = bits_of n })) (Err rule.Number) (Ok p) e) [
  | inl h ↦ record { fit = h.0; same = ok_is (record o { imm = bits_of n }) p h.1 }
  | inr h ↦ absurd (cc (h.1))
]

one_taken : (names : Names) (place : ℕ) (w : Want) (text : List ℕ) (o p : Operands) → HasRegisters o → taken names place w text o ≡ Ok p → IsTaken w o p
unfolding taken
one_taken names place (Register field) text o p has e = of_register field text o p has (register_of text) refl e
one_taken names place (Mark byte) text o p has e = elim (chosen (bytes_eq text (byte ∷ [])) (Ok o) (Err rule.NotInstruction) (Ok p) e) [
  | inl h ↦ let same : o ≡ p = ok_is o p h.1 in subst (λ (q : Operands). IsTaken (Mark byte) o q) same (record { registers = has; imm = refl })
  | inr h ↦ absurd (cc (h.1))
]
one_taken names place (Number low high) text o p has e =
    let b = bind_ok (number_in text) (λ n. put_number (is_within low high n) o n) p e in
    let q = number_put (is_within low high b.0) o b.0 p b.2 in
    subst (λ (r : Operands). IsTaken (Number low high) o r) q.same (record { registers = record { rd = has.rd; rs1 = has.rs1; rs2 = has.rs2 }; imm = (b.0, q.fit, refl) })
one_taken names place (Target low high) text o p has e =
    let b = bind_ok (target_in names place text) (λ n. put_number (is_within low high n && is_even n) o n) p e in
    let q = number_put (is_within low high b.0 && is_even b.0) o b.0 p b.2 in
    subst (λ (r : Operands). IsTaken (Target low high) o r) q.same (record { registers = record { rd = has.rd; rs1 = has.rs1; rs2 = has.rs2 }; imm = (b.0, q.fit, refl) })

-- ---- all wants

abbrev Immediates : List Want → ℕ → ℕ → Type 0
Immediates [] before after = after ≡ before
Immediates (Register field ∷ ws) before after = Immediates ws before after
Immediates (Mark byte ∷ ws) before after = Immediates ws before after
Immediates (Number low high ∷ ws) before after = (n : Signed) × (is_within low high n ≡ true) × Immediates ws (bits_of n) after
Immediates (Target low high ∷ ws) before after = (n : Signed) × ((is_within low high n && is_even n) ≡ true) × Immediates ws (bits_of n) after

joined : (w : Want) (ws : List Want) (before between after : ℕ) → Moves w before between → Immediates ws between after → Immediates (w ∷ ws) before after
joined (Register field) ws before between after is rest = subst (λ (m : ℕ). Immediates ws m after) is rest
joined (Mark byte) ws before between after is rest = subst (λ (m : ℕ). Immediates ws m after) is rest
joined (Number low high) ws before between after is rest = (is.0, is.1, subst (λ (m : ℕ). Immediates ws m after) is.2 rest)
joined (Target low high) ws before between after is rest = (is.0, is.1, subst (λ (m : ℕ). Immediates ws m after) is.2 rest)

record AreTaken (ws : List Want) (o p : Operands) : Type 0 where
  registers : HasRegisters p
  imm : Immediates ws o.imm p.imm

in_column_ok : {A : Type 0} (column : ℕ) (r : Result A Rule) (x : A) → in_column column r ≡ Ok x → r ≡ Ok x
in_column_ok column (Ok y) x e = cc
in_column_ok column (Err d) x e = absurd cc

all_taken : (names : Names) (place end : ℕ) (ws : List Want) (ts : List Token) (o p : Operands) → HasRegisters o → operands_of names place end ws ts o ≡ Ok p → AreTaken ws o p
unfolding operands_of
all_taken names place end [] [] o p has e =
    let same : o ≡ p = ok_is o p e in
    subst (λ (q : Operands). AreTaken [] o q) same (record { registers = has; imm = refl })
all_taken names place end [] (t ∷ ts) o p has e = absurd cc
all_taken names place end (w ∷ ws) [] o p has e = absurd cc
all_taken names place end (w ∷ ws) (t ∷ ts) o p has e =
    let b = bind_ok (in_column t.column (taken names place w t.text o)) (λ q. operands_of names place end ws ts q) p e in
    let first = one_taken names place w t.text o b.0 has (in_column_ok t.column (taken names place w t.text o) b.0 b.1) in
    let rest = all_taken names place end ws ts b.0 p first.registers b.2 in
    record { registers = rest.registers; imm = joined w ws o.imm b.0.imm p.imm first.imm rest.imm }

-- ---- formats

plus_bits : (n low high : ℕ) → is_within low high (Plus n) ≡ true → bits_of (Plus n) ≤ high
plus_bits n low high is = at_most n high is

bits_below : (n : Signed) (high top : ℕ) → high < top → is_within 0 high n ≡ true → bits_of n < top
bits_below (Plus n) high top fits is = omega (arith, at_most n high is, fits)
bits_below (Minus n) high top fits is = omega (arith, at_most n 0 is, fits)

bits_12 : (n : Signed) → is_within 2048 2047 n ≡ true → IsSigned 12 (bits_of n)
bits_12 (Plus n) is = inl (omega (arith, at_most n 2047 is))
bits_12 (Minus n) is = minus_signed n (at_most n 2048 is)
  where
    minus_signed : (n : ℕ) → n ≤ 2048 → IsSigned 12 ((2 ^ 32 - n) % 2 ^ 32)
    minus_signed zero small = inl (omega arith)
    minus_signed (suc n) small = inr (omega arith, omega arith)

bits_13 : (n : Signed) → (is_within 4096 4094 n && is_even n) ≡ true → IsSigned 13 (bits_of n) × (bits_of n % 2 ≡ 0)
bits_13 (Plus n) is =
    let p = both (is_within 4096 4094 (Plus n)) (is_even (Plus n)) is in
    (inl (omega (arith, at_most n 4094 p.0)), eqb-true _ _ p.1)
bits_13 (Minus n) is =
    let p = both (is_within 4096 4094 (Minus n)) (is_even (Minus n)) is in
    minus_signed n (at_most n 4096 p.0) (eqb-true _ _ p.1)
  where
    minus_signed : (n : ℕ) → n ≤ 4096 → n % 2 ≡ 0 → IsSigned 13 ((2 ^ 32 - n) % 2 ^ 32) × ((2 ^ 32 - n) % 2 ^ 32 % 2 ≡ 0)
    minus_signed zero small even = (inl (omega arith), omega arith)
    minus_signed (suc n) small even = (inr (omega arith, omega arith), omega arith)

bits_21 : (n : Signed) → (is_within 1048576 1048574 n && is_even n) ≡ true → IsSigned 21 (bits_of n) × (bits_of n % 2 ≡ 0)
bits_21 (Plus n) is =
    let p = both (is_within 1048576 1048574 (Plus n)) (is_even (Plus n)) is in
    (inl (omega (arith, at_most n 1048574 p.0)), eqb-true _ _ p.1)
bits_21 (Minus n) is =
    let p = both (is_within 1048576 1048574 (Minus n)) (is_even (Minus n)) is in
    minus_signed n (at_most n 1048576 p.0) (eqb-true _ _ p.1)
  where
    minus_signed : (n : ℕ) → n ≤ 1048576 → n % 2 ≡ 0 → IsSigned 21 ((2 ^ 32 - n) % 2 ^ 32) × ((2 ^ 32 - n) % 2 ^ 32 % 2 ≡ 0)
    minus_signed zero small even = (inl (omega arith), omega arith)
    minus_signed (suc n) small even = (inr (omega arith, omega arith), omega arith)

immediate_of : (format : Format) (imm : ℕ) → Immediates (wants format) 0 imm → IsImmediate format imm
immediate_of Upper imm is = subst (λ (m : ℕ). m < 2 ^ 20) (sym is.2) (bits_below is.0 1048575 (2 ^ 20) (omega arith) is.1)
immediate_of Jump imm is = subst (λ (m : ℕ). IsSigned 21 m × (m % 2 ≡ 0)) (sym is.2) (bits_21 is.0 is.1)
immediate_of Indexed imm is = subst (λ (m : ℕ). IsSigned 12 m) (sym is.2) (bits_12 is.0 is.1)
immediate_of Branch imm is = subst (λ (m : ℕ). IsSigned 13 m × (m % 2 ≡ 0)) (sym is.2) (bits_13 is.0 is.1)
immediate_of Store imm is = subst (λ (m : ℕ). IsSigned 12 m) (sym is.2) (bits_12 is.0 is.1)
immediate_of Immediate imm is = subst (λ (m : ℕ). IsSigned 12 m) (sym is.2) (bits_12 is.0 is.1)
immediate_of Shift imm is = subst (λ (m : ℕ). m < 32) (sym is.2) (bits_below is.0 31 32 (omega arith) is.1)
immediate_of Registers imm is = tt
immediate_of Plain imm is = tt
immediate_of Word imm is = subst (λ (m : ℕ). m < 2 ^ 32) (sym is.2) (bits_below is.0 4294967295 (2 ^ 32) (omega arith) is.1)

pub in_format : (names : Names) (place end : ℕ) (format : Format) (ts : List Token) (o : Operands) → operands_of names place end (wants format) ts no_operands ≡ Ok o → InFormat format o
in_format names place end format ts o e =
    let t = all_taken names place end (wants format) ts no_operands o (record { rd = omega arith; rs1 = omega arith; rs2 = omega arith }) e in
    record { rd = t.registers.rd; rs1 = t.registers.rs1; rs2 = t.registers.rs2; imm = immediate_of format o.imm t.imm }

-- ---- lines

-- a statement that can be written
pub record IsWritable (s : Statement) : Type 0 where
  pub has : HasStatement s
  pub low : encoded s < 2 ^ 32

said_writable : (names : Names) (place end column : ℕ) (ts : List Token) (r : Option (Row Statement)) (k : Option (Row ℕ)) (s : Statement) → AreAlike r k →
    said names place end column ts r ≡ Ok (Some s) → IsWritable s
said_writable names place end column ts None k s alike e = absurd cc
said_writable names place end column ts (Some r) None s alike e = absurd alike
said_writable names place end column ts (Some r) (Some k) s alike e =
    elim (chosen (eqb place 1048576) _ (operands_of names place end (wants r.format) ts no_operands >>= λ o. Ok (Some (r.says o))) (Ok (Some s)) e) [
      | inl h ↦ absurd (cc (h.1))
      | inr h ↦
          let b = bind_ok (operands_of names place end (wants r.format) ts no_operands) (λ o. Ok (Some (r.says o))) (Some s) h.1 in
          let same : r.says b.0 ≡ s = some_is (r.says b.0) s b.2 in
          let fit = in_format names place end r.format ts b.0 b.1 in
          subst IsWritable same (record { has = alike.ranges b.0 fit; low = alike.low b.0 fit })
    ]
  where
    some_is : (x y : Statement) → done (LineFault Rule) (Some x) ≡ done (LineFault Rule) (Some y) → x ≡ y
    some_is x y e = cc

instruction_writable : (names : Names) (place end : ℕ) (ts : List Token) (s : Statement) → instruction_of rows names place end ts ≡ Ok (Some s) → IsWritable s
unfolding instruction_of
instruction_writable names place end [] s e = absurd cc
instruction_writable names place end (t ∷ ts) s e = said_writable names place end t.column ts (named rows t.text) (named code_table t.text) s (named_alike t.text) e

pub line_writable : (names : Names) (line place end : ℕ) (ts : List Token) (s : Statement) → line_of rows names line place end ts ≡ Ok (Some s) → IsWritable s
unfolding line_of
line_writable names line place end ts s e = elim (which (begins_label ts)) [
  | inl label ↦ elim (which (is_earlier line (names (text_in ts)))) [
    | inl twice ↦ absurd (cc (rw (label, twice) at e))
    | inr first ↦ instruction_writable names place end (drop 2 ts) s (rw (label, first) at e)
  ]
  | inr other ↦ elim (which (is_bare_name rows ts)) [
    | inl name ↦ absurd (cc (rw (other, name) at e))
    | inr more ↦ instruction_writable names place end ts s (rw (other, more) at e)
  ]
]
