-- A canonical line is read as its statement.
use Rattle.std.proofs.Common.{◌≡◌, ◌≢◌, ℕ, zero, suc, ◌+◌, ◌-◌, ◌%◌, ◌^◌, ◌<◌, ◌≤◌, Bool, true, false, cond, eqb, ◌&&◌, List, [], ◌∷◌, ◌++◌, length, Option, Some, Result, Ok, is_none, refl, sym, ap, subst, ◌∙◌, arith, inl, inr}
use Rattle.std.specs.Prelude.{codes, decimal, nat_lt, nat_le}
use Rattle.std.specs.Str.{bytes_eq}
use Rattle.std.specs.Char.{is_ascii_digit}
use Rattle.std.specs.List.{list_all}
use Rattle.std.specs.Map.{lookup}
use Rattle.std.proofs.lemmas.Bool.{eqb-true, eq-eqb, ne_eqb}
use Rattle.std.proofs.lemmas.Bool.Decides.{nat_tests}
use Rattle.std.proofs.lemmas.Fmt.{decimal_digit}
use Rattle.rv_decode.specs.Ranges.{IsSigned}
use Rattle.rv_asm.specs.declared.fault.Rule.{Rule}
use Rattle.line_texts.specs.declared.fault.LineFault.{LineFault}
use Rattle.rv_asm.specs.declared.number.Signed.{Signed}
use Rattle.rv_asm.specs.declared.number.Signed.TheVariants.{Plus, Minus}
use Rattle.rv_asm.specs.declared.table.Field.{Field}
use Rattle.rv_asm.specs.declared.table.Want.{Want}
use Rattle.rv_asm.specs.declared.table.Want.TheVariants.{Register, Mark, Number, Target}
use Rattle.rv_asm.specs.declared.table.Format.{Format}
use Rattle.rv_asm.specs.declared.table.Format.TheVariants.{Upper, Jump, Indexed, Branch, Store, Immediate, Shift, Registers, Plain, Word}
use Rattle.rv_asm.specs.declared.table.Operands.{Operands}
use Rattle.rv_asm.specs.Tokens.{is_run_byte, starts_run, tokens}
use Rattle.line_texts.specs.Tokens.{Token, is_blank, longer}
use Rattle.rv_asm.specs.Numbers.{number_of, begins_number, is_name}
use Rattle.rv_asm.specs.Table.{Statement, Row, wants, rows, named}
use Rattle.rv_asm.specs.LineMeaning.{Names, no_operands, put, bits_of, is_within, is_even, number_in, target_in, put_number, taken, operands_of, said, instruction_of, begins_label, is_bare_name, line_of}
use Rattle.line_texts.specs.Parsers.{◌>>=◌}
use Rattle.rv_asm.specs.Source.{reading}
use Rattle.line_texts.specs.Cursors.{token_of}
use Rattle.rv_asm.specs.PackedWords.{InFormat}
use Rattle.rv_asm.specs.Canonical.{register_in, signed_text, printed, operands_text, unpacked}
use Rattle.line_texts.proofs.Steps.{which, both, same_bytes}
use Rattle.rv_asm.proofs.TokenCases.{run_is_no_blank, run_is_no_comment, past_blank, alone, in_run, nothing}
use Rattle.rv_asm.proofs.Digits.{AreRun, decimal_run, register_read, plus_read, minus_read, digit_test}
use Rattle.line_texts.proofs.Decimal.{begins_well}

-- ---- tokens of printed bytes

pub run_token : (b : ℕ) (bs rest : List ℕ) (column : ℕ) → is_run_byte b ≡ true → AreRun bs → starts_run rest ≡ false →
    tokens column (b ∷ (bs ++ rest)) ≡ token_of column (b ∷ bs) ∷ tokens (column + suc (length bs)) rest
run_token b [] rest column run all ends =
    let single : (is_run_byte b && starts_run rest) ≡ false = rw (ends, run) refl in
    alone column b rest (run_is_no_blank b run) (run_is_no_comment b run) single
run_token b (c ∷ bs) rest column run all ends =
    let columns : (column + 1) + suc (length bs) ≡ column + suc (suc (length bs)) = omega arith in
    in_run column b (c ∷ (bs ++ rest)) run all.0
    ∙ ap (longer column b) (run_token c bs rest (column + 1) all.0 all.1 ends)
    ∙ ap (λ (k : ℕ). token_of column (b ∷ c ∷ bs) ∷ tokens k rest) columns

-- a text that is one run
pub record IsRunText (text : List ℕ) : Type 0 where
  pub first : ℕ
  pub others : List ℕ
  pub parts : text ≡ first ∷ others
  pub run : is_run_byte first ≡ true
  pub all : AreRun others

pub text_token : (text rest : List ℕ) (column : ℕ) → IsRunText text → starts_run rest ≡ false →
    (next : ℕ) × (tokens column (text ++ rest) ≡ token_of column text ∷ tokens next rest)
text_token text rest column is ends = (
  column + suc (length is.others),
  ap (λ (xs : List ℕ). tokens column (xs ++ rest)) is.parts
      ∙ run_token is.first is.others rest column is.run is.all ends
      ∙ ap (λ (xs : List ℕ). token_of column xs ∷ tokens (column + suc (length is.others)) rest) (sym is.parts),
)

decimal_text : (n : ℕ) → n < 2 ^ 64 → IsRunText (decimal n)
decimal_text n small = by_digits (decimal n) (decimal_run n small) (some_digits n small)
  where
    by_digits : (ds : List ℕ) → AreRun ds → 0 < length ds → IsRunText ds
    by_digits [] all some = absurd (omega arith)
    by_digits (d ∷ ds) all some = record { first = d; others = ds; parts = refl; run = all.0; all = all.1 }

    some_digits : (n : ℕ) → n < 2 ^ 64 → 0 < length (decimal n)
    some_digits zero small = omega (arith, ap length (decimal_digit 0 (omega arith)))
    some_digits (suc n) small = let b = begins_well (suc n) (omega arith) small in omega (arith, ap length b.parts)

pub put_before : (b : ℕ) (text : List ℕ) → is_run_byte b ≡ true → IsRunText text → IsRunText (b ∷ text)
put_before b text run is =
    record { first = b; others = text; parts = refl; run = run; all = subst AreRun (sym is.parts) (is.run, is.all) }

-- ---- numbers of 32 bits

pub signed_of : ℕ → Signed
signed_of imm = cond (nat_lt imm (2 ^ 31)) (Plus imm) (Minus (2 ^ 32 - imm))

not_below : (a b : ℕ) → nat_lt a b ≡ false → b ≤ a
not_below a b is = grind (arith, nat_tests)

-- how a number of 32 bits is said, and what it is
record IsSaid (imm : ℕ) : Type 0 where
  number : number_of (signed_text imm) ≡ Some (signed_of imm)
  begins : begins_number (signed_text imm) ≡ true
  text : IsRunText (signed_text imm)
  bits : bits_of (signed_of imm) ≡ imm

begins_decimal : (n : ℕ) → n < 2 ^ 64 → begins_number (decimal n) ≡ true
begins_decimal zero small = ap begins_number (decimal_digit 0 (omega arith))
begins_decimal (suc n) small =
    let b = begins_well (suc n) (omega arith) small in
    ap begins_number b.parts ∙ digit_or b.first (digit_test b.first (omega (arith, b.low)) b.high)
  where
    digit_or : (c : ℕ) → is_ascii_digit c ≡ true → begins_number (c ∷ []) ≡ true
    digit_or c is = rw is refl

said_32 : (imm : ℕ) → imm < 2 ^ 32 → IsSaid imm
unfolding signed_of
said_32 imm small = elim (which (nat_lt imm (2 ^ 31))) [
  | inl low ↦ record {
    number = rw low (plus_read imm small);
    begins = rw low (begins_decimal imm (omega arith));
    text = rw low (decimal_text imm (omega arith));
    bits = rw low refl;
  }
  | inr high ↦ record {
    number = rw high (minus_read (2 ^ 32 - imm) (omega arith) (omega (arith, not_below imm (2 ^ 31) high)));
    begins = rw high refl;
    text = rw high (put_before 45 (decimal (2 ^ 32 - imm)) refl (decimal_text (2 ^ 32 - imm) (omega arith)));
    bits = rw high (omega (arith, not_below imm (2 ^ 31) high));
  }
]

-- ---- wants

-- the operands have what is wanted
abbrev pub Holds : Operands → Want → Type 0
Holds o (Register field) = register_in field o < 32
Holds o (Mark b) = (is_blank b ≡ false) × (is_run_byte b ≡ false) × (eqb b 35 ≡ false)
Holds o (Number low high) = (o.imm < 2 ^ 32) × (is_within low high (signed_of o.imm) ≡ true)
Holds o (Target low high) = (o.imm < 2 ^ 32) × ((is_within low high (signed_of o.imm) && is_even (signed_of o.imm)) ≡ true)

abbrev pub AllHold : Operands → List Want → Type 0
AllHold o [] = Unit {0}
AllHold o (w ∷ ws) = Holds o w × AllHold o ws

-- a mark stands behind each other want, or nothing
abbrev pub BeginsApart : List Want → Type 0
BeginsApart [] = Unit {0}
BeginsApart (Mark b ∷ ws) = Unit {0}
BeginsApart (w ∷ ws) = ⊥

abbrev pub AreApart : List Want → Type 0
AreApart [] = Unit {0}
AreApart (Mark b ∷ ws) = AreApart ws
AreApart (w ∷ ws) = BeginsApart ws × AreApart ws

-- the operands with what is printed for a want
abbrev pub copied_want : Operands → Want → Operands → Operands
copied_want o (Register field) p = put field (register_in field o) p
copied_want o (Mark b) p = p
copied_want o (Number low high) p = record p { imm = o.imm }
copied_want o (Target low high) p = record p { imm = o.imm }

abbrev pub copied : Operands → List Want → Operands → Operands
copied o [] p = p
copied o (w ∷ ws) p = copied o ws (copied_want o w p)

comma_starts : (b : ℕ) (rest : List ℕ) → is_run_byte b ≡ false → starts_run (cond (eqb b 44) (codes ", ") (b ∷ []) ++ rest) ≡ false
comma_starts b rest run = elim (which (eqb b 44)) [
  | inl comma ↦ rw comma refl
  | inr other ↦ rw other run
]

apart : (o : Operands) (ws : List Want) → BeginsApart ws → AllHold o ws → starts_run (printed o ws) ≡ false
apart o [] is hold = refl
apart o (Mark b ∷ ws) is hold = comma_starts b (printed o ws) hold.0.1
apart o (Register field ∷ ws) is hold = absurd is
apart o (Number low high ∷ ws) is hold = absurd is
apart o (Target low high ∷ ws) is hold = absurd is

-- what a token says
taken_register : (names : Names) (place : ℕ) (field : Field) (n : ℕ) (p : Operands) → n < 32 → taken names place (Register field) (120 ∷ decimal n) p ≡ Ok (put field n p)
unfolding taken
taken_register names place field n p low = rw (register_read n low) refl

taken_mark : (names : Names) (place b : ℕ) (p : Operands) → taken names place (Mark b) (b ∷ []) p ≡ Ok p
unfolding taken
taken_mark names place b p = rw (eq-eqb b b refl) refl

said_number : (imm : ℕ) → IsSaid imm → number_in (signed_text imm) ≡ Ok (signed_of imm)
unfolding number_in
said_number imm is = rw (is.begins, is.number) refl

said_target : (names : Names) (place imm : ℕ) → IsSaid imm → target_in names place (signed_text imm) ≡ Ok (signed_of imm)
unfolding target_in
said_target names place imm is = rw (is.begins, is.number) refl

put_fitting : (fits : Bool) (p : Operands) (imm : ℕ) → fits ≡ true → IsSaid imm → put_number fits p (signed_of imm) ≡ Ok (record p { imm = imm })
put_fitting fits p imm fit is = rw fit (ap (λ (m : ℕ). let r : Result Operands Rule = Ok (record p { imm = m }) in r) is.bits)

taken_number : (names : Names) (place low high imm : ℕ) (p : Operands) → imm < 2 ^ 32 → is_within low high (signed_of imm) ≡ true →
    taken names place (Number low high) (signed_text imm) p ≡ Ok (record p { imm = imm })
unfolding taken
taken_number names place low high imm p small fit =
    let is = said_32 imm small in
    ap (λ (r : Result Signed Rule). r >>= λ n. put_number (is_within low high n) p n) (said_number imm is)
    ∙ put_fitting (is_within low high (signed_of imm)) p imm fit is

taken_target : (names : Names) (place low high imm : ℕ) (p : Operands) → imm < 2 ^ 32 → (is_within low high (signed_of imm) && is_even (signed_of imm)) ≡ true →
    taken names place (Target low high) (signed_text imm) p ≡ Ok (record p { imm = imm })
unfolding taken
taken_target names place low high imm p small fit =
    let is = said_32 imm small in
    ap (λ (r : Result Signed Rule). r >>= λ n. put_number (is_within low high n && is_even n) p n) (said_target names place imm is)
    ∙ put_fitting (is_within low high (signed_of imm) && is_even (signed_of imm)) p imm fit is

-- one want after another
pub next_operand : (names : Names) (place end : ℕ) (w : Want) (ws : List Want) (seen : List Token) (t : Token) (ts : List Token) (p q : Operands) → seen ≡ t ∷ ts → taken names place w t.text p ≡ Ok q →
    operands_of names place end (w ∷ ws) seen p ≡ operands_of names place end ws ts q
unfolding operands_of
next_operand names place end w ws seen t ts p q is said = ap (λ (xs : List Token). operands_of names place end (w ∷ ws) xs p) is ∙ rw said refl

mark_tokens : (column b : ℕ) (rest : List ℕ) → (is_blank b ≡ false) × (is_run_byte b ≡ false) × (eqb b 35 ≡ false) →
    (next : ℕ) × (tokens column (cond (eqb b 44) (codes ", ") (b ∷ []) ++ rest) ≡ token_of column (b ∷ []) ∷ tokens next rest)
mark_tokens column b rest is = elim (which (eqb b 44)) [
  | inl comma ↦
      let same : b ≡ 44 = eqb-true _ _ comma in
      (column + 1 + 1, rw (comma, same) (alone column 44 (32 ∷ rest) refl refl refl ∙ ap (λ (ts : List Token). token_of column (44 ∷ []) ∷ ts) (past_blank (column + 1) 32 rest refl)))
  | inr other ↦
      let single : (is_run_byte b && starts_run rest) ≡ false = rw is.1 refl in
      (column + 1, rw other (alone column b rest is.0 is.2 single))
]

pub printed_read : (names : Names) (place end : ℕ) (o : Operands) (ws : List Want) (column : ℕ) (p : Operands) → AllHold o ws → AreApart ws →
    operands_of names place end ws (tokens column (printed o ws)) p ≡ Ok (copied o ws p)
unfolding operands_of
printed_read names place end o [] column p hold are = ap (λ (ts : List Token). operands_of names place end [] ts p) (nothing column)
printed_read names place end o (Register field ∷ ws) column p hold are =
    let text = put_before 120 (decimal (register_in field o)) refl (decimal_text (register_in field o) (omega (arith, hold.0))) in
    let t = text_token (120 ∷ decimal (register_in field o)) (printed o ws) column text (apart o ws are.0 hold.1) in
    next_operand names place end (Register field) ws (tokens column (printed o (Register field ∷ ws))) (token_of column (120 ∷ decimal (register_in field o))) (tokens t.0 (printed o ws)) p (put field (register_in field o) p) t.1 (taken_register names place field (register_in field o) p hold.0)
    ∙ printed_read names place end o ws t.0 (put field (register_in field o) p) hold.1 are.1
printed_read names place end o (Mark b ∷ ws) column p hold are =
    let t = mark_tokens column b (printed o ws) hold.0 in
    next_operand names place end (Mark b) ws (tokens column (printed o (Mark b ∷ ws))) (token_of column (b ∷ [])) (tokens t.0 (printed o ws)) p p t.1 (taken_mark names place b p)
    ∙ printed_read names place end o ws t.0 p hold.1 are
printed_read names place end o (Number low high ∷ ws) column p hold are =
    let t = text_token (signed_text o.imm) (printed o ws) column (said_32 o.imm hold.0.0).text (apart o ws are.0 hold.1) in
    next_operand names place end (Number low high) ws (tokens column (printed o (Number low high ∷ ws))) (token_of column (signed_text o.imm)) (tokens t.0 (printed o ws)) p (record p { imm = o.imm }) t.1 (taken_number names place low high o.imm p hold.0.0 hold.0.1)
    ∙ printed_read names place end o ws t.0 (record p { imm = o.imm }) hold.1 are.1
printed_read names place end o (Target low high ∷ ws) column p hold are =
    let t = text_token (signed_text o.imm) (printed o ws) column (said_32 o.imm hold.0.0).text (apart o ws are.0 hold.1) in
    next_operand names place end (Target low high) ws (tokens column (printed o (Target low high ∷ ws))) (token_of column (signed_text o.imm)) (tokens t.0 (printed o ws)) p (record p { imm = o.imm }) t.1 (taken_target names place low high o.imm p hold.0.0 hold.0.1)
    ∙ printed_read names place end o ws t.0 (record p { imm = o.imm }) hold.1 are.1

-- ---- lines

-- no second token is a colon
abbrev pub NoColon : List Token → Type 0
NoColon [] = Unit {0}
NoColon (t ∷ ts) = bytes_eq t.text (codes ":") ≡ false

run_no_colon : (text : List ℕ) → IsRunText text → bytes_eq text (codes ":") ≡ false
run_no_colon text is = ap (λ (xs : List ℕ). bytes_eq xs (codes ":")) is.parts ∙ by_first is.first is.others is.run
  where
    no_colon : (b : ℕ) → is_run_byte b ≡ true → eqb b 58 ≡ false
    no_colon b run = grind (arith, nat_tests)

    by_first : (b : ℕ) (bs : List ℕ) → is_run_byte b ≡ true → bytes_eq (b ∷ bs) (codes ":") ≡ false
    by_first b bs run = rw (no_colon b run) refl

-- the first want is no mark
abbrev pub BeginsWithRun : List Want → Type 0
BeginsWithRun [] = Unit {0}
BeginsWithRun (Mark b ∷ ws) = ⊥
BeginsWithRun (w ∷ ws) = Unit {0}

colonless : (seen : List Token) (t : Token) (ts : List Token) → seen ≡ t ∷ ts → IsRunText t.text → NoColon seen
colonless seen t ts is run = subst NoColon (sym is) (run_no_colon t.text run)

pub printed_no_colon : (o : Operands) (ws : List Want) (column : ℕ) → AllHold o ws → AreApart ws → BeginsWithRun ws → NoColon (tokens column (printed o ws))
printed_no_colon o [] column hold are begins = subst NoColon (sym (nothing column)) tt
printed_no_colon o (Register field ∷ ws) column hold are begins =
    let text = put_before 120 (decimal (register_in field o)) refl (decimal_text (register_in field o) (omega (arith, hold.0))) in
    let t = text_token (120 ∷ decimal (register_in field o)) (printed o ws) column text (apart o ws are.0 hold.1) in
    colonless (tokens column (printed o (Register field ∷ ws))) (token_of column (120 ∷ decimal (register_in field o))) (tokens t.0 (printed o ws)) t.1 text
printed_no_colon o (Mark b ∷ ws) column hold are begins = absurd begins
printed_no_colon o (Number low high ∷ ws) column hold are begins =
    let is = said_32 o.imm hold.0.0 in
    let t = text_token (signed_text o.imm) (printed o ws) column is.text (apart o ws are.0 hold.1) in
    colonless (tokens column (printed o (Number low high ∷ ws))) (token_of column (signed_text o.imm)) (tokens t.0 (printed o ws)) t.1 is.text
printed_no_colon o (Target low high ∷ ws) column hold are begins =
    let is = said_32 o.imm hold.0.0 in
    let t = text_token (signed_text o.imm) (printed o ws) column is.text (apart o ws are.0 hold.1) in
    colonless (tokens column (printed o (Target low high ∷ ws))) (token_of column (signed_text o.imm)) (tokens t.0 (printed o ws)) t.1 is.text

no_label : (t : Token) (ts : List Token) → NoColon ts → begins_label (t ∷ ts) ≡ false
no_label t [] clear = refl
no_label t (u ∷ us) clear = elim (which (is_name t.text)) [
  | inl name ↦ rw (clear, name) refl
  | inr other ↦ rw other refl
]

and_false : (b : Bool) → (b && false) ≡ false
and_false true = refl
and_false false = refl

not_bare : (t : Token) (ts : List Token) (row : Row Statement) → named rows t.text ≡ Some row → is_bare_name rows (t ∷ ts) ≡ false
not_bare t ts row is = ap (λ (o : Option (Row Statement)). is_name t.text && is_none o) is ∙ and_false (is_name t.text)

said_row : (names : Names) (place end column : ℕ) (ts : List Token) (row : Row Statement) (o : Operands) → place ≢ 1048576 → operands_of names place end (wants row.format) ts no_operands ≡ Ok o →
    said names place end column ts (Some row) ≡ Ok (Some (row.says o))
said_row names place end column ts row o room is = rw (ne_eqb place 1048576 room, is) refl

instruction_read : (names : Names) (place end : ℕ) (t : Token) (ts : List Token) (row : Row Statement) (o : Operands) → named rows t.text ≡ Some row → place ≢ 1048576 → operands_of names place end (wants row.format) ts no_operands ≡ Ok o →
    instruction_of rows names place end (t ∷ ts) ≡ Ok (Some (row.says o))
unfolding instruction_of
instruction_read names place end t ts row o is room read =
    ap (said names place end t.column ts) is ∙ said_row names place end t.column ts row o room read

pub line_read : (names : Names) (line place end : ℕ) (seen : List Token) (t : Token) (ts : List Token) (row : Row Statement) (o : Operands) → seen ≡ t ∷ ts → NoColon ts → named rows t.text ≡ Some row → place ≢ 1048576 →
    operands_of names place end (wants row.format) ts no_operands ≡ Ok o → line_of rows names line place end seen ≡ Ok (Some (row.says o))
unfolding line_of
line_read names line place end seen t ts row o sees clear is room read =
    ap (λ (xs : List Token). line_of rows names line place end xs) sees
    ∙ rw (no_label t ts clear, not_bare t ts row is) (instruction_read names place end t ts row o is room read)

-- the names of rows are runs
abbrev is_run_text : List ℕ → Bool
is_run_text text = starts_run text && list_all is_run_byte text

runs_of : (bs : List ℕ) → list_all is_run_byte bs ≡ true → AreRun bs
runs_of [] all = tt
runs_of (b ∷ bs) all = let p = both (is_run_byte b) (list_all is_run_byte bs) all in (p.0, runs_of bs p.1)

run_text_of : (text : List ℕ) → is_run_text text ≡ true → IsRunText text
run_text_of [] is = absurd cc
run_text_of (b ∷ bs) is =
    let p = both (is_run_byte b) (list_all is_run_byte (b ∷ bs)) is in
    let q = runs_of (b ∷ bs) p.1 in
    record { first = b; others = bs; parts = refl; run = q.0; all = q.1 }

all_run_names : list_all (λ (r : List ℕ × Row Statement). is_run_text r.0) rows ≡ true
unfolding rows
all_run_names = refl

key_runs : (rs : List (List ℕ × Row Statement)) (name : List ℕ) (row : Row Statement) → list_all (λ (r : List ℕ × Row Statement). is_run_text r.0) rs ≡ true → lookup (bytes_eq name) rs ≡ Some row → is_run_text name ≡ true
key_runs [] name row all is = absurd cc
key_runs (r ∷ rs) name row all is =
    let p = both (is_run_text r.0) (list_all (λ (r : List ℕ × Row Statement). is_run_text r.0) rs) all in
    elim (which (bytes_eq name r.0)) [
      | inl hit ↦ ap is_run_text (same_bytes name r.0 hit) ∙ p.0
      | inr miss ↦ key_runs rs name row p.1 (rw miss at is)
    ]

pub name_runs : (name : List ℕ) (row : Row Statement) → named rows name ≡ Some row → IsRunText name
unfolding named
name_runs name row is = run_text_of name (key_runs rows name row all_run_names is)

-- a name and operands
operands_tokens : (o : Operands) (ws : List Want) (name : List ℕ) → IsRunText name → (next : ℕ) × (tokens 1 (name ++ operands_text o ws) ≡ token_of 1 name ∷ tokens next (printed o ws))
operands_tokens o [] name is = text_token name [] 1 is refl
operands_tokens o (w ∷ ws) name is =
    let t = text_token name (32 ∷ printed o (w ∷ ws)) 1 is refl in
    (t.0 + 1, t.1 ∙ ap (λ (ts : List Token). token_of 1 name ∷ ts) (past_blank t.0 32 (printed o (w ∷ ws)) refl))

-- ---- formats

formats_apart : (format : Format) → AreApart (wants format)
formats_apart Upper = (tt, (tt, tt))
formats_apart Jump = (tt, (tt, tt))
formats_apart Indexed = (tt, (tt, (tt, tt)))
formats_apart Branch = (tt, (tt, (tt, tt)))
formats_apart Store = (tt, (tt, (tt, tt)))
formats_apart Immediate = (tt, (tt, (tt, tt)))
formats_apart Shift = (tt, (tt, (tt, tt)))
formats_apart Registers = (tt, (tt, (tt, tt)))
formats_apart Plain = tt
formats_apart Word = (tt, tt)

formats_run : (format : Format) → BeginsWithRun (wants format)
formats_run Upper = tt
formats_run Jump = tt
formats_run Indexed = tt
formats_run Branch = tt
formats_run Store = tt
formats_run Immediate = tt
formats_run Shift = tt
formats_run Registers = tt
formats_run Plain = tt
formats_run Word = tt

most : (n high : ℕ) → n ≤ high → nat_le n high ≡ true
most n high is = grind (arith, nat_tests)

within_plus : (low high imm : ℕ) → imm ≤ high → high < 2 ^ 31 → is_within low high (signed_of imm) ≡ true
unfolding signed_of
within_plus low high imm is small = rw (below imm (2 ^ 31) (omega arith)) (most imm high is)
  where
    below : (a b : ℕ) → a < b → nat_lt a b ≡ true
    below a b h = grind (arith, nat_tests)

within_minus : (low high imm : ℕ) → 2 ^ 31 ≤ imm → 2 ^ 32 - imm ≤ low → is_within low high (signed_of imm) ≡ true
unfolding signed_of
within_minus low high imm large is = rw (above imm (2 ^ 31) large) (most (2 ^ 32 - imm) low is)
  where
    above : (a b : ℕ) → b ≤ a → nat_lt a b ≡ false
    above a b h = grind (arith, nat_tests)

even_signed : (imm : ℕ) → imm < 2 ^ 32 → imm % 2 ≡ 0 → is_even (signed_of imm) ≡ true
unfolding signed_of
even_signed imm small even = elim (which (nat_lt imm (2 ^ 31))) [
  | inl low ↦ rw low (eq-eqb _ _ even)
  | inr high ↦ rw high (eq-eqb _ _ (omega arith))
]

within_12 : (imm : ℕ) → IsSigned 12 imm → (imm < 2 ^ 32) × (is_within 2048 2047 (signed_of imm) ≡ true)
within_12 imm (inl low) = (omega arith, within_plus 2048 2047 imm (omega arith) (omega arith))
within_12 imm (inr high) = (high.1, within_minus 2048 2047 imm (omega (arith, high.0)) (omega (arith, high.0, high.1)))

both_hold : (a b : Bool) → a ≡ true → b ≡ true → (a && b) ≡ true
both_hold a b p q = rw (p, q) refl

within_13 : (imm : ℕ) → IsSigned 13 imm → imm % 2 ≡ 0 → (imm < 2 ^ 32) × ((is_within 4096 4094 (signed_of imm) && is_even (signed_of imm)) ≡ true)
within_13 imm (inl low) even =
    let small : imm < 2 ^ 32 = omega arith in
    (small, both_hold _ _ (within_plus 4096 4094 imm (omega arith) (omega arith)) (even_signed imm small even))
within_13 imm (inr high) even =
    (high.1, both_hold _ _ (within_minus 4096 4094 imm (omega (arith, high.0)) (omega (arith, high.0, high.1))) (even_signed imm high.1 even))

within_21 : (imm : ℕ) → IsSigned 21 imm → imm % 2 ≡ 0 → (imm < 2 ^ 32) × ((is_within 1048576 1048574 (signed_of imm) && is_even (signed_of imm)) ≡ true)
within_21 imm (inl low) even =
    let small : imm < 2 ^ 32 = omega arith in
    (small, both_hold _ _ (within_plus 1048576 1048574 imm (omega arith) (omega arith)) (even_signed imm small even))
within_21 imm (inr high) even =
    (high.1, both_hold _ _ (within_minus 1048576 1048574 imm (omega (arith, high.0)) (omega (arith, high.0, high.1))) (even_signed imm high.1 even))

abbrev IsMark : ℕ → Type 0
IsMark b = (is_blank b ≡ false) × (is_run_byte b ≡ false) × (eqb b 35 ≡ false)

comma_mark : IsMark 44
comma_mark = (refl, refl, refl)

opening_mark : IsMark 40
opening_mark = (refl, refl, refl)

closing_mark : IsMark 41
closing_mark = (refl, refl, refl)

-- a row's format but that of any word
all_hold : (format : Format) (o : Operands) → InFormat format o → format ≢ Word → AllHold o (wants format)
all_hold Upper o f other = (f.rd, (comma_mark, ((omega (arith, f.imm), within_plus 0 1048575 o.imm (omega (arith, f.imm)) (omega arith)), tt)))
all_hold Jump o f other = (f.rd, (comma_mark, (within_21 o.imm f.imm.0 f.imm.1, tt)))
all_hold Indexed o f other = (f.rd, (comma_mark, (within_12 o.imm f.imm, (opening_mark, (f.rs1, (closing_mark, tt))))))
all_hold Branch o f other = (f.rs1, (comma_mark, (f.rs2, (comma_mark, (within_13 o.imm f.imm.0 f.imm.1, tt)))))
all_hold Store o f other = (f.rs2, (comma_mark, (within_12 o.imm f.imm, (opening_mark, (f.rs1, (closing_mark, tt))))))
all_hold Immediate o f other = (f.rd, (comma_mark, (f.rs1, (comma_mark, (within_12 o.imm f.imm, tt)))))
all_hold Shift o f other = (f.rd, (comma_mark, (f.rs1, (comma_mark, ((omega (arith, f.imm), within_plus 0 31 o.imm (omega (arith, f.imm)) (omega arith)), tt)))))
all_hold Registers o f other = (f.rd, (comma_mark, (f.rs1, (comma_mark, (f.rs2, tt)))))
all_hold Plain o f other = tt
all_hold Word o f other = absurd (other refl)

copied_whole : (format : Format) (w : ℕ) → copied (unpacked format w) (wants format) no_operands ≡ unpacked format w
copied_whole Upper w = refl
copied_whole Jump w = refl
copied_whole Indexed w = refl
copied_whole Branch w = refl
copied_whole Store w = refl
copied_whole Immediate w = refl
copied_whole Shift w = refl
copied_whole Registers w = refl
copied_whole Plain w = refl
copied_whole Word w = refl

-- the line of a row is read as what the row says
pub row_read : (names : Names) (line place : ℕ) (name : List ℕ) (row : Row Statement) (w : ℕ) → named rows name ≡ Some row → place ≢ 1048576 → InFormat row.format (unpacked row.format w) → row.format ≢ Word →
    reading names line place (name ++ operands_text (unpacked row.format w) (wants row.format)) ≡ Ok (Some (row.says (unpacked row.format w)))
row_read names line place name row w is room fit other =
    let o = unpacked row.format w in
    let text : List ℕ = name ++ operands_text o (wants row.format) in
    let hold = all_hold row.format o fit other in
    let t = operands_tokens o (wants row.format) name (name_runs name row is) in
    let read : operands_of names place (length text + 1) (wants row.format) (tokens t.0 (printed o (wants row.format))) no_operands ≡ Ok o =
    printed_read names place (length text + 1) o (wants row.format) t.0 no_operands hold (formats_apart row.format)
    ∙ ap (λ (p : Operands). let r : Result Operands (LineFault Rule) = Ok p in r) (copied_whole row.format w) in
    line_read names line place (length text + 1) (tokens 1 text) (token_of 1 name) (tokens t.0 (printed o (wants row.format))) row o t.1
    (printed_no_colon o (wants row.format) t.0 hold (formats_apart row.format) (formats_run row.format)) is room read
