-- Canonical lines mean their words.
use Rattle.std.proofs.Common.{◌≡◌, ◌≢◌, ℕ, suc, ◌+◌, ◌-◌, ◌^◌, ◌<◌, ◌≤◌, ◌⊎◌, true, false, cond, eqb, List, [], ◌∷◌, ◌++◌, length, Option, Some, Result, Ok, Err, refl, sym, ap, subst, ◌∙◌, append_assoc, arith, inl, inr}
use Rattle.std.specs.Prelude.{codes, decimal, nat_le, nat_lt}
use Rattle.std.specs.List.{AllByRecursion}
use Rattle.std.proofs.lemmas.List.{append-nil}
use Rattle.std.proofs.lemmas.Bool.Decides.{nat_tests}
use Rattle.line_texts.specs.declared.fault.Fault.{Fault}
use Rattle.line_texts.specs.declared.fault.LineFault.{LineFault}
use Rattle.rv_asm.specs.declared.table.Field.{Field}
use Rattle.rv_asm.specs.declared.table.Field.TheVariants as fields
use Rattle.rv_asm.specs.declared.table.Want.{Want}
use Rattle.rv_asm.specs.declared.table.Want.TheVariants.{Register, Mark, Number, Target}
use Rattle.rv_asm.specs.declared.table.Format.{Format}
use Rattle.rv_asm.specs.declared.table.Format.TheVariants as formats
use Rattle.rv_asm.specs.declared.table.Format.TheVariants.{Word}
use Rattle.rv_asm.specs.declared.table.Operands.{Operands}
use Rattle.rv_asm.specs.declared.number.Signed.{Signed}
use Rattle.rv_asm.specs.declared.number.Signed.TheVariants.{Plus}
use Rattle.rv_asm.specs.declared.fault.Rule.{Rule}
use Rattle.rv_asm.specs.Tokens.{is_run_byte, tokens}
use Rattle.line_texts.specs.Tokens.{Token, tokens as line_tokens}
use Rattle.line_texts.specs.Lines.{lines, longer_line}
use Rattle.rv_asm.specs.Table.{Statement, instruction, bare, any_word, wants, rows, named, IsWordOf}
use Rattle.rv_asm.specs.LineMeaning.{Names, no_operands, is_within, number_in, put_number, taken, operands_of, instruction_of, line_of}
use Rattle.line_texts.specs.Parsers.{◌>>=◌}
use Rattle.rv_asm.specs.Source.{names_of, reading, LinesSay, AreWordsOf, Means, HasFault}
use Rattle.line_texts.specs.Cursors.{token_of}
use Rattle.rv_asm.specs.Canonical.{signed_text, printed_want, printed, operands_text, unpacked, IsCanonical}
use Rattle.line_texts.specs.Numbers.{hex_word}
use Rattle.rv_asm.specs.Laws.{OneMeaning, OneFault, MeaningsHaveNoFault, MeaningOrFault, AreCanonical, ended, CanonicalIsAssembled}
use Rattle.line_texts.proofs.Steps.{which, ok_is, err_is, not_both}
use Rattle.rv_asm.proofs.TokenCases.{past_blank, nothing}
use Rattle.rv_asm.proofs.Digits.{AreRun, decimal_run, hex_run, hex_read}
use Rattle.rv_asm.proofs.WordOperands.{unpacked_in}
use Rattle.rv_asm.proofs.CanonicalRoundTrip.{IsRunText, run_token, next_operand, NoColon, line_read, name_runs, row_read}
use Rattle.rv_asm.proofs.CanonicalLines.{row_format}
use Rattle.rv_asm.specs.Encoder.{code_table, source_of}
use Rattle.rv_asm.proofs.WholeSource.{IsWholeAnswer, whole_answer, means_read, fault_read}

-- ---- one meaning or one fault

pub one_meaning : OneMeaning
one_meaning text a b m n = ok_is a b (sym (means_read text a m) ∙ means_read text b n)

pub one_fault : OneFault
one_fault text a b f g = err_is (List ℕ) a b (sym (fault_read text a f) ∙ fault_read text b g)

pub no_fault : MeaningsHaveNoFault
no_fault text words fault m f = not_both words fault (sym (means_read text words m) ∙ fault_read text fault f)

pub meaning_or_fault : MeaningOrFault
meaning_or_fault text = by_answer (source_of code_table text) (whole_answer text)
  where
    by_answer : (r : Result (List ℕ) Fault) → IsWholeAnswer text r → ((words : List ℕ) × Means text words) ⊎ ((fault : Fault) × HasFault text fault)
    by_answer (Ok words) means = inl (words, means)
    by_answer (Err fault) has = inr (fault, has)

-- ---- a word as it is

low_word : (w : ℕ) → w < 2 ^ 32 → nat_le w 4294967295 ≡ true
low_word w small = grind (arith, nat_tests)

abbrev hex_number : ℕ → List ℕ
hex_number w = 48 ∷ 120 ∷ hex_word w

word_number : (w : ℕ) → w < 2 ^ 32 → number_in (hex_number w) ≡ Ok (Plus w)
unfolding number_in
word_number w small = rw (hex_read w small) refl

word_taken : (names : Names) (place w : ℕ) → w < 2 ^ 32 → taken names place (Number 0 4294967295) (hex_number w) no_operands ≡ Ok (record no_operands { imm = w })
unfolding taken
word_taken names place w small =
    ap (λ (r : Result Signed Rule). r >>= λ n. put_number (is_within 0 4294967295 n) no_operands n) (word_number w small)
    ∙ rw (low_word w small) refl

word_operands : (names : Names) (place end column w : ℕ) → w < 2 ^ 32 → operands_of names place end (wants Word) (token_of column (hex_number w) ∷ []) no_operands ≡ Ok (record no_operands { imm = w })
unfolding operands_of
word_operands names place end column w small =
    next_operand names place end (Number 0 4294967295) [] (token_of column (hex_number w) ∷ []) (token_of column (hex_number w)) [] no_operands (record no_operands { imm = w }) refl (word_taken names place w small)

word_row : named rows (codes ".word") ≡ Some any_word
unfolding named rows
word_row = refl

word_tokens : (w : ℕ) → (column : ℕ) × (tokens 1 (codes ".word 0x" ++ hex_word w) ≡ token_of 1 (codes ".word") ∷ token_of column (hex_number w) ∷ [])
word_tokens w = (
  7,
  run_token 46 (codes "word") (32 ∷ hex_number w) 1 refl (refl, (refl, (refl, (refl, tt)))) refl
      ∙ ap (λ (ts : List Token). token_of 1 (codes ".word") ∷ ts) (
      past_blank 6 32 (hex_number w) refl
      ∙ ap (λ (bs : List ℕ). tokens 7 (48 ∷ 120 ∷ bs)) (sym (append-nil (hex_word w)))
      ∙ run_token 48 (120 ∷ hex_word w) [] 7 refl (refl, hex_run w) refl
      ∙ ap (λ (ts : List Token). token_of 7 (hex_number w) ∷ ts) (nothing (7 + suc (length (120 ∷ hex_word w))))),
)

word_read : (names : Names) (line place w : ℕ) → place ≢ 1048576 → w < 2 ^ 32 → reading names line place (codes ".word 0x" ++ hex_word w) ≡ Ok (Some (bare w))
word_read names line place w room small =
    let text : List ℕ = codes ".word 0x" ++ hex_word w in
    let t = word_tokens w in
    line_read names line place (length text + 1) (tokens 1 text) (token_of 1 (codes ".word")) (token_of t.0 (hex_number w) ∷ []) any_word (record no_operands { imm = w }) t.1 (no_colon_at t.0 w) word_row room
    (word_operands names place (length text + 1) t.0 w small)
  where
    no_colon_at : (column w : ℕ) → NoColon (token_of column (hex_number w) ∷ [])
    no_colon_at column w = refl

-- ---- a line of a row

pub canonical_line_read : (names : Names) (line place w : ℕ) (l : List ℕ) → place ≢ 1048576 → w < 2 ^ 32 → IsCanonical w l → (s : Statement) × (reading names line place l ≡ Ok (Some s)) × IsWordOf s w
canonical_line_read names line place w l room small (inl s) = (
  instruction s.inst,
  ap (reading names line place) s.text
      ∙ row_read names line place s.name s.row w s.there room (unpacked_in s.row.format w small) (row_format w l s)
      ∙ ap (λ (x : Statement). let r : Result (Option Statement) (LineFault Rule) = Ok (Some x) in r) s.says,
  (small, s.word),
)
canonical_line_read names line place w l room small (inr n) =
    (bare w, ap (reading names line place) n.1 ∙ word_read names line place w room small, refl)

-- ---- lines of a text

abbrev HasNoEnd : List ℕ → Type 0
HasNoEnd bs = AllByRecursion (λ b. eqb b 10 ≡ false) bs

run_no_end : (bs : List ℕ) → AreRun bs → HasNoEnd bs
run_no_end [] all = tt
run_no_end (b ∷ bs) all = (no_end b all.0, run_no_end bs all.1)
  where
    no_end : (b : ℕ) → is_run_byte b ≡ true → eqb b 10 ≡ false
    no_end b run = grind (arith, nat_tests)

both_no_end : (xs ys : List ℕ) → HasNoEnd xs → HasNoEnd ys → HasNoEnd (xs ++ ys)
both_no_end [] ys first second = second
both_no_end (x ∷ xs) ys first second = (first.0, both_no_end xs ys first.1 second)

text_no_end : (text : List ℕ) → IsRunText text → HasNoEnd text
text_no_end text is = subst HasNoEnd (sym is.parts) (run_no_end (is.first ∷ is.others) (is.run, is.all))

signed_no_end : (imm : ℕ) → imm < 2 ^ 32 → HasNoEnd (signed_text imm)
signed_no_end imm small = elim (which (nat_lt imm (2 ^ 31))) [
  | inl low ↦ rw low (run_no_end (decimal imm) (decimal_run imm (omega arith)))
  | inr high ↦ rw high (refl, run_no_end (decimal (2 ^ 32 - imm)) (decimal_run (2 ^ 32 - imm) (omega arith)))
]

-- operands that are printed in one line
abbrev AreSmall : Operands → Type 0
AreSmall o = (o.rd < 2 ^ 64) × (o.rs1 < 2 ^ 64) × (o.rs2 < 2 ^ 64) × (o.imm < 2 ^ 32)

register_no_end : (o : Operands) (field : Field) → AreSmall o → HasNoEnd (printed_want o (Register field))
register_no_end o fields.Rd small = (refl, run_no_end (decimal o.rd) (decimal_run o.rd small.0))
register_no_end o fields.Rs1 small = (refl, run_no_end (decimal o.rs1) (decimal_run o.rs1 small.1))
register_no_end o fields.Rs2 small = (refl, run_no_end (decimal o.rs2) (decimal_run o.rs2 small.2))

-- no mark ends a line
abbrev AreMarks : List Want → Type 0
AreMarks [] = Unit {0}
AreMarks (Mark b ∷ ws) = HasNoEnd (cond (eqb b 44) (codes ", ") (b ∷ [])) × AreMarks ws
AreMarks (Register field ∷ ws) = AreMarks ws
AreMarks (Number low high ∷ ws) = AreMarks ws
AreMarks (Target low high ∷ ws) = AreMarks ws

printed_no_end : (o : Operands) (ws : List Want) → AreSmall o → AreMarks ws → HasNoEnd (printed o ws)
printed_no_end o [] small marks = tt
printed_no_end o (Register field ∷ ws) small marks = both_no_end (printed_want o (Register field)) (printed o ws) (register_no_end o field small) (printed_no_end o ws small marks)
printed_no_end o (Mark b ∷ ws) small marks = both_no_end (printed_want o (Mark b)) (printed o ws) marks.0 (printed_no_end o ws small marks.1)
printed_no_end o (Number low high ∷ ws) small marks = both_no_end (signed_text o.imm) (printed o ws) (signed_no_end o.imm small.3) (printed_no_end o ws small marks)
printed_no_end o (Target low high ∷ ws) small marks = both_no_end (signed_text o.imm) (printed o ws) (signed_no_end o.imm small.3) (printed_no_end o ws small marks)

operands_no_end : (o : Operands) (ws : List Want) → AreSmall o → AreMarks ws → HasNoEnd (operands_text o ws)
operands_no_end o [] small marks = tt
operands_no_end o (w ∷ ws) small marks = (refl, printed_no_end o (w ∷ ws) small marks)

abbrev Comma : Type 0
Comma = HasNoEnd (codes ", ")

comma_end : Comma
comma_end = (refl, (refl, tt))

bracket_end : (b : ℕ) → eqb b 10 ≡ false → HasNoEnd (b ∷ [])
bracket_end b is = (is, tt)

format_marks : (format : Format) → AreMarks (wants format)
format_marks formats.Upper = (comma_end, tt)
format_marks formats.Jump = (comma_end, tt)
format_marks formats.Indexed = (comma_end, ((refl, tt), ((refl, tt), tt)))
format_marks formats.Branch = (comma_end, (comma_end, tt))
format_marks formats.Store = (comma_end, ((refl, tt), ((refl, tt), tt)))
format_marks formats.Immediate = (comma_end, (comma_end, tt))
format_marks formats.Shift = (comma_end, (comma_end, tt))
format_marks formats.Registers = (comma_end, (comma_end, tt))
format_marks formats.Plain = tt
format_marks formats.Word = tt

small_unpacked : (format : Format) (w : ℕ) → w < 2 ^ 32 → AreSmall (unpacked format w)
small_unpacked format w small =
    let f = unpacked_in format w small in
    (omega (arith, f.rd), omega (arith, f.rs1), omega (arith, f.rs2), imm_small format w small)
  where
    imm_small : (format : Format) (w : ℕ) → w < 2 ^ 32 → (unpacked format w).imm < 2 ^ 32
    imm_small formats.Upper w small = omega arith
    imm_small formats.Jump w small = elim ((unpacked_in formats.Jump w small).imm.0) [ inl low ↦ omega (arith, low) | inr high ↦ high.1 ]
    imm_small formats.Indexed w small = elim ((unpacked_in formats.Indexed w small).imm) [ inl low ↦ omega (arith, low) | inr high ↦ high.1 ]
    imm_small formats.Branch w small = elim ((unpacked_in formats.Branch w small).imm.0) [ inl low ↦ omega (arith, low) | inr high ↦ high.1 ]
    imm_small formats.Store w small = elim ((unpacked_in formats.Store w small).imm) [ inl low ↦ omega (arith, low) | inr high ↦ high.1 ]
    imm_small formats.Immediate w small = elim ((unpacked_in formats.Immediate w small).imm) [ inl low ↦ omega (arith, low) | inr high ↦ high.1 ]
    imm_small formats.Shift w small = omega arith
    imm_small formats.Registers w small = omega arith
    imm_small formats.Plain w small = omega arith
    imm_small formats.Word w small = small

line_no_end : (w : ℕ) (l : List ℕ) → w < 2 ^ 32 → IsCanonical w l → HasNoEnd l
line_no_end w l small (inl s) =
    subst HasNoEnd (sym s.text) (both_no_end s.name (operands_text (unpacked s.row.format w) (wants s.row.format)) (text_no_end s.name (name_runs s.name s.row s.there))
    (operands_no_end (unpacked s.row.format w) (wants s.row.format) (small_unpacked s.row.format w small) (format_marks s.row.format)))
line_no_end w l small (inr n) =
    subst HasNoEnd (sym n.1) (both_no_end (codes ".word 0x") (hex_word w) (refl, (refl, (refl, (refl, (refl, (refl, (refl, (refl, tt)))))))) (run_no_end (hex_word w) (hex_run w)))

line_first : (line rest : List ℕ) → HasNoEnd line → lines (line ++ 10 ∷ rest) ≡ line ∷ lines rest
unfolding lines
line_first [] rest inside = refl
line_first (b ∷ line) rest inside = rw (inside.0) (ap (longer_line b) (line_first line rest inside.1))

-- nothing is left behind the last line
last_line : (names : Names) (line place : ℕ) → LinesSay names line place (lines []) []
unfolding lines tokens line_tokens line_of instruction_of
last_line names line place = (refl, tt)

-- statements of lines, and their words
record AreSaid (names : Names) (line place : ℕ) (ls : List (List ℕ)) (words : List ℕ) : Type 0 where
  statements : List Statement
  says : LinesSay names line place ls statements
  are : AreWordsOf statements words

one_more : (names : Names) (line place : ℕ) (l : List ℕ) (ls : List (List ℕ)) (w : ℕ) (words : List ℕ) (s : Statement) → reading names line place l ≡ Ok (Some s) → IsWordOf s w →
    AreSaid names (line + 1) (place + 1) ls words → AreSaid names line place (l ∷ ls) (w ∷ words)
one_more names line place l ls w words s e is said = record { statements = s ∷ said.statements; says = inr (e, said.says); are = (is, said.are) }

all_said : (names : Names) (line place : ℕ) (words : List ℕ) (ls : List (List ℕ)) → place + length words ≤ 1048576 → AreCanonical words ls → AreSaid names line place (lines (ended ls)) words
all_said names line place [] [] few are = record { statements = []; says = last_line names line place; are = tt }
all_said names line place [] (l ∷ ls) few are = absurd are
all_said names line place (w ∷ words) [] few are = absurd are
all_said names line place (w ∷ words) (l ∷ ls) few are =
    let c = canonical_line_read names line place w l (omega (arith, few)) are.0 are.1 in
    let parts : lines ((l ++ 10 ∷ []) ++ ended ls) ≡ l ∷ lines (ended ls) =
    ap lines (append_assoc l (10 ∷ []) (ended ls)) ∙ line_first l (ended ls) (line_no_end w l are.0 are.1) in
    let rest = all_said names (line + 1) (place + 1) words ls (omega (arith, few)) are.2 in
    subst (λ (xs : List (List ℕ)). AreSaid names line place xs (w ∷ words)) (sym parts) (one_more names line place l (lines (ended ls)) w words c.0 c.1 c.2 rest)

not_none : (statements : List Statement) (words : List ℕ) → AreWordsOf statements words → 1 ≤ length words → statements ≢ []
not_none [] [] are some = absurd (omega arith)
not_none [] (w ∷ words) are some = absurd are
not_none (s ∷ statements) words are some = λ e. cc e

pub canonical_assembled : CanonicalIsAssembled
canonical_assembled words ls some few are =
    let a = all_said (names_of (ended ls)) 1 0 words ls (omega arith) are in
    record { statements = a.statements; says = a.says; some = not_none a.statements words a.are some; are = a.are }
