-- What is read of the tokens of an instruction, by the rows of the assembler.
use Rattle.std.proofs.Common.{◌≡◌, ℕ, Bool, true, false, not, cond, ◌&&◌, inl, inr, subst, List, [], ◌∷◌, drop, Option, Some, None, Result, Ok, Err, is_some, is_none, refl, sym, ap, ◌∙◌}
use Rattle.std.specs.Prelude.{option_map}
use Rattle.std.specs.Str.{bytes_eq}
use Rattle.std.specs.Option.{option_or}
use Rattle.rv_asm.specs.declared.label.Label.{Label}
use Rattle.rv_asm.specs.Numbers.{is_name}
use Rattle.line_texts.proofs.Steps.{which, same_bytes, itself, other_bytes}
use Rattle.rv_asm.specs.declared.fault.Rule.{Rule}
use Rattle.line_texts.specs.declared.fault.LineFault.{LineFault}
use Rattle.rv_asm.specs.declared.table.Code.{Code}
use Rattle.rv_asm.specs.declared.table.Operands.{Operands}
use Rattle.rv_asm.specs.declared.table.Want.TheVariants.{Mark}
use Rattle.line_texts.specs.Tokens.{Token}
use Rattle.rv_asm.specs.Table.{named}
use Rattle.rv_asm.specs.LineMeaning.{Names, not_instruction, taken, said, instruction_of, unlabelled_of, begins_label, behind_label, is_bare_name, is_earlier, line_of}
use Rattle.line_texts.specs.Cursors.{text_in, column_in}
use Rattle.rv_asm.specs.Source.{words_in}
use Rattle.rv_asm.specs.Encoder.{code_row, coded, entries, code_table, behind, next_of}
use Rattle.rv_asm.proofs.CanonicalLines.{named_code}

some_of : (o : Option Code) → is_some (option_map (λ (c : Code). code_row c) o) ≡ is_some o
some_of None = refl
some_of (Some c) = refl

none_of : (o : Option Code) → is_none (option_map (λ (c : Code). code_row c) o) ≡ is_none o
none_of None = refl
none_of (Some c) = refl

pub some_named : (name : List ℕ) → is_some (named code_table name) ≡ is_some (coded name)
some_named name = ap is_some (named_code name) ∙ some_of (coded name)

pub none_named : (name : List ℕ) → is_none (named code_table name) ≡ is_none (coded name)
none_named name = ap is_none (named_code name) ∙ none_of (coded name)

-- ---- a line behind a label or without one

-- the first token names no instruction, or one
by_name : (names : Names) (place end : ℕ) (t : Token) (ts : List Token) (found : Option Code) → coded t.text ≡ found →
    instruction_of code_table names place end (t ∷ ts) ≡ said names place end t.column ts (option_map (λ (c : Code). code_row c) found)
unfolding instruction_of
by_name names place end t ts found read =
    ap (said names place end t.column ts) (named_code t.text ∙ ap (option_map (λ (c : Code). code_row c)) read)

bare_by : (t : Token) (ts : List Token) (found : Option Code) → coded t.text ≡ found → is_bare_name code_table (t ∷ ts) ≡ (is_name t.text && is_none found)
bare_by t ts found read = ap (λ (b : Bool). is_name t.text && b) (none_named t.text ∙ ap is_none read)

unlabelled_none : (names : Names) (place end : ℕ) (t : Token) (ts : List Token) → coded t.text ≡ None →
    unlabelled_of code_table names place end (t ∷ ts) ≡ Err (not_instruction (cond (is_name t.text) (column_in end ts) t.column))
unlabelled_none names place end t ts read = elim (which (is_name t.text)) [
  | inl name ↦ rw (bare_by t ts None read, name) refl
  | inr other ↦ rw (bare_by t ts None read, other) (by_name names place end t ts None read)
]

pub unnamed : (labelled : Bool) (names : Names) (place end column : ℕ) (t : Token) (ts : List Token) → coded t.text ≡ None →
    column ≡ cond (not labelled && is_name t.text) (column_in end ts) t.column → Err (not_instruction column) ≡ behind labelled names place end (t ∷ ts)
unnamed true names place end column t ts read at =
    ap (λ (k : ℕ). let r : Result (Option ℕ) (LineFault Rule) = Err (not_instruction k) in r) at ∙ sym (by_name names place end t ts None read)
unnamed false names place end column t ts read at =
    ap (λ (k : ℕ). let r : Result (Option ℕ) (LineFault Rule) = Err (not_instruction k) in r) at ∙ sym (unlabelled_none names place end t ts read)

and_not : (b : Bool) → (b && false) ≡ false
and_not true = refl
and_not false = refl

pub with_code : (labelled : Bool) (names : Names) (place end : ℕ) (t : Token) (ts : List Token) (code : Code) → coded t.text ≡ Some code →
    said names place end t.column ts (Some (code_row code)) ≡ behind labelled names place end (t ∷ ts)
with_code true names place end t ts code read = sym (by_name names place end t ts (Some code) read)
with_code false names place end t ts code read = sym (rw (bare_by t ts (Some code) read, and_not (is_name t.text)) (by_name names place end t ts (Some code) read))

-- ---- a line

pub line_empty : (names : Names) (number place end : ℕ) (seen : List Token) → seen ≡ [] → Ok None ≡ line_of code_table names number place end seen
unfolding line_of instruction_of
line_empty names number place end seen is = sym (ap (line_of code_table names number place end) is)

-- what is behind the first token, where the cursor goes past a colon
abbrev gone : Bool → List Token → List Token
gone b ts = cond b (drop 1 ts) ts

line_labelled : (names : Names) (number place end : ℕ) (seen : List Token) (t : Token) (ts after : List Token) (b e : Bool) → seen ≡ t ∷ ts → b ≡ begins_label (t ∷ ts) → after ≡ gone b ts → b ≡ true → e ≡ is_earlier number (names t.text) → e ≡ false →
    instruction_of code_table names place end after ≡ line_of code_table names number place end seen
unfolding line_of
line_labelled names number place end seen t ts after b e is label goes some earlier first =
    let same : after ≡ drop 1 ts = goes ∙ ap (λ (c : Bool). gone c ts) some in
    ap (instruction_of code_table names place end) same
    ∙ sym (ap (line_of code_table names number place end) is ∙ rw (sym label ∙ some, sym earlier ∙ first) refl)

nothing_said : (names : Names) (place end : ℕ) → instruction_of code_table names place end [] ≡ Ok None
unfolding instruction_of
nothing_said names place end = refl

pub line_label : (names : Names) (number place end : ℕ) (seen : List Token) (t : Token) (ts after : List Token) (b e : Bool) → seen ≡ t ∷ ts → b ≡ begins_label (t ∷ ts) → after ≡ gone b ts → b ≡ true → e ≡ is_earlier number (names t.text) → e ≡ false → after ≡ [] →
    Ok None ≡ line_of code_table names number place end seen
line_label names number place end seen t ts after b e is label goes some earlier first none =
    sym (nothing_said names place end)
    ∙ ap (instruction_of code_table names place end) (sym none)
    ∙ line_labelled names number place end seen t ts after b e is label goes some earlier first

-- ---- a byte that is wanted

pub mark_next : (names : Names) (place end byte : ℕ) (ts : List Token) (o : Operands) (r : Result Operands (LineFault Rule)) → r ≡ cond (bytes_eq (text_in ts) (byte ∷ [])) (Ok o) (Err (not_instruction (column_in end ts))) →
    r ≡ next_of names place end (Mark byte) ts o
unfolding taken
mark_next names place end byte [] o r is = is
mark_next names place end byte (t ∷ ts) o r is = elim (which (bytes_eq t.text (byte ∷ []))) [
  | inl same ↦ is ∙ rw same refl
  | inr other ↦ is ∙ rw other refl
]

-- ---- how many words a line has

pub some_words : (name : List ℕ) (b : Bool) → is_some (coded name) ≡ b → ◌≡◌ {A = ℕ} (cond b 1 0) (cond (is_some (named code_table name)) 1 0)
some_words name b some = ap (λ (x : Bool). let n : ℕ = cond x 1 0 in n) (sym (some_named name ∙ some))

no_words : is_some (named code_table []) ≡ false
unfolding named code_table entries
no_words = refl

words_at : (ts behind_ts : List Token) → behind_label ts ≡ behind_ts → ◌≡◌ {A = ℕ} (cond (is_some (named code_table (text_in behind_ts))) 1 0) (words_in code_table ts)
words_at ts behind_ts is = ap (λ (xs : List Token). let n : ℕ = cond (is_some (named code_table (text_in xs))) 1 0 in n) (sym is)

pub words_empty : (ts : List Token) → ts ≡ [] → 0 ≡ words_in code_table ts
words_empty ts is = ap (λ (x : Bool). let n : ℕ = cond x 1 0 in n) (sym no_words) ∙ words_at ts [] (ap behind_label is)

behind_is : (seen : List Token) (t : Token) (ts after : List Token) (b : Bool) → seen ≡ t ∷ ts → b ≡ begins_label (t ∷ ts) → b ≡ true → after ≡ gone b ts → behind_label seen ≡ after
behind_is seen t ts after b is label some goes =
    ap behind_label is ∙ rw (sym label ∙ some) (sym (goes ∙ ap (λ (c : Bool). gone c ts) some))

pub words_label : (seen : List Token) (t : Token) (ts after : List Token) (b : Bool) → seen ≡ t ∷ ts → b ≡ begins_label (t ∷ ts) → b ≡ true → after ≡ gone b ts → after ≡ [] → 0 ≡ words_in code_table seen
words_label seen t ts after b is label some goes none =
    ap (λ (x : Bool). let n : ℕ = cond x 1 0 in n) (sym no_words) ∙ words_at seen [] (behind_is seen t ts after b is label some goes ∙ none)

-- ---- labels

or_none : (o : Option Label) → option_or o None ≡ o
or_none None = refl
or_none (Some l) = refl

pub added : (f : Names) (name q : List ℕ) (label : Label) → f name ≡ None → cond (bytes_eq name q) (Some label) (f q) ≡ option_or (f q) (cond (bytes_eq q name) (Some label) None)
added f name q label none = elim (which (bytes_eq name q)) [
  | inl hit ↦
      let same : name ≡ q = same_bytes name q hit in
      let P : List ℕ → Type 0 = λ x. cond (bytes_eq name x) (Some label) (f x) ≡ option_or (f x) (cond (bytes_eq x name) (Some label) None) in
      subst P same (rw (itself name, none) refl)
  | inr miss ↦ rw (miss, other_bytes name q miss) (sym (or_none (f q)))
]

pub none_found : (o : Option Label) → is_some o ≡ false → o ≡ None
none_found None e = refl
none_found (Some l) e = absurd cc
