-- What lines say over the rows of the assembler is what they say over the table, in words.
use Rattle.std.proofs.Common.{◌≡◌, ℕ, suc, ◌+◌, Bool, cond, eqb, ◌&&◌, List, [], ◌∷◌, ◌++◌, length, drop, map, Option, Some, None, Result, Ok, Err, is_some, is_none, refl, sym, ap, ◌∙◌, inl, inr}
use Rattle.std.specs.Str.{bytes_eq}
use Rattle.std.specs.Map.{lookup}
use Rattle.std.specs.Option.{option_to_list}
use Rattle.rv_asm.specs.declared.fault.Rule.{Rule}
use Rattle.line_texts.specs.declared.fault.LineFault.{LineFault}
use Rattle.line_texts.specs.declared.fault.Fault.{Fault}
use Rattle.rv_asm.specs.declared.label.Label.{Label}
use Rattle.rv_asm.specs.declared.table.Format.{Format}
use Rattle.rv_asm.specs.declared.table.Operands.{Operands}
use Rattle.rv_asm.specs.Tokens.{tokens}
use Rattle.line_texts.specs.Tokens.{Token}
use Rattle.line_texts.specs.Lines.{lines}
use Rattle.rv_asm.specs.Numbers.{is_name}
use Rattle.rv_asm.specs.Table.{Statement, Row, Table, wants, rows, named}
use Rattle.rv_asm.specs.LineMeaning.{Names, operands_of, no_operands, said, instruction_of, begins_label, behind_label, is_bare_name, is_earlier, line_of}
use Rattle.line_texts.specs.Parsers.{◌>>=◌}
use Rattle.line_texts.specs.Cursors.{text_in}
use Rattle.rv_asm.specs.Source.{label_in, words_in, labels_of, names_in, fault_at}
use Rattle.rv_asm.specs.Encoder.{code_table, encoded, encoded_option, encoded_line, encoded_list, lines_from, unless_empty, source_of}
use Rattle.line_texts.proofs.Steps.{which}
use Rattle.rv_asm.proofs.RowAgreement.{AreAlike, named_alike}

-- ---- names

same_some : (r : Option (Row Statement)) (k : Option (Row ℕ)) → AreAlike r k → is_some k ≡ is_some r
same_some None None alike = refl
same_some None (Some k) alike = absurd alike
same_some (Some r) None alike = absurd alike
same_some (Some r) (Some k) alike = refl

same_none : (r : Option (Row Statement)) (k : Option (Row ℕ)) → AreAlike r k → is_none k ≡ is_none r
same_none None None alike = refl
same_none None (Some k) alike = absurd alike
same_none (Some r) None alike = absurd alike
same_none (Some r) (Some k) alike = refl

same_words : (ts : List Token) → words_in code_table ts ≡ words_in rows ts
same_words ts = ap (λ (b : Bool). cond b 1 0) (same_some (named rows (text_in (behind_label ts))) (named code_table (text_in (behind_label ts))) (named_alike (text_in (behind_label ts))))

same_labels : (line place : ℕ) (ls : List (List ℕ)) → labels_of code_table line place ls ≡ labels_of rows line place ls
unfolding labels_of
same_labels line place [] = refl
same_labels line place (l ∷ ls) =
    ap (λ (k : ℕ). label_in line place (tokens 1 l) ++ labels_of code_table (line + 1) (place + k) ls) (same_words (tokens 1 l))
    ∙ ap (λ (xs : List (List ℕ × Label)). label_in line place (tokens 1 l) ++ xs) (same_labels (line + 1) (place + words_in rows (tokens 1 l)) ls)

pub same_names : (text : List ℕ) → names_in code_table text ≡ names_in rows text
unfolding names_in
same_names text = λ i name. lookup (bytes_eq name) (same_labels 1 0 (lines text) i)

-- ---- lines

said_alike : (names : Names) (place end column : ℕ) (ts : List Token) (r : Option (Row Statement)) (k : Option (Row ℕ)) → AreAlike r k →
    said names place end column ts k ≡ encoded_line (said names place end column ts r)
said_alike names place end column ts None None alike = refl
said_alike names place end column ts None (Some k) alike = absurd alike
said_alike names place end column ts (Some r) None alike = absurd alike
said_alike names place end column ts (Some r) (Some k) alike = elim (which (eqb place 1048576)) [
  | inl full ↦ rw full refl
  | inr room ↦ rw room (
      ap (λ (f : Format). operands_of names place end (wants f) ts no_operands >>= λ o. Ok (Some (k.says o))) (sym alike.format)
      ∙ with_operands (operands_of names place end (wants r.format) ts no_operands))
]
  where
    with_operands : (x : Result Operands (LineFault Rule)) → (x >>= λ o. Ok (Some (k.says o))) ≡ encoded_line (x >>= λ o. Ok (Some (r.says o)))
    with_operands (Ok o) = ap (λ (w : ℕ). let y : Result (Option ℕ) (LineFault Rule) = Ok (Some w) in y) (sym (alike.word o))
    with_operands (Err fault) = refl

instruction_alike : (names : Names) (place end : ℕ) (ts : List Token) → instruction_of code_table names place end ts ≡ encoded_line (instruction_of rows names place end ts)
unfolding instruction_of
instruction_alike names place end [] = refl
instruction_alike names place end (t ∷ ts) = said_alike names place end t.column ts (named rows t.text) (named code_table t.text) (named_alike t.text)

bare_alike : (ts : List Token) → is_bare_name code_table ts ≡ is_bare_name rows ts
bare_alike [] = refl
bare_alike (t ∷ ts) = ap (λ (b : Bool). is_name t.text && b) (same_none (named rows t.text) (named code_table t.text) (named_alike t.text))

pub line_alike : (names : Names) (line place end : ℕ) (ts : List Token) → line_of code_table names line place end ts ≡ encoded_line (line_of rows names line place end ts)
unfolding line_of
line_alike names line place end ts = elim (which (begins_label ts)) [
  | inl label ↦ elim (which (is_earlier line (names (text_in ts)))) [
    | inl twice ↦ rw (label, twice) refl
    | inr first ↦ rw (label, first) (instruction_alike names place end (drop 2 ts))
  ]
  | inr other ↦ elim (which (is_bare_name rows ts)) [
    | inl name ↦ rw (other, bare_alike ts, name) refl
    | inr more ↦ rw (other, bare_alike ts, more) (instruction_alike names place end ts)
  ]
]

-- ---- many lines

pub step_ok : {A : Type 0} (table : Table A) (names : Names) (list : List A) (line : ℕ) (l : List ℕ) (ls : List (List ℕ)) (found : Option A) →
    line_of table names line (length list) (length l + 1) (tokens 1 l) ≡ Ok found → lines_from table names list line (l ∷ ls) ≡ lines_from table names (list ++ option_to_list found) (line + 1) ls
unfolding lines_from
step_ok table names list line l ls found e = rw e refl

pub step_err : {A : Type 0} (table : Table A) (names : Names) (list : List A) (line : ℕ) (l : List ℕ) (ls : List (List ℕ)) (fault : LineFault Rule) →
    line_of table names line (length list) (length l + 1) (tokens 1 l) ≡ Err fault → lines_from table names list line (l ∷ ls) ≡ Err (fault_at line fault)
unfolding lines_from
step_err table names list line l ls fault e = rw e refl

pub step_end : {A : Type 0} (table : Table A) (names : Names) (list : List A) (line : ℕ) → lines_from table names list line [] ≡ Ok list
unfolding lines_from
step_end table names list line = refl

length-map : (list : List Statement) → length (map encoded list) ≡ length list
length-map [] = refl
length-map (s ∷ list) = ap (λ (n : ℕ). suc n) (length-map list)

map-more : (list : List Statement) (found : Option Statement) → map encoded list ++ option_to_list (encoded_option found) ≡ map encoded (list ++ option_to_list found)
map-more [] None = refl
map-more [] (Some s) = refl
map-more (x ∷ list) found = ap (λ (ws : List ℕ). encoded x ∷ ws) (map-more list found)

pub lines_alike : (names : Names) (list : List Statement) (line : ℕ) (ls : List (List ℕ)) → lines_from code_table names (map encoded list) line ls ≡ encoded_list (lines_from rows names list line ls)
lines_alike names list line [] = step_end code_table names (map encoded list) line ∙ sym (ap encoded_list (step_end rows names list line))
lines_alike names list line (l ∷ ls) = by_line (line_of rows names line (length list) (length l + 1) (tokens 1 l)) refl (λ found. lines_alike names (list ++ option_to_list found) (line + 1) ls)
  where
    by_line : (r : Result (Option Statement) (LineFault Rule)) → line_of rows names line (length list) (length l + 1) (tokens 1 l) ≡ r →
        ((found : Option Statement) → lines_from code_table names (map encoded (list ++ option_to_list found)) (line + 1) ls ≡ encoded_list (lines_from rows names (list ++ option_to_list found) (line + 1) ls)) →
        lines_from code_table names (map encoded list) line (l ∷ ls) ≡ encoded_list (lines_from rows names list line (l ∷ ls))
    by_line (Ok found) e others =
        step_ok code_table names (map encoded list) line l ls (encoded_option found) (ap (λ (n : ℕ). line_of code_table names line n (length l + 1) (tokens 1 l)) (length-map list) ∙ line_alike names line (length list) (length l + 1) (tokens 1 l) ∙ ap encoded_line e)
        ∙ ap (λ (ws : List ℕ). lines_from code_table names ws (line + 1) ls) (map-more list found)
        ∙ others found
        ∙ sym (ap encoded_list (step_ok rows names list line l ls found e))
    by_line (Err fault) e others =
        step_err code_table names (map encoded list) line l ls fault (ap (λ (n : ℕ). line_of code_table names line n (length l + 1) (tokens 1 l)) (length-map list) ∙ line_alike names line (length list) (length l + 1) (tokens 1 l) ∙ ap encoded_line e)
        ∙ sym (ap encoded_list (step_err rows names list line l ls fault e))

unless_alike : (r : Result (List Statement) Fault) → (encoded_list r >>= λ list. unless_empty list) ≡ encoded_list (r >>= λ list. unless_empty list)
unless_alike (Ok []) = refl
unless_alike (Ok (s ∷ list)) = refl
unless_alike (Err fault) = refl

pub source_alike : (text : List ℕ) → source_of code_table text ≡ encoded_list (source_of rows text)
unfolding source_of
source_alike text =
    ap (λ (names : Names). lines_from code_table names [] 1 (lines text) >>= λ list. unless_empty list) (same_names text)
    ∙ ap (λ (r : Result (List ℕ) Fault). r >>= λ list. unless_empty list) (lines_alike (names_in rows text) [] 1 (lines text))
    ∙ unless_alike (lines_from rows (names_in rows text) [] 1 (lines text))
