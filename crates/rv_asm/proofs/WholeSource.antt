-- A whole source: its words or its first fault, and what was read of it.
use Rattle.std.proofs.Common.{◌≡◌, ◌≢◌, ℕ, ◌+◌, ◌⊎◌, List, [], ◌∷◌, length, map, Result, Ok, Err, refl, sym, ap, subst, ◌∙◌, inl, inr}
use Rattle.std.specs.Prelude.{MatchResult, IfOk, IfErr}
use Rattle.std.specs.Global.{Vec}
use Rattle.rv_decode.proofs.EncodingRoundTrip.{read}
use Rattle.rv_decode.proofs.EncodingUniqueness.{only as only_word}
use Rattle.line_texts.specs.declared.fault.Fault.{Fault}
use Rattle.line_texts.specs.declared.fault.Fault.TheVariants.{At, Memory}
use Rattle.rv_asm.specs.Tokens.{tokens}
use Rattle.line_texts.specs.Lines.{lines}
use Rattle.rv_asm.specs.Table.{Statement, instruction, bare, rows, IsWordOf}
use Rattle.rv_asm.specs.LineMeaning.{Names}
use Rattle.rv_asm.specs.Source.{LinesSay, AreWordsOf, Means, HasFault}
use Rattle.rv_asm.specs.Encoder.{code_table, encoded, encoded_list, source_of}
use Rattle.line_texts.specs.Parsers.{GivesUnlessMemory}
use Rattle.line_texts.proofs.Steps.{done, ok_is, err_is, not_both}
use Rattle.rv_asm.proofs.TableEquivalence.{source_alike}
use Rattle.rv_asm.proofs.OperandRanges.{IsWritable, line_writable}
use Rattle.rv_asm.proofs.ParserCorrectness.{IsAnswer, source_answer, source_said, source_refused}

-- ---- words

is_word : (s : Statement) → IsWritable s → IsWordOf s (encoded s)
is_word (instruction inst) can = (can.low, read inst can.has)
is_word (bare n) can = refl

word_is : (s : Statement) (w : ℕ) → IsWordOf s w → w ≡ encoded s
word_is (instruction inst) w is = sym (only_word w inst is.0 is.1)
word_is (bare n) w is = is

-- the words of what lines say
said_words : (names : Names) (line place : ℕ) (ls : List (List ℕ)) (list : List Statement) → LinesSay names line place ls list → AreWordsOf list (map encoded list)
said_words names line place [] [] say = tt
said_words names line place [] (s ∷ list) say = absurd say
said_words names line place (l ∷ ls) [] say = tt
said_words names line place (l ∷ ls) (s ∷ list) (inl say) = said_words names (line + 1) place ls (s ∷ list) say.1
said_words names line place (l ∷ ls) (s ∷ list) (inr say) =
    (is_word s (line_writable names line place (length l + 1) (tokens 1 l) s say.0), said_words names (line + 1) (place + 1) ls list say.1)

words_are : (list : List Statement) (words : List ℕ) → AreWordsOf list words → words ≡ map encoded list
words_are [] [] are = refl
words_are [] (w ∷ ws) are = absurd are
words_are (s ∷ list) [] are = absurd are
words_are (s ∷ list) (w ∷ ws) are =
    ap (λ (x : ℕ). x ∷ ws) (word_is s w are.0) ∙ ap (λ (xs : List ℕ). encoded s ∷ xs) (words_are list ws are.1)

-- ---- answers

abbrev pub IsWholeAnswer : List ℕ → Result (List ℕ) Fault → Type 0
IsWholeAnswer text (Ok words) = Means text words
IsWholeAnswer text (Err e) = HasFault text e

in_words : (text : List ℕ) (r : Result (List Statement) Fault) → IsAnswer text r → IsWholeAnswer text (encoded_list r)
in_words text (Ok list) say = record { statements = list; says = say.says; some = say.some; are = said_words _ 1 0 (lines text) list say.says }
in_words text (Err e) fault = fault

pub whole_answer : (text : List ℕ) → IsWholeAnswer text (source_of code_table text)
whole_answer text = subst (IsWholeAnswer text) (sym (source_alike text)) (in_words text (source_of rows text) (source_answer text))

pub means_read : (text words : List ℕ) → Means text words → source_of code_table text ≡ Ok words
means_read text words m =
    source_alike text
    ∙ ap encoded_list (source_said text m.statements (record { says = m.says; some = m.some }))
    ∙ ap (done Fault) (sym (words_are m.statements words m.are))

pub fault_read : (text : List ℕ) (e : Fault) → HasFault text e → source_of code_table text ≡ Err e
fault_read text e fault = source_alike text ∙ ap encoded_list (source_refused text e fault)

-- ---- what a function returned

pub found : (text : List ℕ) (r : Result (Vec ℕ) Fault) → GivesUnlessMemory (λ (v : Vec ℕ). v.items) r (source_of code_table text) → IfOk r (λ v. Means text v.items)
found text (Ok v) given = subst (IsWholeAnswer text) given (whole_answer text)
found text (Err e) given = tt

pub only : (text : List ℕ) (r : Result (Vec ℕ) Fault) → GivesUnlessMemory (λ (v : Vec ℕ). v.items) r (source_of code_table text) →
    (words : List ℕ) → Means text words → MatchResult r (λ v. v.items ≡ words) (λ e. e ≡ Memory)
only text (Ok v) given words m = sym (ok_is words v.items (sym (means_read text words m) ∙ given))
only text (Err Memory) given words m = refl
only text (Err (At r l c)) given words m = absurd (not_both words (At r l c) (sym (means_read text words m) ∙ given))

pub refused : (text : List ℕ) (r : Result (Vec ℕ) Fault) → GivesUnlessMemory (λ (v : Vec ℕ). v.items) r (source_of code_table text) → IfErr r (λ e. e ≢ Memory → HasFault text e)
refused text (Ok v) given = tt
refused text (Err Memory) given = λ other. absurd (other refl)
refused text (Err (At r l c)) given = λ other. subst (IsWholeAnswer text) given (whole_answer text)

pub first : (text : List ℕ) (r : Result (Vec ℕ) Fault) → GivesUnlessMemory (λ (v : Vec ℕ). v.items) r (source_of code_table text) →
    (e : Fault) → HasFault text e → MatchResult r (λ _. ⊥) (λ answer. (answer ≡ e) ⊎ (answer ≡ Memory))
first text (Ok v) given e fault = not_both v.items e (sym given ∙ fault_read text e fault)
first text (Err Memory) given e fault = inr refl
first text (Err (At r l c)) given e fault = inl (err_is (List ℕ) (At r l c) e (sym given ∙ fault_read text e fault))
