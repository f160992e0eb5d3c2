-- The meaning of a source, and its first fault. The rules are 1 NotInstruction, 2 Number, 3 Register, 4 Label, 5 Twice,
-- 6 TooLong, 7 Empty.
use Rattle.std.specs.Prelude.{◌≡◌, ◌≢◌, ◌⊎◌, ◌+◌, ℕ, List, [], ◌∷◌, ◌++◌, length, Option, Some, None, Result, Ok, Err, is_some, if◌then◌else◌}
use Rattle.std.specs.Str.{bytes_eq}
use Rattle.std.specs.Map.{lookup}
use Rattle.rv_asm.specs.declared.fault.Rule.{Rule}
use Rattle.rv_asm.specs.declared.fault.Rule.TheVariants.{NotInstruction, Number, Register, Label, Twice, TooLong}
use Rattle.line_texts.specs.declared.fault.LineFault.{LineFault}
use Rattle.line_texts.specs.declared.fault.Fault.{Fault}
use Rattle.line_texts.specs.declared.fault.Fault.TheVariants.{At}
use Rattle.rv_asm.specs.declared.label.Label as labels
use Rattle.rv_asm.specs.Tokens.{tokens}
use Rattle.line_texts.specs.Tokens.{Token}
use Rattle.line_texts.specs.Lines.{lines}
use Rattle.rv_asm.specs.Table.{Statement, Table, rows, named, IsWordOf}
use Rattle.rv_asm.specs.LineMeaning.{Names, begins_label, behind_label, line_of}
use Rattle.line_texts.specs.Cursors.{text_in}

-- ---- labels

-- the label of a line with this number, after so many words
abbrev pub label_in : ℕ → ℕ → List Token → List (List ℕ × labels.Label)
label_in line place ts = if begins_label ts then (text_in ts, record { line = line; place = place }) ∷ [] else []

-- how many words a line has: one if the name of an instruction comes first or after the label
abbrev pub words_in : {A : Type 0} → Table A → List Token → ℕ
words_in table ts = if is_some (named table (text_in (behind_label ts))) then 1 else 0

-- the labels of lines from this one on
unfoldable pub labels_of : {A : Type 0} → Table A → ℕ → ℕ → List (List ℕ) → List (List ℕ × labels.Label)
labels_of table line place [] = []
labels_of table line place (l ∷ ls) =
    label_in line place (tokens 1 l) ++ labels_of table (line + 1) (place + words_in table (tokens 1 l)) ls

-- a name means the first label of a text that has it
unfoldable pub names_in : {A : Type 0} → Table A → List ℕ → Names
names_in table text name = lookup (bytes_eq name) (labels_of table 1 0 (lines text))

abbrev pub names_of : List ℕ → Names
names_of = names_in rows

-- ---- the meaning

-- what the line with this number means, after so many words: a statement, nothing, or a fault
abbrev pub reading : Names → ℕ → ℕ → List ℕ → Result (Option Statement) (LineFault Rule)
reading names line place bytes = line_of rows names line place (length bytes + 1) (tokens 1 bytes)

-- lines from this one on say these statements, each of them one or none
abbrev pub LinesSay : Names → ℕ → ℕ → List (List ℕ) → List Statement → Type 0
LinesSay names line place [] [] = Unit {0}
LinesSay names line place [] (s ∷ list) = ⊥
LinesSay names line place (l ∷ ls) [] = (reading names line place l ≡ Ok None) × LinesSay names (line + 1) place ls []
LinesSay names line place (l ∷ ls) (s ∷ list) =
    ((reading names line place l ≡ Ok None) × LinesSay names (line + 1) place ls (s ∷ list))
    ⊎ ((reading names line place l ≡ Ok (Some s)) × LinesSay names (line + 1) (place + 1) ls list)

-- the words of statements, one by one
abbrev pub AreWordsOf : List Statement → List ℕ → Type 0
AreWordsOf [] [] = Unit {0}
AreWordsOf [] (w ∷ ws) = ⊥
AreWordsOf (s ∷ ss) [] = ⊥
AreWordsOf (s ∷ ss) (w ∷ ws) = IsWordOf s w × AreWordsOf ss ws

-- the text means some statements, and these are their words
pub record Means (text : List ℕ) (words : List ℕ) : Type 0 where
  pub statements : List Statement
  pub says : LinesSay (names_of text) 1 0 (lines text) statements
  pub some : statements ≢ []
  pub are : AreWordsOf statements words

-- ---- the fault

-- a rule has a number, and a fault of a line has the line's number too
abbrev pub number_of_rule : Rule → ℕ
number_of_rule NotInstruction = 1
number_of_rule Number = 2
number_of_rule Register = 3
number_of_rule Label = 4
number_of_rule Twice = 5
number_of_rule TooLong = 6

abbrev pub fault_at : ℕ → LineFault Rule → Fault
fault_at line fault = At (number_of_rule fault.rule) line fault.column

-- the lines before one say some statements or none, and it has a fault
pub record IsFirstFault (text : List ℕ) (fault : Fault) : Type 0 where
  pub before : List (List ℕ)
  pub here : List ℕ
  pub after : List (List ℕ)
  pub parts : lines text ≡ before ++ here ∷ after
  pub statements : List Statement
  pub says : LinesSay (names_of text) 1 0 before statements
  pub of_line : LineFault Rule
  pub met : reading (names_of text) (length before + 1) (length statements) here ≡ Err of_line
  pub is : fault ≡ fault_at (length before + 1) of_line

-- the fault of a text: its first one, or that it is empty; a lack of memory is none
abbrev pub HasFault : List ℕ → Fault → Type 0
HasFault text fault = IsFirstFault text fault ⊎ (LinesSay (names_of text) 1 0 (lines text) [] × (fault ≡ At 7 0 0))
