-- No public clause cites this file. What the assembler computes. It makes words in place of statements, by its own
-- table. It appends line by line.
use Rattle.std.specs.Prelude.{◌+◌, ◌^◌, ◌<◌, ◌≤◌, ◌++◌, ℕ, Bool, List, [], ◌∷◌, map, length, Option, Some, None, Result, Ok, Err, if◌then◌else◌}
use Rattle.std.specs.Str.{bytes_eq}
use Rattle.std.specs.Map.{lookup}
use Rattle.std.specs.Option.{option_to_list}
use Rattle.rv_decode.specs.Words.{word_of}
use Rattle.rv_asm.specs.declared.fault.Rule.{Rule}
use Rattle.line_texts.specs.declared.fault.LineFault.{LineFault}
use Rattle.line_texts.specs.declared.fault.Fault.{Fault}
use Rattle.line_texts.specs.declared.fault.Fault.TheVariants.{At}
use Rattle.rv_asm.specs.declared.number.Signed.{Signed}
use Rattle.rv_asm.specs.declared.number.Signed.TheVariants.{Plus, Minus}
use Rattle.rv_asm.specs.declared.table.Want.{Want}
use Rattle.rv_asm.specs.declared.table.Want.TheVariants.{Register, Mark, Number, Target}
use Rattle.rv_asm.specs.declared.table.Format.{Format}
use Rattle.rv_asm.specs.declared.table.Operands.{Operands}
use Rattle.rv_asm.specs.declared.table.Code.{Code}
use Rattle.rv_asm.specs.declared.table.TheConstants.{TABLE}
use Rattle.rv_asm.specs.Tokens.{tokens}
use Rattle.line_texts.specs.Tokens.{Token}
use Rattle.line_texts.specs.Lines.{lines}
use Rattle.rv_asm.specs.Table.{Row, Table, Statement, instruction, bare}
use Rattle.rv_asm.specs.LineMeaning.{Names, in_column, not_instruction, taken, instruction_of, unlabelled_of, line_of}
use Rattle.line_texts.specs.Parsers.{◌>>=◌}
use Rattle.rv_asm.specs.Source.{fault_at, names_in}
use Rattle.rv_asm.specs.Bytes.{IsMark}
use Rattle.rv_asm.specs.PackedWords.{packed}

-- the code's table: format and word of zeros of each name, the lookup of a name, and the rows
abbrev pub code_of : Format → ℕ → Code
code_of format base = record { format = format; base = base }

unfoldable pub entries : List (List ℕ × Code)
entries = map (λ k. (k.0.now, code_of k.1 k.2)) TABLE

unfoldable pub coded : List ℕ → Option Code
coded name = lookup (bytes_eq name) entries

abbrev pub code_row : Code → Row ℕ
code_row code = record { format = code.format; says = packed code.format code.base }

unfoldable pub code_table : Table ℕ
code_table = map (λ e. (e.0, code_row e.1)) entries

-- a line after a label, or one without a label
abbrev pub behind : Bool → Names → ℕ → ℕ → List Token → Result (Option ℕ) (LineFault Rule)
behind labelled names place end ts =
    if labelled then instruction_of code_table names place end ts else unlabelled_of code_table names place end ts

-- the word of a statement
abbrev pub encoded : Statement → ℕ
encoded (instruction inst) = word_of inst
encoded (bare n) = n

-- a fault of the line with this number
abbrev pub in_line : {A : Type 0} → ℕ → Result A (LineFault Rule) → Result A Fault
in_line line (Ok x) = Ok x
in_line line (Err fault) = Err (fault_at line fault)

-- what lines add to a list, where the first line has this number
unfoldable pub lines_from : {A : Type 0} → Table A → Names → List A → ℕ → List (List ℕ) → Result (List A) Fault
lines_from table names list line [] = Ok list
lines_from table names list line (l ∷ ls) =
    in_line line (line_of table names line (length list) (length l + 1) (tokens 1 l))
    >>= λ found. lines_from table names (list ++ option_to_list found) (line + 1) ls

-- an empty source has a fault
abbrev pub unless_empty : {A : Type 0} → List A → Result (List A) Fault
unless_empty [] = Err (At 7 0 0)
unless_empty (x ∷ list) = Ok (x ∷ list)

unfoldable pub source_of : {A : Type 0} → Table A → List ℕ → Result (List A) Fault
source_of table text = lines_from table (names_in table text) [] 1 (lines text) >>= λ list. unless_empty list

-- the operands with the next token's value
abbrev pub next_of : Names → ℕ → ℕ → Want → List Token → Operands → Result Operands (LineFault Rule)
next_of names place end w [] o = Err (not_instruction end)
next_of names place end w (t ∷ ts) o = in_column t.column (taken names place w t.text o)

-- A number that fits 32 bits. Wants whose ranges hold only such numbers, and whose bytes are tokens by themselves.
abbrev pub IsOf32Bits : Signed → Type 0
IsOf32Bits (Plus n) = n < 2 ^ 32
IsOf32Bits (Minus n) = n ≤ 2 ^ 32

abbrev pub IsNarrow : Want → Type 0
IsNarrow (Register field) = Unit {0}
IsNarrow (Mark byte) = IsMark byte
IsNarrow (Number low high) = (low ≤ 2 ^ 32) × (high < 2 ^ 32)
IsNarrow (Target low high) = (low ≤ 2 ^ 32) × (high < 2 ^ 32)

-- a want that isn't a byte
abbrev pub IsOperand : Want → Type 0
IsOperand (Register field) = Unit {0}
IsOperand (Mark byte) = ⊥
IsOperand (Number low high) = Unit {0}
IsOperand (Target low high) = Unit {0}

-- the words of an optional statement
abbrev pub encoded_option : Option Statement → Option ℕ
encoded_option None = None
encoded_option (Some s) = Some (encoded s)

abbrev pub encoded_line : Result (Option Statement) (LineFault Rule) → Result (Option ℕ) (LineFault Rule)
encoded_line (Ok found) = Ok (encoded_option found)
encoded_line (Err fault) = Err fault

abbrev pub encoded_list : Result (List Statement) Fault → Result (List ℕ) Fault
encoded_list (Ok list) = Ok (map encoded list)
encoded_list (Err fault) = Err fault
