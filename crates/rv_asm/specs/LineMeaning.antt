-- What a line means, token by token, over a table of instructions and a map from names to labels. Or its fault, with a
-- rule and a column. A fault is at the first token that doesn't fit. It is one column past the line where the line ends
-- too early.
use Rattle.std.specs.Prelude.{◌-◌, ◌*◌, ◌%◌, ◌^◌, ◌==◌, ◌&&◌, ℕ, Bool, false, List, [], ◌∷◌, drop, Option, Some, None, Result, Ok, Err, nat_lt, nat_le, is_none, option_map, ok_or, codes, if◌then◌else◌}
use Rattle.std.specs.Str.{bytes_eq}
use Rattle.rv_asm.specs.declared.fault.Rule.{Rule}
use Rattle.rv_asm.specs.declared.fault.Rule.TheVariants as rule
use Rattle.line_texts.specs.declared.fault.LineFault.{LineFault}
use Rattle.rv_asm.specs.declared.number.Signed.{Signed}
use Rattle.rv_asm.specs.declared.number.Signed.TheVariants.{Plus, Minus}
use Rattle.rv_asm.specs.declared.label.Label.{Label}
use Rattle.rv_asm.specs.declared.table.Field.{Field}
use Rattle.rv_asm.specs.declared.table.Field.TheVariants.{Rd, Rs1, Rs2}
use Rattle.rv_asm.specs.declared.table.Want.{Want}
use Rattle.rv_asm.specs.declared.table.Want.TheVariants.{Register, Mark, Number, Target}
use Rattle.rv_asm.specs.declared.table.Operands.{Operands}
use Rattle.line_texts.specs.Tokens.{Token}
use Rattle.line_texts.specs.Cursors.{text_in, column_in}
use Rattle.line_texts.specs.Parsers.{◌>>=◌}
use Rattle.rv_asm.specs.Numbers.{number_of, register_of, begins_number, begins_letter, is_name}
use Rattle.rv_asm.specs.Table.{wants, Row, Table, named}

-- the label of a name, if some line defines it
abbrev pub Names : Type 0
Names = List ℕ → Option Label

-- ---- operands

-- all operands are 0; a register of a field is put in their place
abbrev pub no_operands : Operands
no_operands = record { rd = 0; rs1 = 0; rs2 = 0; imm = 0 }

abbrev pub put : Field → ℕ → Operands → Operands
put Rd n o = record o { rd = n }
put Rs1 n o = record o { rs1 = n }
put Rs2 n o = record o { rs2 = n }

-- a number as 32 bits, in two's complement
abbrev pub bits_of : Signed → ℕ
bits_of (Plus n) = n
bits_of (Minus n) = (2 ^ 32 - n) % 2 ^ 32

-- a number is at most so much below 0 or above; it is even
abbrev pub is_within : ℕ → ℕ → Signed → Bool
is_within low high (Plus n) = nat_le n high
is_within low high (Minus n) = nat_le n low

abbrev pub is_even : Signed → Bool
is_even (Plus n) = n % 2 == 0
is_even (Minus n) = n % 2 == 0

-- the distance in bytes from a word to another, by their numbers
abbrev pub distance : ℕ → ℕ → Signed
distance from to = if nat_le from to then Plus ((to - from) * 4) else Minus ((from - to) * 4)

-- the number that a text means, or the rule that it breaks
unfoldable pub number_in : List ℕ → Result Signed Rule
number_in text = if begins_number text then ok_or (number_of text) rule.Number else Err rule.NotInstruction

-- the distance from the word with this number: a given number, or the way to a label's word
unfoldable pub target_in : Names → ℕ → List ℕ → Result Signed Rule
target_in names place text =
    if begins_number text then ok_or (number_of text) rule.Number
    else (if is_name text then ok_or (option_map (λ l. distance place l.place) (names text)) rule.Label
    else Err rule.NotInstruction)

-- the operands with a number, where it fits, or with a register, where a text spells one
abbrev pub put_number : Bool → Operands → Signed → Result Operands Rule
put_number fits o n = if fits then Ok (record o { imm = bits_of n }) else Err rule.Number

abbrev pub put_register : Field → Operands → Bool → Option ℕ → Result Operands Rule
put_register field o is_letter (Some n) = Ok (put field n o)
put_register field o is_letter None = Err (if is_letter then rule.Register else rule.NotInstruction)

-- the operands with a token's value, or the rule that it breaks
unfoldable pub taken : Names → ℕ → Want → List ℕ → Operands → Result Operands Rule
taken names place (Register field) text o = put_register field o (begins_letter text) (register_of text)
taken names place (Mark byte) text o = if bytes_eq text (byte ∷ []) then Ok o else Err rule.NotInstruction
taken names place (Number low high) text o = number_in text >>= λ n. put_number (is_within low high n) o n
taken names place (Target low high) text o = target_in names place text >>= λ n. put_number (is_within low high n && is_even n) o n

-- a rule that is broken in this column
abbrev pub in_column : {A : Type 0} → ℕ → Result A Rule → Result A (LineFault Rule)
in_column column (Ok x) = Ok x
in_column column (Err r) = Err (record { rule = r; column = column })

abbrev pub not_instruction : ℕ → LineFault Rule
not_instruction column = record { rule = rule.NotInstruction; column = column }

-- the operands that tokens mean, one for each want; end is the column one past the line's bytes
unfoldable pub operands_of : Names → ℕ → ℕ → List Want → List Token → Operands → Result Operands (LineFault Rule)
operands_of names place end [] [] o = Ok o
operands_of names place end [] (t ∷ ts) o = Err (not_instruction t.column)
operands_of names place end (w ∷ ws) [] o = Err (not_instruction end)
operands_of names place end (w ∷ ws) (t ∷ ts) o =
    in_column t.column (taken names place w t.text o) >>= λ p. operands_of names place end ws ts p

-- ---- lines

-- What a row means with the operands after its name, which is in this column. A source has at most 1,048,576 words.
abbrev pub said : {A : Type 0} → Names → ℕ → ℕ → ℕ → List Token → Option (Row A) → Result (Option A) (LineFault Rule)
said names place end column ts None = Err (not_instruction column)
said names place end column ts (Some row) =
    if place == 1048576 then Err (record { rule = rule.TooLong; column = column })
    else (operands_of names place end (wants row.format) ts no_operands >>= λ o. Ok (Some (row.says o)))

-- an instruction, or none
unfoldable pub instruction_of : {A : Type 0} → Table A → Names → ℕ → ℕ → List Token → Result (Option A) (LineFault Rule)
instruction_of table names place end [] = Ok None
instruction_of table names place end (t ∷ ts) = said names place end t.column ts (named table t.text)

-- a label begins the line: a name and `:`
abbrev pub begins_label : List Token → Bool
begins_label [] = false
begins_label (t ∷ []) = false
begins_label (t ∷ u ∷ ts) = is_name t.text && bytes_eq u.text (codes ":")

-- what comes after the label, if there is one
abbrev pub behind_label : List Token → List Token
behind_label ts = if begins_label ts then drop 2 ts else ts

-- The first token is a name, but not an instruction's. A label could begin so, and then the next token is the misfit.
abbrev pub is_bare_name : {A : Type 0} → Table A → List Token → Bool
is_bare_name table [] = false
is_bare_name table (t ∷ ts) = is_name t.text && is_none (named table t.text)

-- a line without a label
abbrev pub unlabelled_of : {A : Type 0} → Table A → Names → ℕ → ℕ → List Token → Result (Option A) (LineFault Rule)
unlabelled_of table names place end ts =
    if is_bare_name table ts then Err (not_instruction (column_in end (drop 1 ts)))
    else instruction_of table names place end ts

-- a label of an earlier line
abbrev pub is_earlier : ℕ → Option Label → Bool
is_earlier line None = false
is_earlier line (Some label) = nat_lt label.line line

-- the line with this number, after so many words
unfoldable pub line_of : {A : Type 0} → Table A → Names → ℕ → ℕ → ℕ → List Token → Result (Option A) (LineFault Rule)
line_of table names line place end ts =
    if begins_label ts
    then (if is_earlier line (names (text_in ts)) then Err (record { rule = rule.Twice; column = column_in end ts })
    else instruction_of table names place end (drop 2 ts))
    else unlabelled_of table names place end ts
