-- No public clause cites this file. What the reader computes, as functions on lists. Each takes something from the
-- front of a line's tokens, and gives it and the rest, or a fault. The laws tie it to the definitions that clauses
-- cite.
use Rattle.std.specs.Prelude.{◌≡◌, ◌≢◌, ◌⊎◌, ◌+◌, ◌==◌, ◌++◌, ◌&&◌, ℕ, Bool, true, false, List, [], ◌∷◌, length, Option, Some, None, Result, Ok, Err, is_some, unwrap_or, slice_index_or, position, codes, if◌then◌else◌}
use Rattle.std.specs.Option.{option_to_list}
use Rattle.std.specs.Str.{bytes_eq}
use Rattle.plan_types.specs.declared.limits.TheConstants.{MOST_ACTIONS, MOST_STEPS}
use Rattle.plan_types.specs.declared.action.Keep.TheVariants.{Nothing, Store, Tape}
use Rattle.plan_types.specs.declared.action.Dest.{Dest}
use Rattle.plan_types.specs.declared.action.Dest.TheVariants.{Work, Level}
use Rattle.plan_types.specs.declared.action.Action.{Action}
use Rattle.plan_types.specs.declared.action.Action.TheVariants.{Forward, Reverse, Copy, Move, EndForward, EndReverse}
use Rattle.action_text.specs.declared.fault.Rule.{Rule}
use Rattle.action_text.specs.declared.fault.Rule.TheVariants as rule
use Rattle.line_texts.specs.declared.fault.LineFault.{LineFault}
use Rattle.line_texts.specs.declared.fault.Fault.{Fault}
use Rattle.line_texts.specs.declared.fault.Fault.TheVariants.{At}
use Rattle.action_text.specs.declared.words.Place.{Place}
use Rattle.action_text.specs.declared.words.Place.TheVariants as at
use Rattle.action_text.specs.declared.words.Kind.{Kind}
use Rattle.action_text.specs.declared.words.Kind.TheVariants as kind
use Rattle.action_text.specs.Tokens.{is_run_byte, starts_run, tokens}
use Rattle.line_texts.specs.Tokens.{Token, is_blank}
use Rattle.line_texts.specs.Numbers.{starts_with_digit}
use Rattle.action_text.specs.Shapes.{Want, exactly, number, truth, level, target, place, opening, comma, closing}
use Rattle.line_texts.specs.Lines.{lines}
use Rattle.line_texts.specs.Parsers.{◌>>=◌}
use Rattle.line_texts.specs.Parsers as texts
use Rattle.action_text.specs.CursorState.{Rest}

-- ---- numbers

-- the number that a whole text is
abbrev pub number_of : List ℕ → Option ℕ
number_of text = texts.number_of MOST_STEPS text

-- what was read at the front of bytes, unless a run continues right after it
abbrev pub alone : {A : Type 0} → Option (A × List ℕ) → Option A
alone None = None
alone (Some x) = if starts_run x.1 then None else Some x.0

-- ---- other words

abbrev pub truth_of : List ℕ → Option Bool
truth_of text = if bytes_eq text (codes "True") then Some true else (if bytes_eq text (codes "False") then Some false else None)

unfoldable pub level_of : List (List ℕ) → List ℕ → Option ℕ
level_of names text = position (bytes_eq text) names

-- what was found, in a wider type, or something else
abbrev pub found_or : {A B : Type 0} → Option A → (A → B) → Option B → Option B
found_or None f other = other
found_or (Some x) f other = Some (f x)

unfoldable pub target_of : List (List ℕ) → List ℕ → Option Dest
target_of names text = found_or (level_of names text) Level (if bytes_eq text (codes "WORK") then Some Work else None)

unfoldable pub place_of : List (List ℕ) → List ℕ → Option Place
place_of names text = found_or (target_of names text) at.At (if bytes_eq text (codes "NONE") then Some at.Nowhere else None)

unfoldable pub kind_of : List ℕ → Option Kind
kind_of text =
    if bytes_eq text (codes "Forward") then Some kind.Forward
    else (if bytes_eq text (codes "Reverse") then Some kind.Reverse
    else (if bytes_eq text (codes "Copy") then Some kind.Copy
    else (if bytes_eq text (codes "Move") then Some kind.Move
    else (if bytes_eq text (codes "EndForward") then Some kind.EndForward
    else (if bytes_eq text (codes "EndReverse") then Some kind.EndReverse
    else None)))))

-- ---- taking from the front of a line

abbrev pub without_first : List Token → List Token
without_first [] = []
without_first (t ∷ ts) = ts

abbrev pub behind : Rest → Rest
behind rest = record rest { tokens = without_first rest.tokens }

-- the text of the next token, and its place, which is the line's end if there is none
abbrev pub text_in : List Token → List ℕ
text_in [] = []
text_in (t ∷ ts) = t.text

abbrev pub column_in : List Token → ℕ → ℕ
column_in [] end = end
column_in (t ∷ ts) end = t.column

unfoldable pub text_at : Rest → List ℕ
text_at rest = text_in rest.tokens

unfoldable pub column_at : Rest → ℕ
column_at rest = column_in rest.tokens rest.end

-- what the next token was read as; the token is consumed only if it was read
abbrev pub Takes : {A : Type 0} → Option A → Option A → Rest → Rest → Type 0
Takes (Some x) read old new = (read ≡ Some x) × (starts_run (text_at old) ≡ true) × (new ≡ behind old)
Takes None read old new = (read ≡ None) × (new ≡ old)

-- a word was read; the token is consumed only if it was
abbrev pub TakesWord : Bool → List ℕ → Rest → Rest → Type 0
TakesWord true word old new = (bytes_eq (text_at old) word ≡ true) × (starts_run (text_at old) ≡ true) × (new ≡ behind old)
TakesWord false word old new = (bytes_eq (text_at old) word ≡ false) × (new ≡ old)

abbrev pub not_action : ℕ → LineFault Rule
not_action column = record { rule = rule.NotAction; column = column }

-- the next token, if it passes the test, and otherwise the fault at its place
abbrev pub take_if : (List ℕ → Bool) → (List ℕ → Rule) → Rest → Result (List ℕ × Rest) (LineFault Rule)
take_if test rule rest = if test (text_at rest) then Ok (text_at rest, behind rest) else Err (record { rule = rule (text_at rest); column = column_at rest })

abbrev pub number_rule : List ℕ → Rule
number_rule text = if starts_with_digit text then rule.Number else rule.NotAction

-- the rule that a text breaks, which is this one if it is a word
abbrev pub word_rule : Rule → List ℕ → Rule
word_rule broken text = if starts_run text then broken else rule.NotAction

abbrev pub level_rule : List ℕ → Rule
level_rule = word_rule rule.Level

unfoldable pub mark_next : List ℕ → Rest → Result (List ℕ × Rest) (LineFault Rule)
mark_next wanted = take_if (λ text. bytes_eq text wanted) (λ _. rule.NotAction)

-- no byte of a blank, of a run or of a line's end
abbrev pub IsMark : ℕ → Type 0
IsMark byte = (is_blank byte ≡ false) × (is_run_byte byte ≡ false) × (byte ≢ 10)

-- a value and the mark after it are consumed, or one of them has a fault
abbrev pub ReadsBefore : {A : Type 0} → ℕ → Result A (LineFault Rule) → (List ℕ → Option A) → (Rest → Result (List ℕ × Rest) (LineFault Rule)) → Rest → Rest → Type 0
ReadsBefore mark (Ok x) value next old new = (next old ≡ Ok (text_at old, behind old)) × (value (text_at old) ≡ Some x)
    × (mark_next (mark ∷ []) (behind old) ≡ Ok (text_at (behind old), new)) × (new.later ≡ old.later)
ReadsBefore mark (Err e) value next old new =
    (next old ≡ Err e) ⊎ (next old ≡ Ok (text_at old, behind old)) × (mark_next (mark ∷ []) (behind old) ≡ Err e)

unfoldable pub word_next : Rest → Result (List ℕ × Rest) (LineFault Rule)
word_next = take_if starts_run (λ _. rule.NotAction)

unfoldable pub number_next : Rest → Result (List ℕ × Rest) (LineFault Rule)
number_next = take_if (λ text. starts_run text && is_some (number_of text)) number_rule

unfoldable pub truth_next : Rest → Result (List ℕ × Rest) (LineFault Rule)
truth_next = take_if (λ text. starts_run text && is_some (truth_of text)) (λ _. rule.NotAction)

unfoldable pub level_next : List (List ℕ) → Rest → Result (List ℕ × Rest) (LineFault Rule)
level_next names = take_if (λ text. starts_run text && is_some (level_of names text)) level_rule

unfoldable pub target_next : List (List ℕ) → Rest → Result (List ℕ × Rest) (LineFault Rule)
target_next names = take_if (λ text. starts_run text && is_some (target_of names text)) level_rule

unfoldable pub place_next : List (List ℕ) → Rest → Result (List ℕ × Rest) (LineFault Rule)
place_next names = take_if (λ text. starts_run text && is_some (place_of names text)) level_rule

abbrev pub next : List (List ℕ) → Want → Rest → Result (List ℕ × Rest) (LineFault Rule)
next names (exactly wanted) rest = mark_next wanted rest
next names number rest = number_next rest
next names truth rest = truth_next rest
next names level rest = level_next names rest
next names target rest = target_next names rest
next names place rest = place_next names rest

-- nothing is left of the line
abbrev pub is_nothing : List Token → Bool
is_nothing [] = true
is_nothing (t ∷ ts) = false

unfoldable pub end_next : Rest → Result (List (List ℕ)) (LineFault Rule)
end_next rest = if is_nothing rest.tokens then Ok [] else Err (not_action (column_at rest))

-- texts that fit these wants, and nothing after them
abbrev pub all_of : List (List ℕ) → List Want → Rest → Result (List (List ℕ)) (LineFault Rule)
all_of names [] rest = end_next rest
all_of names (w ∷ ws) rest = next names w rest >>= λ x. all_of names ws x.1 >>= λ xs. Ok (x.0 ∷ xs)

-- ---- lines

-- what comes after the name of an action
abbrev pub wants_of : Kind → List Want
wants_of kind.Forward = opening ∷ number ∷ comma ∷ number ∷ comma ∷ truth ∷ comma ∷ truth ∷ comma ∷ place ∷ closing ∷ []
wants_of kind.Reverse = opening ∷ number ∷ comma ∷ number ∷ comma ∷ truth ∷ closing ∷ []
wants_of kind.Copy = opening ∷ number ∷ comma ∷ level ∷ comma ∷ target ∷ closing ∷ []
wants_of kind.Move = opening ∷ number ∷ comma ∷ level ∷ comma ∷ target ∷ closing ∷ []
wants_of kind.EndForward = opening ∷ closing ∷ []
wants_of kind.EndReverse = opening ∷ closing ∷ []

-- the action that arguments mean, if their profile is one
abbrev pub forward_said : ℕ → ℕ → Bool → Bool → Place → Option Action
forward_said from to false false at.Nowhere = Some (Forward from to Nothing)
forward_said from to false false (at.At Work) = Some (Forward from to Nothing)
forward_said from to false false (at.At (Level k)) = None
forward_said from to true false (at.At (Level k)) = Some (Forward from to (Store k))
forward_said from to true false (at.At Work) = None
forward_said from to true false at.Nowhere = None
forward_said from to false true (at.At Work) = if to == from + 1 then Some (Forward from to Tape) else None
forward_said from to false true (at.At (Level k)) = None
forward_said from to false true at.Nowhere = None
forward_said from to true true p = None

abbrev pub reverse_said : ℕ → ℕ → Bool → Option Action
reverse_said from to holds = if holds && from == to + 1 then Some (Reverse from to) else None

-- the values of the texts at some places
abbrev pub at_place : List (List ℕ) → ℕ → List ℕ
at_place xs i = slice_index_or xs i []

abbrev pub number_in : List (List ℕ) → ℕ → ℕ
number_in xs i = unwrap_or (number_of (at_place xs i)) 0

abbrev pub truth_in : List (List ℕ) → ℕ → Bool
truth_in xs i = unwrap_or (truth_of (at_place xs i)) false

abbrev pub said : List (List ℕ) → Kind → List (List ℕ) → Option Action
said names kind.Forward xs =
    forward_said (number_in xs 1) (number_in xs 3) (truth_in xs 5) (truth_in xs 7) (unwrap_or (place_of names (at_place xs 9)) at.Nowhere)
said names kind.Reverse xs = reverse_said (number_in xs 1) (number_in xs 3) (truth_in xs 5)
said names kind.Copy xs = Some (Copy (number_in xs 1) (unwrap_or (level_of names (at_place xs 3)) 0) (unwrap_or (target_of names (at_place xs 5)) Work))
said names kind.Move xs = Some (Move (number_in xs 1) (unwrap_or (level_of names (at_place xs 3)) 0) (unwrap_or (target_of names (at_place xs 5)) Work))
said names kind.EndForward xs = Some EndForward
said names kind.EndReverse xs = Some EndReverse

-- the arguments of an action, and what they say
unfoldable pub arguments_of : List (List ℕ) → Kind → Rest → Result (Option Action) (LineFault Rule)
arguments_of names k rest = all_of names (wants_of k) rest >>= λ xs. Ok (said names k xs)

-- the arguments of a Copy or a Move, and the action that they mean
unfoldable pub image_of : List (List ℕ) → Bool → Rest → Result (Option Action) (LineFault Rule)
image_of names moves rest = all_of names (wants_of kind.Copy) rest >>= λ xs. Ok (said names (if moves then kind.Move else kind.Copy) xs)

-- the brackets of an action without arguments
unfoldable pub brackets_of : Action → Rest → Result (Option Action) (LineFault Rule)
brackets_of action rest = all_of [] (wants_of kind.EndForward) rest >>= λ xs. Ok (Some action)

-- arguments that don't fit together are a fault at the name
abbrev pub profiled : ℕ → Option Action → Result (Option Action) (LineFault Rule)
profiled column None = Err (record { rule = rule.Profile; column = column })
profiled column (Some a) = Ok (Some a)

-- the action of this kind, whose name is in this column, after so many actions
abbrev pub action_of : List (List ℕ) → Bool → ℕ → Option Kind → Rest → Result (Option Action) (LineFault Rule)
action_of names full column None rest = Err (record { rule = rule.NotAction; column = column })
action_of names full column (Some k) rest =
    if full then Err (record { rule = rule.TooMany; column = column }) else (arguments_of names k rest >>= profiled column)

-- whether the line means nothing
abbrev pub says_nothing : List Token → Bool
says_nothing [] = true
says_nothing (t ∷ ts) = bytes_eq t.text (codes "#")

-- the action of a line, or none
unfoldable pub line_of : List (List ℕ) → Bool → Rest → Result (Option Action) (LineFault Rule)
line_of names full rest =
    if says_nothing rest.tokens then Ok None
    else (word_next rest >>= λ x. action_of names full (column_at rest) (kind_of x.0) x.1)

-- ---- the text

abbrev pub number_of_rule : Rule → ℕ
number_of_rule rule.NotAction = 1
number_of_rule rule.Number = 2
number_of_rule rule.Level = 3
number_of_rule rule.Profile = 4
number_of_rule rule.TooMany = 5

-- a fault of a line with this number
abbrev pub fault_at : ℕ → LineFault Rule → Fault
fault_at line fault = At (number_of_rule fault.rule) line fault.column

abbrev pub in_line : {A : Type 0} → ℕ → Result A (LineFault Rule) → Result A Fault
in_line line (Ok x) = Ok x
in_line line (Err fault) = Err (fault_at line fault)

-- a whole line, with the lines after it
abbrev pub whole_line : List ℕ → List (List ℕ) → Rest
whole_line line later = record { tokens = tokens 1 line; end = length line + 1; later = later }

abbrev pub has_line : List (List ℕ) → Bool
has_line [] = false
has_line (line ∷ later) = true

abbrev pub next_line : List (List ℕ) → Rest
next_line [] = whole_line [] []
next_line (line ∷ later) = whole_line line later

-- the actions of these lines after a list; the first line has this number
unfoldable pub lines_of : List (List ℕ) → List Action → ℕ → List (List ℕ) → Result (List Action) Fault
lines_of names list n [] = Ok list
lines_of names list n (line ∷ later) =
    in_line n (line_of names (length list == MOST_ACTIONS) (whole_line line later))
    >>= λ found. lines_of names (list ++ option_to_list found) (n + 1) later

-- the actions of what is left of a line, and of the lines after it
unfoldable pub here_of : List (List ℕ) → List Action → ℕ → Rest → Result (List Action) Fault
here_of names list n rest =
    in_line n (line_of names (length list == MOST_ACTIONS) rest)
    >>= λ found. lines_of names (list ++ option_to_list found) (n + 1) rest.later

unfoldable pub reading : List (List ℕ) → List ℕ → Result (List Action) Fault
reading names bytes = lines_of names [] 1 (lines bytes)
