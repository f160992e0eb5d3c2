-- No public clause cites this file. What the reader of scripts computes, as functions on lists.
use Rattle.std.specs.Prelude.{◌+◌, ◌++◌, ℕ, Bool, true, List, [], ◌∷◌, length, Option, Some, None, Result, Ok, Err, nat_le, codes, if◌then◌else◌}
use Rattle.std.specs.Option.{option_to_list}
use Rattle.std.specs.Str.{bytes_eq}
use Rattle.plan_types.specs.declared.limits.TheConstants.{MOST_STEPS}
use Rattle.rv_pages.specs.declared.pages.TheConstants.{LAST_WORD}
use Rattle.line_texts.specs.Tokens.{Token, words}
use Rattle.line_texts.specs.Lines.{lines}
use Rattle.line_texts.specs.Parsers.{◌>>=◌}
use Rattle.line_texts.specs.Parsers as texts
use Rattle.reverse_console.specs.declared.command.Command.{Command}
use Rattle.reverse_console.specs.declared.command.Command.TheVariants as command
use Rattle.reverse_console.specs.declared.order.Order.{Order}
use Rattle.reverse_console.specs.declared.order.Order.TheVariants.{Goto, BackChange, BackWrite}
use Rattle.reverse_console.specs.declared.fault.Rule.TheVariants as rule
use Rattle.reverse_console.specs.declared.fault.Rule.{Rule}
use Rattle.line_texts.specs.declared.fault.LineFault.{LineFault}
use Rattle.line_texts.specs.declared.fault.Fault.{Fault}
use Rattle.reverse_console.specs.Script.{order_with}
use Rattle.reverse_console.specs.ScriptFaults.{broken, rule_of, fault_at}
use Rattle.reverse_console.specs.ScriptWords.{begins_comment}

-- ---- words

-- the command that a text is
unfoldable pub command_of : List ℕ → Option Command
command_of text =
    if bytes_eq text (codes "back") then Some command.Back
    else (if bytes_eq text (codes "step") then Some command.Step
    else (if bytes_eq text (codes "goto") then Some command.Goto
    else (if bytes_eq text (codes "back-to") then Some command.BackTo
    else (if bytes_eq text (codes "run-to") then Some command.RunTo
    else (if bytes_eq text (codes "back-change") then Some command.BackChange
    else (if bytes_eq text (codes "back-write") then Some command.BackWrite
    else None))))))

-- the operand of a command that a text is
abbrev pub operand_of : Command → List ℕ → Option ℕ
operand_of command.Back text = texts.number_of MOST_STEPS text
operand_of command.Step text = texts.number_of MOST_STEPS text
operand_of command.Goto text = texts.number_of MOST_STEPS text
operand_of _ text = texts.address_of text

-- an order may be given in a run of so many steps
abbrev pub is_given : ℕ → Order → Bool
is_given count (Goto k) = nat_le k count
is_given count (BackChange word) = nat_le word LAST_WORD
is_given count (BackWrite word) = nat_le word LAST_WORD
is_given count _ = true

-- ---- lines

abbrev pub not_command : ℕ → LineFault Rule
not_command column = broken rule.NotCommand column

-- the order of a command, with the operand that a text is in this column
abbrev pub in_range : ℕ → Order → ℕ → Result Order (LineFault Rule)
in_range count order column = if is_given count order then Ok order else Err (broken rule.Range column)

abbrev pub given_by : ℕ → Command → ℕ → Option ℕ → Result Order (LineFault Rule)
given_by count c column None = Err (broken (rule_of c) column)
given_by count c column (Some n) = in_range count (order_with c n) column

unfoldable pub given : ℕ → Command → ℕ → List ℕ → Result Order (LineFault Rule)
given count c column text = given_by count c column (operand_of c text)

-- the order of a command and its operand, if no word comes after the operand
abbrev pub alone : List Token → Result Order (LineFault Rule) → Result (Option Order) (LineFault Rule)
alone ws (Err fault) = Err fault
alone [] (Ok order) = Ok (Some order)
alone (w ∷ ws) (Ok order) = Err (not_command w.column)

-- a command with the words after it
abbrev pub behind_command : ℕ → ℕ → Command → List Token → Result (Option Order) (LineFault Rule)
behind_command count end c [] = Err (not_command end)
behind_command count end c (w ∷ ws) = alone ws (given count c w.column w.text)

abbrev pub with_command : ℕ → ℕ → ℕ → List Token → Option Command → Result (Option Order) (LineFault Rule)
with_command count end column ws None = Err (not_command column)
with_command count end column ws (Some c) = behind_command count end c ws

-- the order of a line, or none
unfoldable pub line_of : ℕ → ℕ → List Token → Result (Option Order) (LineFault Rule)
line_of count end [] = Ok None
line_of count end (w ∷ ws) = if begins_comment w.text then Ok None else with_command count end w.column ws (command_of w.text)

-- ---- the text

-- a fault of the line with this number
abbrev pub in_line : {A : Type 0} → ℕ → Result A (LineFault Rule) → Result A Fault
in_line line (Ok x) = Ok x
in_line line (Err fault) = Err (fault_at line fault)

-- the orders of lines after a list; the first line has this number
unfoldable pub orders_from : ℕ → List Order → ℕ → List (List ℕ) → Result (List Order) Fault
orders_from count orders line [] = Ok orders
orders_from count orders line (l ∷ ls) =
    in_line line (line_of count (length l + 1) (words 1 l)) >>= λ found. orders_from count (orders ++ option_to_list found) (line + 1) ls

unfoldable pub script_of : ℕ → List ℕ → Result (List Order) Fault
script_of count bytes = orders_from count [] 1 (lines bytes)
