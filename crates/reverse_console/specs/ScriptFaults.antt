-- The first line of a script with a fault, and its place. The rules are 1 NotCommand, 2 Number, 3 Address, 4 Range.
use Rattle.std.specs.Prelude.{◌≡◌, ◌≢◌, ◌+◌, ℕ, List, [], ◌∷◌, ◌++◌, length}
use Rattle.line_texts.specs.Tokens.{Token, words}
use Rattle.line_texts.specs.Lines.{lines}
use Rattle.reverse_console.specs.declared.command.Command.{Command}
use Rattle.reverse_console.specs.declared.command.Command.TheVariants as command
use Rattle.reverse_console.specs.declared.order.Order.{Order}
use Rattle.reverse_console.specs.declared.fault.Rule.{Rule}
use Rattle.reverse_console.specs.declared.fault.Rule.TheVariants as rule
use Rattle.line_texts.specs.declared.fault.LineFault.{LineFault}
use Rattle.line_texts.specs.declared.fault.Fault.{Fault}
use Rattle.line_texts.specs.declared.fault.Fault.TheVariants.{At, Memory}
use Rattle.reverse_console.specs.Answer.{IsOrder}
use Rattle.reverse_console.specs.Script.{command_word, order_with, IsOperand, LinesSay, IsPassed}

-- a rule is broken in this column
abbrev pub broken : Rule → ℕ → LineFault Rule
broken r column = record { rule = r; column = column }

-- the rule that a wrong operand of this command breaks
abbrev pub rule_of : Command → Rule
rule_of command.Back = rule.Number
rule_of command.Step = rule.Number
rule_of command.Goto = rule.Number
rule_of _ = rule.Address

-- The first of a line's words that doesn't fit, in a run of so many steps. `end` is the column one past the line's
-- bytes.
pub data IsFault (count end : ℕ) (ws : List Token) (fault : LineFault Rule) : Type 0 where
  -- the first word is no command
  no_command : (first : Token) (others : List Token) → ws ≡ first ∷ others → ((c : Command) → first.text ≢ command_word c) →
      fault ≡ broken rule.NotCommand first.column → IsFault count end ws fault
  -- nothing comes after a command
  no_operand : (c : Command) (first : Token) → ws ≡ first ∷ [] → first.text ≡ command_word c →
      fault ≡ broken rule.NotCommand end → IsFault count end ws fault
  -- what comes after it is no number, or no address
  other_operand : (c : Command) (first second : Token) (others : List Token) → ws ≡ first ∷ second ∷ others → first.text ≡ command_word c →
      ((n : ℕ) → IsOperand c second.text n → ⊥) → fault ≡ broken (rule_of c) second.column → IsFault count end ws fault
  -- it is one that this run doesn't allow
  out_of_range : (c : Command) (first second : Token) (others : List Token) → ws ≡ first ∷ second ∷ others → first.text ≡ command_word c →
      (n : ℕ) → IsOperand c second.text n → (IsOrder count (order_with c n) → ⊥) → fault ≡ broken rule.Range second.column → IsFault count end ws fault
  -- another word comes after it
  further_word : (c : Command) (first second third : Token) (others : List Token) → ws ≡ first ∷ second ∷ third ∷ others → first.text ≡ command_word c →
      (n : ℕ) → IsOperand c second.text n → IsOrder count (order_with c n) → fault ≡ broken rule.NotCommand third.column → IsFault count end ws fault

-- the fault of a line that isn't ignored
abbrev pub FaultIn : ℕ → List ℕ → LineFault Rule → Type 0
FaultIn count line fault = (IsPassed line → ⊥) × IsFault count (length line + 1) (words 1 line) fault

-- a rule has a number, and a fault of a line has the line's number too
abbrev pub number_of_rule : Rule → ℕ
number_of_rule rule.NotCommand = 1
number_of_rule rule.Number = 2
number_of_rule rule.Address = 3
number_of_rule rule.Range = 4

abbrev pub fault_at : ℕ → LineFault Rule → Fault
fault_at line fault = At (number_of_rule fault.rule) line fault.column

-- The lines before this one mean orders or nothing, and this one has the fault. Lines are counted from 1.
pub record IsFirstFault (count : ℕ) (bytes : List ℕ) (fault : Fault) : Type 0 where
  pub before : List (List ℕ)
  pub here : List ℕ
  pub after : List (List ℕ)
  pub parts : lines bytes ≡ before ++ here ∷ after
  pub orders : List Order
  pub says : LinesSay count before orders
  pub of_line : LineFault Rule
  pub met : FaultIn count here of_line
  pub is : fault ≡ fault_at (length before + 1) of_line

-- a lack of memory is no fault of the bytes
abbrev pub HasFirstFault : ℕ → List ℕ → Fault → Type 0
HasFirstFault count bytes (At r line column) = IsFirstFault count bytes (At r line column)
HasFirstFault count bytes Memory = ⊥
