-- Which bytes are a script, and which orders it has. Each line is blank, a comment, or an order. An order is a command,
-- and a number or an address after it.
use Rattle.std.specs.Prelude.{◌≡◌, ◌≤◌, ◌⊎◌, ℕ, true, List, [], ◌∷◌, codes, decimal}
use Rattle.plan_types.specs.declared.limits.TheConstants.{MOST_STEPS}
use Rattle.line_texts.specs.Tokens.{Token, words}
use Rattle.line_texts.specs.Lines.{lines}
use Rattle.line_texts.specs.Numbers.{address_word}
use Rattle.reverse_console.specs.declared.command.Command.{Command}
use Rattle.reverse_console.specs.declared.command.Command.TheVariants as command
use Rattle.reverse_console.specs.declared.order.Order.{Order}
use Rattle.reverse_console.specs.declared.order.Order.TheVariants.{Back, Step, Goto, BackTo, RunTo, BackChange, BackWrite}
use Rattle.reverse_console.specs.Answer.{IsOrder}
use Rattle.reverse_console.specs.ScriptWords.{texts, begins_comment}

-- the seven commands
abbrev pub command_word : Command → List ℕ
command_word command.Back = codes "back"
command_word command.Step = codes "step"
command_word command.Goto = codes "goto"
command_word command.BackTo = codes "back-to"
command_word command.RunTo = codes "run-to"
command_word command.BackChange = codes "back-change"
command_word command.BackWrite = codes "back-write"

-- the order of a command with this number or address
abbrev pub order_with : Command → ℕ → Order
order_with command.Back n = Back n
order_with command.Step n = Step n
order_with command.Goto n = Goto n
order_with command.BackTo n = BackTo n
order_with command.RunTo n = RunTo n
order_with command.BackChange n = BackChange n
order_with command.BackWrite n = BackWrite n

-- An operand is a number in decimal digits without a leading zero, or an address. An address is `0x` and eight
-- lower-case hexadecimal digits.
abbrev pub operand_word : Command → ℕ → List ℕ
operand_word command.Back n = decimal n
operand_word command.Step n = decimal n
operand_word command.Goto n = decimal n
operand_word _ n = address_word n

-- a number is at most 1,000,000, and an address has 32 bits
abbrev pub greatest : Command → ℕ
greatest command.Back = MOST_STEPS
greatest command.Step = MOST_STEPS
greatest command.Goto = MOST_STEPS
greatest _ = 0xFFFFFFFF

-- a text is the operand of a command
abbrev pub IsOperand : Command → List ℕ → ℕ → Type 0
IsOperand c text n = (n ≤ greatest c) × (text ≡ operand_word c n)

-- The words of a line mean an order in a run of so many steps. They are a command and its operand, and this run allows
-- the order.
pub record Says (count : ℕ) (texts : List (List ℕ)) (order : Order) : Type 0 where
  pub begins : Command
  pub behind : List ℕ
  pub parts : texts ≡ command_word begins ∷ behind ∷ []
  pub number : ℕ
  pub operand : IsOperand begins behind number
  pub is : order ≡ order_with begins number
  pub allowed : IsOrder count order

-- words that mean nothing: there are none, or a comment begins with the first
abbrev pub SayNothing : List Token → Type 0
SayNothing [] = Unit {0}
SayNothing (w ∷ ws) = begins_comment w.text ≡ true

-- a line that means nothing
abbrev pub IsPassed : List ℕ → Type 0
IsPassed line = SayNothing (words 1 line)

-- each line means nothing, or the next order of the list, and no order is left
abbrev pub LinesSay : ℕ → List (List ℕ) → List Order → Type 0
LinesSay count [] [] = Unit {0}
LinesSay count [] (o ∷ orders) = ⊥
LinesSay count (line ∷ rest) [] = IsPassed line × LinesSay count rest []
LinesSay count (line ∷ rest) (o ∷ orders) =
    (IsPassed line × LinesSay count rest (o ∷ orders)) ⊎ (Says count (texts line) o × LinesSay count rest orders)

-- the bytes mean these orders
abbrev pub IsScript : ℕ → List ℕ → List Order → Type 0
IsScript count bytes orders = LinesSay count (lines bytes) orders
