-- The first line with a fault, and its place. The rules are 1 NotAction, 2 Number, 3 Level, 4 Profile, 5 TooMany.
use Rattle.std.specs.Prelude.{◌≡◌, ◌≤◌, ◌+◌, ℕ, List, [], ◌∷◌, ◌++◌, length, Option, Some, None, if◌then◌else◌}
use Rattle.plan_types.specs.declared.limits.TheConstants.{MOST_ACTIONS}
use Rattle.plan_types.specs.declared.action.Action.{Action}
use Rattle.line_texts.specs.declared.fault.Fault.{Fault}
use Rattle.line_texts.specs.declared.fault.Fault.TheVariants.{At, Memory}
use Rattle.action_text.specs.Tokens.{starts_run, tokens}
use Rattle.line_texts.specs.Tokens.{Token}
use Rattle.line_texts.specs.Numbers.{starts_with_digit}
use Rattle.action_text.specs.Shapes.{Want, exactly, number, truth, level, target, place, Expects, Begin}
use Rattle.action_text.specs.Meaning.{Says, IsPassed}
use Rattle.action_text.specs.ScheduleText.{texts, LinesSay}
use Rattle.line_texts.specs.Lines.{lines}

-- The rule of a text that doesn't fit. 2: a number is expected, and it begins with a digit. 3: a level, target or place
-- is expected, and it is a run of letters, digits and `_`. 1: any other case.
abbrev pub rule_at : Option Want → List ℕ → ℕ
rule_at (Some number) text = if starts_with_digit text then 2 else 1
rule_at (Some level) text = if starts_run text then 3 else 1
rule_at (Some target) text = if starts_run text then 3 else 1
rule_at (Some place) text = if starts_run text then 3 else 1
rule_at (Some truth) text = 1
rule_at (Some (exactly wanted)) text = 1
rule_at None text = 1

-- The tokens before one begin a line, and with it they don't. What is expected there gives the rule.
pub record IsUnexpected (names : List (List ℕ)) (tokens : List Token) (rule column : ℕ) : Type 0 where
  pub before : List Token
  pub token : Token
  pub after : List Token
  pub parts : tokens ≡ before ++ token ∷ after
  pub next : Option Want
  pub expected : Expects names before next
  pub stops : Begin names (before ++ token ∷ []) → ⊥
  pub rule_is : rule ≡ rule_at next token.text
  pub column_is : column ≡ token.column

-- The list is full before the line. The line's first token, in this column, is the name of an action.
pub record IsTooMany (names : List (List ℕ)) (done : ℕ) (tokens : List Token) (column : ℕ) : Type 0 where
  pub full : done ≡ MOST_ACTIONS
  pub token : Token
  pub after : List Token
  pub parts : tokens ≡ token ∷ after
  pub name : Begin names (token ∷ [])
  pub column_is : column ≡ token.column

abbrev pub first_column : List Token → ℕ
first_column [] = 0
first_column (t ∷ ts) = t.column

-- rule 5 doesn't apply to the line
abbrev pub HasRoom : List (List ℕ) → ℕ → List ℕ → Type 0
HasRoom names done line = (column : ℕ) → IsTooMany names done (tokens 1 line) column → ⊥

-- the line means no action
abbrev pub SaysNoAction : List (List ℕ) → List ℕ → Type 0
SaysNoAction names line = (a : Action) → Says names (texts line) a → ⊥

-- the fault of a line after so many actions
pub data FaultIn (names : List (List ℕ)) (done : ℕ) (line : List ℕ) (rule column : ℕ) : Type 0 where
  -- rule 5, which is tested before the others
  too_many : IsTooMany names done (tokens 1 line) column → rule ≡ 5 → FaultIn names done line rule column
  -- rules 1 to 3: a token that doesn't fit, also one after a whole line
  unexpected : HasRoom names done line → IsUnexpected names (tokens 1 line) rule column → FaultIn names done line rule column
  -- rule 1: the line ends too early; the place is one past its bytes
  ends_early : HasRoom names done line → (next : Want) → Expects names (tokens 1 line) (Some next) →
      rule ≡ 1 → column ≡ length line + 1 → FaultIn names done line rule column
  -- rule 4: the line is whole and says no action; the place is its first token
  profile : HasRoom names done line → Expects names (tokens 1 line) None → SaysNoAction names line →
      rule ≡ 4 → column ≡ first_column (tokens 1 line) → FaultIn names done line rule column

-- The first fault of the bytes. The lines before it are valid and their list isn't too long. This line, counted from 1,
-- has the fault.
pub record FirstFault (names : List (List ℕ)) (bytes : List ℕ) (rule line column : ℕ) : Type 0 where
  pub before : List (List ℕ)
  pub here : List ℕ
  pub after : List (List ℕ)
  pub parts : lines bytes ≡ before ++ here ∷ after
  pub done : List Action
  pub few : length done ≤ MOST_ACTIONS
  pub says : LinesSay names before done
  pub some : IsPassed here → ⊥
  pub fault : FaultIn names (length done) here rule column
  pub line_is : line ≡ length before + 1

-- a lack of memory is no fault of the bytes
abbrev pub HasFirstFault : List (List ℕ) → List ℕ → Fault → Type 0
HasFirstFault names bytes (At rule line column) = FirstFault names bytes rule line column
HasFirstFault names bytes Memory = ⊥
