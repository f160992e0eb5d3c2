-- What the user asks for after `monitor`.
use Rattle.std.specs.Prelude.{◌≡◌, ◌<◌, ◌^◌, ℕ, List, true, false, ◌++◌, codes}
use Rattle.std.specs.Str.Parse.{IsNumeral, digits_value}
use Rattle.gdb_wire.specs.Requests.{Behind}
use Rattle.gdb_replies.specs.declared.command.Command.{Command}
use Rattle.gdb_replies.specs.declared.command.Command.TheVariants.{When, Goto, End, Line, Quiet, Help, Unknown}

-- decimal digits spell a number below 2 ^ 32
pub record IsDecimal (digits : List ℕ) (n : ℕ) : Type 0 where
  pub numeral : IsNumeral 10 digits
  pub value : n ≡ digits_value 10 digits
  pub small : n < 2 ^ 32

-- the text is this command
abbrev pub Spells : List ℕ → Command → Type 0
Spells text When = text ≡ codes "when"
Spells text (Goto n) = Behind text (codes "goto ") (λ digits. IsDecimal digits n)
Spells text End = text ≡ codes "end"
Spells text Line = text ≡ codes "line"
Spells text (Quiet true) = text ≡ codes "quiet on"
Spells text (Quiet false) = text ≡ codes "quiet off"
Spells text Help = text ≡ codes "help"
Spells text Unknown = ⊥

-- the text is this command, or none
abbrev pub IsCommand : List ℕ → Command → Type 0
IsCommand text Unknown = (command : Command) → Spells text command → ⊥
IsCommand text command = Spells text command

-- the answer to a text that is no command, and to `help`
abbrev pub hint : List ℕ
hint = codes "monitor when: the state that is shown; monitor goto N: show state N\n"

abbrev pub help : List ℕ
help =
    codes "monitor when: the state that is shown\n"
    ++ codes "monitor goto N: show state N\n"
    ++ codes "monitor end: show the last state of the run\n"
    ++ codes "monitor line: the state that is shown, as the line that reversal_cli writes of it\n"
    ++ codes "monitor quiet on, monitor quiet off: don't show, show what the program writes\n"
    ++ codes "monitor help: these lines\n"
