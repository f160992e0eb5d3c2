-- What a command line asks for, over clap's meaning of a command's words.
use Rattle.std.specs.Prelude.{◌≡◌, ◌⊎◌, true, List, [], codes, Option, None, Some}
use Rattle.std.specs.Option.{option_map}
use Rattle.clap.specs.Words.{App, Rule, Row, Text, IsAmong, fault_of, first_of, one_of, matches_of, new_app, new_rule, with_rule}
use Rattle.clap.specs.declared.builder.action.ArgAction.TheVariants.{SetTrue}
use Rattle.clap.specs.declared.error.kind.ErrorKind.{ErrorKind}
use Rattle.clap.specs.declared.error.kind.ErrorKind.TheVariants.{DisplayHelp}
use Rattle.reversal_gdb.specs.OptionValues.{IsFlagOf, IsNumberOf}
use Rattle.reversal_gdb.specs.declared.options.Options.{Options}
use Rattle.reversal_gdb.specs.declared.words.Run.{Run}
use Rattle.reversal_gdb.specs.declared.words.Asked.{Asked}
use Rattle.reversal_gdb.specs.declared.words.Asked.TheVariants as asked

-- ---- the command, as clap has it

abbrev pub flag : Text → Rule
flag name = record (new_rule name) { long = Some name; action = Some SetTrue }

abbrev pub option : Text → Rule
option name = record (new_rule name) { long = Some name }

abbrev pub program : Rule
program = record (new_rule (codes "program")) { required = true }

-- reversal_gdb [--raw] [--stack=P] [--most=N] [--marks=M] PROGRAM [JOURNAL]
abbrev pub command : App
command =
    with_rule (with_rule (with_rule (with_rule (with_rule (with_rule (new_app (codes "reversal_gdb"))
    (flag (codes "raw"))) (option (codes "stack"))) (option (codes "most"))) (option (codes "marks")))
    program) (new_rule (codes "journal"))

-- ---- options

-- A stack has 1 to 1,024 pages, 16 if no option says how many. A run has at most 2 ^ 32 - 2 steps, or as many as an
-- option says. From 2 to 65,536 states are kept, 256 if no option says how many.
pub record AreOptions (rows : List Row) (o : Options) : Type 0 where
  pub raw : IsFlagOf (one_of (codes "raw") rows) o.raw
  pub stack : IsNumberOf (first_of (codes "stack") rows) 16 1 1024 o.stack
  pub most : IsNumberOf (first_of (codes "most") rows) 4294967294 1 4294967294 o.most
  pub marks : IsNumberOf (first_of (codes "marks") rows) 256 2 65536 o.marks

-- ---- the words

-- a lone minus sign names no journal
abbrev pub IsJournalName : Option Text → Option Text → Type 0
IsJournalName None name = name ≡ None
IsJournalName (Some text) None = text ≡ codes "-"
IsJournalName (Some text) (Some name) = (text ≡ name) × (name ≡ codes "-" → ⊥)

-- the run that the values of options and operands name
pub record Names (rows : List Row) (r : Run) : Type 0 where
  pub options : AreOptions rows r.options
  pub program : first_of (codes "program") rows ≡ Some r.program.now
  pub journal : IsJournalName (first_of (codes "journal") rows) (option_map (λ name. name.now) r.journal)

-- clap refuses the words by this kind of error
abbrev pub IsRefused : List Text → ErrorKind → Type 0
IsRefused words kind = IsAmong kind (fault_of command words)

-- What the words ask for, of which the first is the program's own name. They ask for nothing if clap refuses them, or if
-- a number is out of its bounds.
abbrev pub AskFor : List Text → Asked → Type 0
AskFor words asked.Help = IsRefused words DisplayHelp
AskFor words (asked.Session run) = (fault_of command words ≡ []) × Names (matches_of command words) run
AskFor words asked.Nothing =
    ((kind : ErrorKind) × IsRefused words kind × (kind ≡ DisplayHelp → ⊥))
    ⊎ ((fault_of command words ≡ []) × ((run : Run) → Names (matches_of command words) run → ⊥))
