-- The kinds of operand of a command, a row each in the definitions below. They say how a value is spelled, when it is
-- allowed, its number's bounds, and which input it names. All that words, bounds and inputs say of a command follows
-- from its operands.
use Rattle.std.specs.Prelude.{◌≡◌, ◌≢◌, ℕ, ◌*◌, ◌<◌, ◌^◌, List, [], ◌∷◌, length, codes, decimal, Option, None, Some}
use Rattle.plan_types.specs.declared.limits.TheConstants.{MOST_STEPS}
use Rattle.hex.specs.Hex.{IsBytes, encode_lower}
use Rattle.line_texts.specs.Numbers.{address_word}
use Rattle.requests.specs.declared.bounds.Bounded.{Bounded}
use Rattle.requests.specs.declared.bounds.Limit.{Limit}
use Rattle.requests.specs.declared.input_kind.InputKind.{InputKind}
use Rattle.requests.specs.declared.input_kind.InputKind.TheVariants as input
use Rattle.requests.specs.declared.question.Question.{Question}
use Rattle.requests.specs.declared.question.Question.TheVariants.{State, LastWrite, LastChange}

-- an input by its kind and its name
pub record Input : Type 0 where
  pub kind : InputKind
  pub name : List ℕ

-- the schedule of a run: the one under a name, or Revolve's list, made during the call
pub data Schedule : Type 0 where
  by_name : List ℕ → Schedule
  made : Schedule

-- An operand with its value. A new kind is a case here, and a row in each of the definitions below.
pub data Operand : Type 0 where
  -- a word of the command itself
  the_word : List ℕ → Operand
  -- the names of a program, of optional recorded input, of a book, of a schedule, and of a certificate
  a_program : List ℕ → Operand
  a_journal : Option (List ℕ) → Operand
  a_book : List ℕ → Operand
  a_schedule : Schedule → Operand
  a_certificate : List ℕ → Operand
  -- a number of steps of a run that a list goes over, each of them a unit of instructions
  run_steps : ℕ → Operand
  -- a number within limits
  a_number : Limit → ℕ → Operand
  -- the question about a run of so many steps: a state's number, or a word's address
  a_question : ℕ → Question → Operand
  -- a digest of 32 bytes
  a_digest : List ℕ → Operand
  -- the name of a source of instructions, and of a program of raw words to be listed
  a_source : List ℕ → Operand
  some_words : List ℕ → Operand
  -- the name of a script of orders to a console
  a_script : List ℕ → Operand

-- ---- spelling

-- the word of an optional name
abbrev pub word_or_dash : Option (List ℕ) → List ℕ
word_or_dash (Some name) = name
word_or_dash None = codes "-"

-- the word of a schedule
abbrev pub schedule_word : Schedule → List ℕ
schedule_word (by_name name) = name
schedule_word made = codes "@revolve"

-- the number of a state is decimal; an address is `0x` and eight lower-case hexadecimal digits
abbrev pub question_number : Question → List ℕ
question_number (State place) = decimal place
question_number (LastWrite address) = address_word address
question_number (LastChange address) = address_word address

-- so are other numbers; a digest is 64 lower-case hexadecimal digits, the high one of each byte first
abbrev pub word_of : Operand → List ℕ
word_of (the_word text) = text
word_of (a_program name) = name
word_of (a_journal name) = word_or_dash name
word_of (a_book name) = name
word_of (a_schedule schedule) = schedule_word schedule
word_of (a_certificate name) = name
word_of (run_steps n) = decimal n
word_of (a_number limit n) = decimal n
word_of (a_question steps question) = question_number question
word_of (a_digest bytes) = encode_lower bytes
word_of (a_source name) = name
word_of (some_words name) = name
word_of (a_script name) = name

-- ---- allowed values

-- A name is any word that isn't empty. The name of a schedule isn't the word @revolve, which has a meaning of its own.
abbrev pub IsName : List ℕ → Type 0
IsName word = word ≢ []

abbrev pub IsScheduleName : List ℕ → Type 0
IsScheduleName word = IsName word × (word ≢ codes "@revolve")

abbrev pub CanBeGiven : Schedule → Type 0
CanBeGiven (by_name name) = IsScheduleName name
CanBeGiven made = Unit {0}

-- an optional name isn't the word for none
abbrev pub MayBeNamed : Option (List ℕ) → Type 0
MayBeNamed (Some name) = IsName name × (name ≢ codes "-")
MayBeNamed None = Unit {0}

-- A number is below 2 ^ 64. Its spelling has neither a sign nor a leading zero.
abbrev pub IsNumber : ℕ → Type 0
IsNumber n = n < 2 ^ 64

-- an address has 32 bits
abbrev pub IsAddress : ℕ → Type 0
IsAddress address = address < 2 ^ 32

abbrev pub IsQuestion : Question → Type 0
IsQuestion (State place) = IsNumber place
IsQuestion (LastWrite address) = IsAddress address
IsQuestion (LastChange address) = IsAddress address

-- the bytes of a digest are 32
abbrev pub IsDigest : List ℕ → Type 0
IsDigest bytes = (length bytes ≡ 32) × IsBytes bytes

abbrev pub CanStand : Operand → Type 0
CanStand (the_word text) = Unit {0}
CanStand (a_program name) = IsName name
CanStand (a_journal name) = MayBeNamed name
CanStand (a_book name) = IsName name
CanStand (a_schedule schedule) = CanBeGiven schedule
CanStand (a_certificate name) = IsName name
CanStand (run_steps n) = IsNumber n
CanStand (a_number limit n) = IsNumber n
CanStand (a_question steps question) = IsQuestion question
CanStand (a_digest bytes) = IsDigest bytes
CanStand (a_source name) = IsName name
CanStand (some_words name) = IsName name
CanStand (a_script name) = IsName name

-- ---- bounds

-- a number and its limits
abbrev pub within : Limit → ℕ → Bounded
within limit n = record { number = n; least = limit.least; greatest = limit.greatest; rule = limit.rule }

-- rule 1: a number of steps
abbrev pub steps_limit : Limit
steps_limit = record { least = 0; greatest = MOST_STEPS; rule = 1 }

-- rule 13: the instructions of a run that a list goes over
abbrev pub instructions_limit : Limit
instructions_limit = record { least = 0; greatest = MOST_STEPS; rule = 13 }

-- rule 6: a state is one of the run, up to this last one
abbrev pub place_limit : ℕ → Limit
place_limit last = record { least = 0; greatest = last; rule = 6 }

-- rule 7: an address must have three more after it
abbrev pub address_limit : Limit
address_limit = record { least = 0; greatest = 4294967292; rule = 7 }

abbrev pub question_bound : ℕ → Question → Bounded
question_bound last (State place) = within (place_limit last) place
question_bound last (LastWrite address) = within address_limit address
question_bound last (LastChange address) = within address_limit address

-- a step of a schedule is a unit of so many instructions
abbrev pub bounds_of : (unit : ℕ) → Operand → List Bounded
bounds_of unit (the_word text) = []
bounds_of unit (a_program name) = []
bounds_of unit (a_journal name) = []
bounds_of unit (a_book name) = []
bounds_of unit (a_schedule schedule) = []
bounds_of unit (a_certificate name) = []
bounds_of unit (run_steps n) = within steps_limit n ∷ []
bounds_of unit (a_number limit n) = within limit n ∷ []
bounds_of unit (a_question steps question) = question_bound (unit * steps) question ∷ []
bounds_of unit (a_digest bytes) = []
bounds_of unit (a_source name) = []
bounds_of unit (some_words name) = []
bounds_of unit (a_script name) = []

-- the product of a number and the unit, if it has its own bounds
abbrev pub products_of : (unit : ℕ) → Operand → List Bounded
products_of unit (run_steps n) = within instructions_limit (unit * n) ∷ []
products_of unit _ = []

-- ---- inputs

-- how many bytes an input of each kind may have
abbrev pub limit_of : InputKind → ℕ
limit_of input.Program = 33554432
limit_of input.Journal = 67108864
limit_of input.Book = 65536
limit_of input.Schedule = 536870912
limit_of input.Certificate = 536870912
limit_of input.Source = 67108864
limit_of input.Words = 4194304
limit_of input.Script = 1048576

abbrev pub named : InputKind → List ℕ → Input
named kind name = record { kind = kind; name = name }

-- without a name for recorded input none is read
abbrev pub journal_inputs : Option (List ℕ) → List Input
journal_inputs None = []
journal_inputs (Some name) = named input.Journal name ∷ []

-- a schedule that is made isn't read
abbrev pub schedule_inputs : Schedule → List Input
schedule_inputs (by_name name) = named input.Schedule name ∷ []
schedule_inputs made = []

abbrev pub inputs_named : Operand → List Input
inputs_named (the_word text) = []
inputs_named (a_program name) = named input.Program name ∷ []
inputs_named (a_journal name) = journal_inputs name
inputs_named (a_book name) = named input.Book name ∷ []
inputs_named (a_schedule schedule) = schedule_inputs schedule
inputs_named (a_certificate name) = named input.Certificate name ∷ []
inputs_named (run_steps n) = []
inputs_named (a_number limit n) = []
inputs_named (a_question steps question) = []
inputs_named (a_digest bytes) = []
inputs_named (a_source name) = named input.Source name ∷ []
inputs_named (some_words name) = named input.Words name ∷ []
inputs_named (a_script name) = named input.Script name ∷ []
