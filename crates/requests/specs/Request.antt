-- What the words of a command line ask for: a request, which is a value, and its only spelling. A request has options,
-- in the order of the words, and a command after them:
--     run PROGRAM JOURNAL BOOK SCHEDULE|@revolve N
--     plan revolve BOOK N
--     plan multistage BOOK N
--     plan disk BOOK N
--     plan hrevolve BOOK N
--     plan periodic BOOK N PERIOD
--     check BOOK SCHEDULE N
--     certify BOOK SCHEDULE CERTIFICATE N
--     cost BOOK SCHEDULE N
--     ask state PROGRAM JOURNAL BOOK SCHEDULE N PLACE
--     ask last-write PROGRAM JOURNAL BOOK SCHEDULE N ADDRESS
--     ask last-change PROGRAM JOURNAL BOOK SCHEDULE N ADDRESS
--     ask find PROGRAM JOURNAL N DIGEST
--     asm SOURCE
--     disasm PROGRAM
--     console PROGRAM JOURNAL BOOK SCRIPT N
--     demo NUMBER N SLOTS
use Rattle.std.specs.Prelude.{◌≡◌, ℕ, ◌≤◌, ◌==◌, Bool, true, false, List, [], ◌∷◌, ◌++◌, codes, decimal, map, count_by, Option}
use Rattle.std.specs.List.{AllByRecursion, list_any}
use Rattle.plan_types.specs.declared.limits.TheConstants.{MOST_SLOTS, MOST_STEPS}
use Rattle.requests.specs.declared.words.Words.{Words}
use Rattle.requests.specs.declared.kind.PlanKind.{PlanKind}
use Rattle.requests.specs.declared.kind.PlanKind.TheVariants.{Revolve, Multistage, Disk, Hrevolve}
use Rattle.requests.specs.declared.question.Question.{Question}
use Rattle.requests.specs.declared.question.Question.TheVariants.{State, LastWrite, LastChange}
use Rattle.requests.specs.declared.bounds.Limit.{Limit}
pub use Rattle.requests.specs.Operands.{steps_limit}
use Rattle.requests.specs.Operands.{Schedule, by_name, Operand, the_word, a_program, a_journal, a_book, a_schedule, a_certificate, run_steps, a_number, a_question, a_digest, a_source, some_words, a_script, word_of, IsName, IsNumber, CanStand}

-- ---- options

-- The options. The program is raw words. The stack has so many pages. So many workers share the work. A step of a
-- schedule is so many instructions. A level's images are kept in files of a folder. A new option is a case here and in
-- each definition by cases on options.
pub data Choice : Type 0 where
  raw : Choice
  stack : (pages : ℕ) → Choice
  workers : (count : ℕ) → Choice
  units : (count : ℕ) → Choice
  files : (level : ℕ) → (folder : List ℕ) → Choice

-- the text before the name of the folder
abbrev pub files_front : ℕ → List ℕ
files_front level = codes "--files=" ++ decimal level ++ codes ":"

abbrev pub option_word : Choice → List ℕ
option_word raw = codes "--raw"
option_word (stack pages) = codes "--stack=" ++ decimal pages
option_word (workers count) = codes "--workers=" ++ decimal count
option_word (units count) = codes "--unit=" ++ decimal count
option_word (files level folder) = files_front level ++ folder

abbrev pub is_raw : Choice → Bool
is_raw raw = true
is_raw (stack pages) = false
is_raw (workers count) = false
is_raw (units count) = false
is_raw (files level folder) = false

abbrev pub is_stack : Choice → Bool
is_stack raw = false
is_stack (stack pages) = true
is_stack (workers count) = false
is_stack (units count) = false
is_stack (files level folder) = false

abbrev pub is_workers : Choice → Bool
is_workers raw = false
is_workers (stack pages) = false
is_workers (workers count) = true
is_workers (units count) = false
is_workers (files level folder) = false

abbrev pub is_units : Choice → Bool
is_units raw = false
is_units (stack pages) = false
is_units (workers count) = false
is_units (units count) = true
is_units (files level folder) = false

-- whether it is the option of this level's files
abbrev pub is_files : ℕ → Choice → Bool
is_files level raw = false
is_files level (stack pages) = false
is_files level (workers count) = false
is_files level (units count) = false
is_files level (files k folder) = level == k

-- ---- commands

-- A run that a list goes over: the names of the inputs, and the number of steps. Without a name there is no recorded
-- input.
pub record Run : Type 0 where
  pub program : List ℕ
  pub journal : Option (List ℕ)
  pub book : List ℕ
  pub steps : ℕ

-- to run a program backward by a schedule
pub record RunBackward : Type 0 where
  pub run : Run
  pub schedule : Schedule

-- to write a list of this kind for a book and so many steps, and its certificate, if any
pub record PlanFor : Type 0 where
  pub kind : PlanKind
  pub book : List ℕ
  pub steps : ℕ

-- to write the periodic list for a book and a number of steps, with a period
pub record PlanPeriodic : Type 0 where
  pub book : List ℕ
  pub steps : ℕ
  pub period : ℕ

-- a schedule for a book and a number of steps: to judge it, or to print what it costs
pub record ScheduleFor : Type 0 where
  pub book : List ℕ
  pub schedule : List ℕ
  pub steps : ℕ

-- to show by a certificate that a schedule is the least: of all valid lists, or of its class
pub record Certify : Type 0 where
  pub book : List ℕ
  pub schedule : List ℕ
  pub certificate : List ℕ
  pub steps : ℕ

-- to ask something of a run, by the schedule under a name
pub record Ask : Type 0 where
  pub question : Question
  pub run : Run
  pub schedule : List ℕ

-- to find the last state of a run that has a digest, without a schedule
pub record Find : Type 0 where
  pub program : List ℕ
  pub journal : Option (List ℕ)
  pub steps : ℕ
  pub digest : List ℕ

-- to write the instruction words that a source means
pub record Asm : Type 0 where
  pub source : List ℕ

-- to write the line of each word of a raw program
pub record Disasm : Type 0 where
  pub program : List ℕ

-- to move about in a run of so many instructions by the orders of a script
pub record Console : Type 0 where
  pub program : List ℕ
  pub journal : Option (List ℕ)
  pub book : List ℕ
  pub script : List ℕ
  pub steps : ℕ

-- to run a program made from a number backward, by Revolve's list with so many slots of memory
pub record Demo : Type 0 where
  pub number : ℕ
  pub steps : ℕ
  pub slots : ℕ

-- A new command is a case here, and a row in `operands`.
pub data Command : Type 0 where
  run : RunBackward → Command
  plan : PlanFor → Command
  plan_periodic : PlanPeriodic → Command
  check : ScheduleFor → Command
  certify : Certify → Command
  cost : ScheduleFor → Command
  ask : Ask → Command
  find : Find → Command
  asm : Asm → Command
  disasm : Disasm → Command
  console : Console → Command
  demo : Demo → Command

-- the word of a kind of plans
abbrev pub kind_word : PlanKind → List ℕ
kind_word Revolve = codes "revolve"
kind_word Multistage = codes "multistage"
kind_word Disk = codes "disk"
kind_word Hrevolve = codes "hrevolve"

-- the word of a question
abbrev pub question_word : Question → List ℕ
question_word (State place) = codes "state"
question_word (LastWrite address) = codes "last-write"
question_word (LastChange address) = codes "last-change"

-- The limits of numbers. Rule 1 is the number of steps, 2 a period, and 10 a number of slots. Rule 11 is the number
-- that a program is made from, which has 32 bits.

-- plans over costs are read from tables, which are kept small
abbrev pub plan_limit : PlanKind → Limit
plan_limit Revolve = steps_limit
plan_limit Multistage = steps_limit
plan_limit Disk = record { least = 0; greatest = 8192; rule = 1 }
plan_limit Hrevolve = record { least = 0; greatest = 2048; rule = 1 }

abbrev pub period_limit : Limit
period_limit = record { least = 1; greatest = MOST_STEPS; rule = 2 }

abbrev pub slots_limit : Limit
slots_limit = record { least = 0; greatest = MOST_SLOTS; rule = 10 }

abbrev pub seed_limit : Limit
seed_limit = record { least = 0; greatest = 4294967295; rule = 11 }

-- the rows: the words and operands of each command, in their order
abbrev pub operands : Command → List Operand
operands (run c) =
    the_word (codes "run") ∷ a_program c.run.program ∷ a_journal c.run.journal ∷ a_book c.run.book ∷ a_schedule c.schedule
    ∷ run_steps c.run.steps ∷ []
operands (plan c) = the_word (codes "plan") ∷ the_word (kind_word c.kind) ∷ a_book c.book ∷ a_number (plan_limit c.kind) c.steps ∷ []
operands (plan_periodic c) =
    the_word (codes "plan") ∷ the_word (codes "periodic") ∷ a_book c.book ∷ a_number steps_limit c.steps ∷ a_number period_limit c.period ∷ []
operands (check c) = the_word (codes "check") ∷ a_book c.book ∷ a_schedule (by_name c.schedule) ∷ a_number steps_limit c.steps ∷ []
operands (certify c) =
    the_word (codes "certify") ∷ a_book c.book ∷ a_schedule (by_name c.schedule) ∷ a_certificate c.certificate ∷ a_number steps_limit c.steps ∷ []
operands (cost c) = the_word (codes "cost") ∷ a_book c.book ∷ a_schedule (by_name c.schedule) ∷ a_number steps_limit c.steps ∷ []
operands (ask c) =
    the_word (codes "ask") ∷ the_word (question_word c.question) ∷ a_program c.run.program ∷ a_journal c.run.journal ∷ a_book c.run.book
    ∷ a_schedule (by_name c.schedule) ∷ run_steps c.run.steps ∷ a_question c.run.steps c.question ∷ []
operands (find c) =
    the_word (codes "ask") ∷ the_word (codes "find") ∷ a_program c.program ∷ a_journal c.journal ∷ a_number steps_limit c.steps
    ∷ a_digest c.digest ∷ []
operands (asm c) = the_word (codes "asm") ∷ a_source c.source ∷ []
operands (disasm c) = the_word (codes "disasm") ∷ some_words c.program ∷ []
operands (console c) =
    the_word (codes "console") ∷ a_program c.program ∷ a_journal c.journal ∷ a_book c.book ∷ a_script c.script
    ∷ a_number steps_limit c.steps ∷ []
operands (demo c) = the_word (codes "demo") ∷ a_number seed_limit c.number ∷ a_number steps_limit c.steps ∷ a_number slots_limit c.slots ∷ []

abbrev pub command_words : Command → List (List ℕ)
command_words c = map word_of (operands c)

-- the names and numbers of a command are allowed among its words
abbrev pub CanBeSpelled : Command → Type 0
CanBeSpelled c = AllByRecursion CanStand (operands c)

-- ---- requests

pub record Request : Type 0 where
  pub options : List Choice
  pub command : Command

-- the words of a request
abbrev pub spelling : Request → List (List ℕ)
spelling r = map option_word r.options ++ command_words r.command

-- an option's number, and its folder's name, are allowed in its word
abbrev pub FitsWord : Choice → Type 0
FitsWord raw = Unit {0}
FitsWord (stack pages) = IsNumber pages
FitsWord (workers count) = IsNumber count
FitsWord (units count) = IsNumber count
FitsWord (files level folder) = IsNumber level × IsName folder

-- each option occurs at most once, and that of files once for each level
pub record AreOptions (options : List Choice) : Type 0 where
  pub one_raw : count_by is_raw options ≤ 1
  pub one_stack : count_by is_stack options ≤ 1
  pub one_workers : count_by is_workers options ≤ 1
  pub one_units : count_by is_units options ≤ 1
  pub one_folder : (level : ℕ) → count_by (is_files level) options ≤ 1
  pub fit : AllByRecursion FitsWord options

-- the words mean this request
pub record Says (words : List (List ℕ)) (r : Request) : Type 0 where
  pub spelled : words ≡ spelling r
  pub options : AreOptions r.options
  pub allowed : CanBeSpelled r.command

-- the words as lists of bytes
abbrev pub words_of : Words → List (List ℕ)
words_of w = map (λ word. word.items) w.list.items

-- ---- the meaning of options

-- whether the program is raw words
abbrev pub says_raw : List Choice → Bool
says_raw options = list_any is_raw options

-- the number of the stack's pages: 16 by default
abbrev pub stack_pages : List Choice → ℕ
stack_pages [] = 16
stack_pages (raw ∷ options) = stack_pages options
stack_pages (stack pages ∷ options) = pages
stack_pages (workers count ∷ options) = stack_pages options
stack_pages (units count ∷ options) = stack_pages options
stack_pages (files level folder ∷ options) = stack_pages options

-- the number of workers: one by default
abbrev pub worker_count : List Choice → ℕ
worker_count [] = 1
worker_count (raw ∷ options) = worker_count options
worker_count (stack pages ∷ options) = worker_count options
worker_count (workers count ∷ options) = count
worker_count (units count ∷ options) = worker_count options
worker_count (files level folder ∷ options) = worker_count options

-- the number of instructions in a step of a schedule: one by default
abbrev pub unit_count : List Choice → ℕ
unit_count [] = 1
unit_count (raw ∷ options) = unit_count options
unit_count (stack pages ∷ options) = unit_count options
unit_count (workers count ∷ options) = unit_count options
unit_count (units count ∷ options) = count
unit_count (files level folder ∷ options) = unit_count options
