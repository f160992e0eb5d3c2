-- What bytes mean, and how many tables begin: a book, a program with its recorded input, a schedule.
use Rattle.std.specs.Prelude.{◌≡◌, ℕ, List, Option, None, Some}
use Rattle.plan_types.specs.declared.action.Action.{Action}
use Rattle.level_book.specs.declared.book.Slots.{Slots}
use Rattle.level_book.specs.declared.fault.BookFault.{BookFault}
use Rattle.level_book.specs.BookCosts.{BookCosts, slots_of, names_of}
use Rattle.level_book.specs.BookFaults.{IsBookText, IsRefused}
use Rattle.action_text.specs.ScheduleText.{IsSchedule}
use Rattle.action_text.specs.Faults.{HasFirstFault}
use Rattle.revolve_gen.specs.RevolveList.{revolve_list}
-- the start state of a program, the items of the recorded input, and the first faults of other bytes
pub use Rattle.elf_load.specs.Start.{IsStartOf, HasProgramFault}
pub use Rattle.input_journal.specs.RecordedInput.{AreItemsOf, HasJournalFault}
use Rattle.rv_machine.specs.MachineState.{MachineState}
use Rattle.requests.specs.Operands.{Schedule, by_name, made}
use Rattle.requests.specs.Loaded.{Loaded}
use Rattle.requests.specs.Request.{Choice, says_raw, stack_pages, unit_count}
use Rattle.endings.specs.Outcomes.{bad_program, bad_journal, bad_book, bad_text}
use Rattle.reversal.specs.Job.{Run, Job}
use Rattle.reversal.specs.Table.{Decision, Table, does, plans, Decided, reads, judges, keeps}

-- ---- what bytes mean, and the faults of other bytes

-- a lack of memory is no fault of the bytes
abbrev pub HasBookFault : List ℕ → BookFault → Type 0
HasBookFault bytes fault = IsRefused bytes fault × (fault ≡ BookFault.Memory → ⊥)

-- ---- fronts of tables

-- the first lines of many tables: a book, and a valid schedule for it
abbrev pub over_book : List ℕ → (BookCosts → Table) → Table
over_book book below = reads (IsBookText book) (HasBookFault book) bad_book below

abbrev pub over_schedule : BookCosts → List ℕ → (List Action → Table) → Table
over_schedule b schedule below = reads (IsSchedule (names_of b) schedule) (HasFirstFault (names_of b) schedule) bad_text below

abbrev pub over_valid : ℕ → List ℕ → List ℕ → (BookCosts → List Action → Table) → Table
over_valid steps book schedule below = over_book book (λ (b : BookCosts). over_schedule b schedule (λ list. judges steps (slots_of b) list (below b list)))

-- a program, and its recorded input
abbrev pub over_program : List Choice → List ℕ → Option (List ℕ) → (MachineState → List (List ℕ) → Table) → Table
over_program options program journal below =
    reads (IsStartOf (says_raw options) (stack_pages options) program) (HasProgramFault (says_raw options) (stack_pages options) program) bad_program (λ start.
    reads (AreItemsOf journal) (HasJournalFault journal) bad_journal (λ items. below start items))

-- ---- a list over a run

-- a run by a list whose steps are units of so many instructions
abbrev pub in_units : (unit : ℕ) → MachineState → List (List ℕ) → (steps : ℕ) → List Slots → List Action → Run
in_units unit start items steps slots list = record { first = start; journal = items; unit = unit; steps = steps; slots = slots; list = list }

-- The list of a run is that of a schedule's text. Without a text it is Revolve's list for the book, if there is one.
-- That is decided before the program is read.
abbrev pub plans_made : ℕ → BookCosts → Option (List ℕ) → Table → Table
plans_made steps b None below = plans steps b below
plans_made steps b (Some schedule) below = below

abbrev pub over_list : ℕ → BookCosts → Option (List ℕ) → (List Action → Table) → Table
over_list steps b None below = below (revolve_list steps b)
over_list steps b (Some schedule) below = over_schedule b schedule (λ list. judges steps (slots_of b) list (below list))

-- what is done over a run by a list, by the bytes of its inputs and the keepers' slots
abbrev pub over_run : (Run → Job) → List Choice → ℕ → List ℕ → Option (List ℕ) → List ℕ → Option (List ℕ) → List ℕ → Table
over_run job options steps program journal book schedule counts =
    over_book book (λ (b : BookCosts).
    keeps steps (slots_of b) counts (
    plans_made steps b schedule (
    over_program options program journal (λ start items.
    over_list steps b schedule (λ list.
    does (job (in_units (unit_count options) start items steps (slots_of b) list)))))))

abbrev pub DecidesOver : (Run → Job) → List Choice → ℕ → List ℕ → Option (List ℕ) → List ℕ → Option (List ℕ) → List ℕ → Decision → Type 0
DecidesOver job options steps program journal book schedule counts d = Decided (over_run job options steps program journal book schedule counts) d

-- the text of a schedule that is read
abbrev pub schedule_text : Schedule → Loaded → Option (List ℕ)
schedule_text (by_name name) l = Some l.schedule
schedule_text made l = None

-- what is done over a run, by what was read for it
abbrev pub over_loaded : (Run → Job) → List Choice → Schedule → ℕ → Loaded → List ℕ → Table
over_loaded job options schedule steps l counts = over_run job options steps l.program l.journal l.book (schedule_text schedule l) counts
