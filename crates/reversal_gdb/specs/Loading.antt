-- The timeline that a session begins with, and why there is none.
use Rattle.std.specs.Prelude.{◌≡◌, ◌⊎◌, ℕ, ◌+◌, ◌*◌, min, List, length, Option, None, Some}
use Rattle.std.specs.Option.{option_map}
use Rattle.keepers.specs.Counts.{Rose}
use Rattle.keepers.specs.Claims.{Files}
use Rattle.keepers.specs.declared.inputs.Inputs.{Ghosts}
use Rattle.rv_pages.specs.Memory.{page_numbers}
use Rattle.input_journal.specs.declared.fault.JournalFault.{JournalFault}
use Rattle.input_journal.specs.RecordedInput.{AreItemsOf, HasJournalFault}
use Rattle.elf_load.specs.declared.fault.ElfFault.{ElfFault}
use Rattle.elf_load.specs.Start.{IsStartOf, HasProgramFault}
use Rattle.run_timeline.specs.declared.timeline.TheConstants.{MARK_PAGE_BYTES, MARK_REST_BYTES}
use Rattle.run_timeline.specs.TimelineState.{TimelineState, marks_for}
use Rattle.endings.specs.declared.outcome.Outcome.{Outcome}
use Rattle.requests.specs.declared.input_kind.InputKind.TheVariants as input
use Rattle.requests.specs.Operands.{limit_of, named}
use Rattle.requests.specs.InputOutcome.{IsThere, IsLonger}
use Rattle.endings.specs.Outcomes.{bad_program, bad_journal, no_memory, too_long, unreadable}
use Rattle.reversal_gdb.specs.declared.words.Run.{Run}

-- the bytes of the program, and of the journal if the run has one
abbrev pub IsProgramText : Option Files → Run → List ℕ → Type 0
IsProgramText told run = IsThere told (named input.Program run.program.now)

abbrev pub IsJournalText : Option Files → Option (List ℕ) → Option (List ℕ) → Type 0
IsJournalText told None None = Unit {0}
IsJournalText told None (Some bytes) = ⊥
IsJournalText told (Some name) None = ⊥
IsJournalText told (Some name) (Some bytes) = IsThere told (named input.Journal name) bytes

abbrev pub journal_name : Run → Option (List ℕ)
journal_name run = option_map (λ name. name.now) run.journal

-- the bytes for so many states of so many pages each, at most 1 GiB
abbrev pub budget_for : (marks pages : ℕ) → ℕ
budget_for marks pages = min (marks * (pages * MARK_PAGE_BYTES + MARK_REST_BYTES)) 1073741824

-- A timeline stands at the start of the run of a program, with its recorded input and its bound of steps.
pub record IsLoaded (run : Run) (told : Option Files) (t : TimelineState) : Type 0 where
  pub program : List ℕ
  pub journal : Option (List ℕ)
  pub is_program : IsProgramText told run program
  pub is_journal : IsJournalText told (journal_name run) journal
  pub start : IsStartOf run.options.raw run.options.stack program t.run.first
  pub items : AreItemsOf journal t.run.journal
  pub most : t.run.most ≡ run.options.most
  pub place : (t.place ≡ 0) × (t.reached ≡ 0)
  pub room : t.room ≡ marks_for (budget_for run.options.marks (length (page_numbers t.run.first.memory))) (length (page_numbers t.run.first.memory))

-- the first input is the program, the second the journal
abbrev pub IsUnread : {I : Type 0} (seen : Ghosts I) → Run → I → I → Outcome → Type 0
IsUnread seen run old new e =
    (((e ≡ unreadable 1) ⊎ (e ≡ unreadable 2)) × Rose (seen.fault_count old) (seen.fault_count new))
    ⊎ ((e ≡ too_long 1 (limit_of input.Program)) × IsLonger (seen.told old) (named input.Program run.program.now))
    ⊎ ((name : List ℕ) × (journal_name run ≡ Some name) × (e ≡ too_long 2 (limit_of input.Journal)) × IsLonger (seen.told old) (named input.Journal name))

-- Why a run isn't loaded: memory ran out, an input can't be read or is too long, or the program or the journal has this
-- first fault.
abbrev pub IsUnloaded : {I : Type 0} (seen : Ghosts I) → Run → I → I → Outcome → Type 0
IsUnloaded seen run old new e =
    (e ≡ no_memory)
    ⊎ IsUnread seen run old new e
    ⊎ ((bytes : List ℕ) × (fault : ElfFault) × IsProgramText (seen.told old) run bytes
    × HasProgramFault run.options.raw run.options.stack bytes fault × (e ≡ bad_program fault))
    ⊎ ((bytes : Option (List ℕ)) × (fault : JournalFault) × IsJournalText (seen.told old) (journal_name run) bytes
    × HasJournalFault bytes fault × (e ≡ bad_journal fault))
