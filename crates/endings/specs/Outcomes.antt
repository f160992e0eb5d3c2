-- The outcomes of a call, as contracts name them. Each is a variant of `Outcome`; faults that are the lack of memory
-- are the outcome of that.
use Rattle.std.specs.Prelude.{ℕ, List}
use Rattle.level_book.specs.declared.fault.BookFault.{BookFault}
use Rattle.level_book.specs.declared.fault.BookFault.TheVariants as book
use Rattle.line_texts.specs.declared.fault.Fault.{Fault}
use Rattle.line_texts.specs.declared.fault.Fault.TheVariants as text
use Rattle.input_journal.specs.declared.fault.JournalFault.{JournalFault}
use Rattle.input_journal.specs.declared.fault.JournalFault.TheVariants as journal
use Rattle.elf_load.specs.declared.fault.ElfFault.{ElfFault}
use Rattle.elf_load.specs.declared.fault.ElfFault.TheVariants as program
use Rattle.bound_cert.specs.declared.verdict.Reason.{Reason}
use Rattle.endings.specs.declared.outcome.Outcome.{Outcome}
use Rattle.endings.specs.declared.outcome.Outcome.TheVariants as outcome

-- the job was done
abbrev pub done : Outcome
done = outcome.Done

-- the words mean no request
abbrev pub no_request : Outcome
no_request = outcome.Words

-- the input with this number can't be read
abbrev pub unreadable : ℕ → Outcome
unreadable place = outcome.Input place

-- memory ran out
abbrev pub no_memory : Outcome
no_memory = outcome.Memory

-- the bytes are no program, for this fault
abbrev pub bad_program : ElfFault → Outcome
bad_program program.Memory = no_memory
bad_program fault = outcome.Program fault

-- the bytes of the recorded input are no journal
abbrev pub bad_journal : JournalFault → Outcome
bad_journal journal.Memory = no_memory
bad_journal fault = outcome.Journal fault

-- the bytes are no book
abbrev pub bad_book : BookFault → Outcome
bad_book book.Memory = no_memory
bad_book fault = outcome.Book fault

-- the bytes are no schedule
abbrev pub bad_text : Fault → Outcome
bad_text text.Memory = no_memory
bad_text fault = outcome.Text fault

-- the list is first broken at this place, by this rule; the level is that of rule 4
abbrev pub invalid : ℕ → ℕ → ℕ → Outcome
invalid place level rule = outcome.Invalid place level rule

-- the bytes are no certificate
abbrev pub bad_certificate : Fault → Outcome
bad_certificate text.Memory = no_memory
bad_certificate fault = outcome.Certificate fault

-- the bytes are no source
abbrev pub bad_source : Fault → Outcome
bad_source text.Memory = no_memory
bad_source fault = outcome.Source fault

-- the bytes are no script
abbrev pub bad_script : Fault → Outcome
bad_script text.Memory = no_memory
bad_script fault = outcome.Script fault

-- a number is out of range; it has the bound that was passed, and the bound's rule
abbrev pub out_of_range : ℕ → ℕ → ℕ → Outcome
out_of_range number bound rule = outcome.Limit number bound rule

-- the input with this number is longer than its limit: rule 8
abbrev pub too_long : ℕ → ℕ → Outcome
too_long place limit = out_of_range place limit 8

-- There is no plan for so many steps with the room of the book. Rule 1: two or more steps have no slot. Rule 2: the
-- book hasn't two levels. Rule 3: level 1 isn't unlimited. Rule 4: level 1 has fewer slots than a periodic plan has
-- images there.
abbrev pub no_plan : ℕ → ℕ → ℕ → Outcome
no_plan steps room rule = outcome.NoPlan steps room rule

-- the keeper of this level failed in the action at this place
abbrev pub keeper_failed : ℕ → ℕ → Outcome
keeper_failed place level = outcome.Keeper place level

-- In this action, this level gave other bytes than were put, or bytes that are no image. It has the digests of both.
abbrev pub damaged : ℕ → ℕ → List ℕ → List ℕ → Outcome
damaged place level put got = outcome.Damaged place level put got

-- the sink failed in the action or order at this place
abbrev pub stopped : ℕ → Outcome
stopped place = outcome.Sink place

-- a valid list isn't the least by its certificate, for this reason; it is never that the list is invalid
abbrev pub not_least : Reason → Outcome
not_least reason = outcome.NotLeast reason

-- the book has more levels than there are keepers
abbrev pub few_keepers : ℕ → ℕ → Outcome
few_keepers levels keepers = outcome.FewKeepers levels keepers

-- the keeper of this level has too few slots, namely so many
abbrev pub small_keeper : ℕ → ℕ → Outcome
small_keeper level slots = outcome.SmallKeeper level slots
