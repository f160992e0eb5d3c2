-- What the top call answers of its outcome: a status, three numbers, an entry and two digests. The numbers of statuses
-- and rules are fixed for those who run the program.
use Rattle.std.specs.Prelude.{ℕ, List, replicate}
use Rattle.level_book.specs.declared.fault.BookFault.{BookFault}
use Rattle.level_book.specs.declared.fault.BookFault.TheVariants as book
use Rattle.line_texts.specs.declared.fault.Fault.{Fault}
use Rattle.line_texts.specs.declared.fault.Fault.TheVariants as text
use Rattle.input_journal.specs.declared.fault.JournalFault.{JournalFault}
use Rattle.input_journal.specs.declared.fault.JournalFault.TheVariants as journal
use Rattle.elf_load.specs.declared.fault.ElfFault.{ElfFault}
use Rattle.elf_load.specs.declared.fault.ElfFault.TheVariants as program
use Rattle.bound_cert.specs.declared.verdict.Reason.{Reason}
use Rattle.bound_cert.specs.declared.verdict.Reason.TheVariants as reason
use Rattle.table_clauses.specs.declared.entry.Entry.{Entry}
use Rattle.endings.specs.declared.outcome.Outcome.{Outcome}
use Rattle.endings.specs.declared.outcome.Outcome.TheVariants as outcome
use Rattle.endings.specs.declared.ended.Ended.{Ended}

-- an ending by its status, its three numbers, its entry and its two digests
abbrev pub ended_with : ℕ → ℕ → ℕ → ℕ → Entry → List ℕ → List ℕ → Ended
ended_with status place more rule entry put got = record { status = status; place = place; more = more; rule = rule; entry = entry; put = put; got = got }

-- the entry for statuses that don't name one
abbrev pub no_entry : Entry
no_entry = record { table = 0; level = 0; free = 0; steps = 0; clause = 0 }

-- the digest for statuses that don't name one
abbrev pub no_digest : List ℕ
no_digest = replicate 32 0

-- an ending by its status and its three numbers
abbrev pub ended_by : ℕ → ℕ → ℕ → ℕ → Ended
ended_by status place more rule = ended_with status place more rule no_entry no_digest no_digest

-- an ending that has a status and a place alone
abbrev pub ended_at : ℕ → ℕ → Ended
ended_at status place = ended_by status place 0 0

-- the number of the segment, of pages or of bytes that the fault names, or the entry's address
abbrev pub of_program : ElfFault → Ended
of_program program.NotElf = ended_by 4 0 0 1
of_program program.Class = ended_by 4 0 0 2
of_program program.Kind = ended_by 4 0 0 3
of_program program.Machine = ended_by 4 0 0 4
of_program program.Headers = ended_by 4 0 0 5
of_program (program.Segment i) = ended_by 4 i 0 6
of_program (program.Overlap i j) = ended_by 4 i j 7
of_program (program.TooLarge pages) = ended_by 4 pages 0 8
of_program (program.Entry at) = ended_by 4 at 0 9
of_program program.Memory = ended_at 17 0
of_program (program.RawLength length) = ended_by 4 length 0 11

-- the place is the offset of the fault
abbrev pub of_journal : JournalFault → Ended
of_journal journal.Magic = ended_by 5 0 0 1
of_journal journal.Version = ended_by 5 4 0 2
of_journal (journal.Truncated at) = ended_by 5 at 0 3
of_journal (journal.TooLong at) = ended_by 5 at 0 4
of_journal (journal.Trailing at) = ended_by 5 at 0 5
of_journal journal.Memory = ended_at 17 0

-- the place is the number that the fault carries
abbrev pub of_book : BookFault → Ended
of_book book.NotJson = ended_by 6 0 0 1
of_book (book.Shape field) = ended_by 6 field 0 2
of_book (book.Levels count) = ended_by 6 count 0 3
of_book (book.Name level) = ended_by 6 level 0 4
of_book (book.CostRange level) = ended_by 6 level 0 5
of_book (book.SlotRange level) = ended_by 6 level 0 6
of_book (book.CostOrder level) = ended_by 6 level 0 7
of_book book.Memory = ended_at 17 0

-- a text breaks a rule; it has the line and the column
abbrev pub broken_text : ℕ → Fault → Ended
broken_text status (text.At rule line column) = ended_by status line column rule
broken_text status text.Memory = ended_at 17 0

-- The number of the reason is the rule. Reason 1 never occurs for a valid list.
abbrev pub of_reason : Reason → Ended
of_reason reason.Invalid = ended_by 15 0 0 1
of_reason reason.OutsideClass = ended_by 15 0 0 2
of_reason (reason.Inequality entry) = ended_with 15 0 0 3 entry no_digest no_digest
of_reason (reason.ValueDiffers cost value) = ended_by 15 cost value 4
of_reason reason.WrongShape = ended_by 15 0 0 5

-- the rows: the status of each outcome, and its numbers
abbrev pub ended_of : Outcome → Ended
ended_of outcome.Done = ended_at 0 0
ended_of outcome.Words = ended_at 2 0
ended_of (outcome.Input place) = ended_at 3 place
ended_of (outcome.Program fault) = of_program fault
ended_of (outcome.Journal fault) = of_journal fault
ended_of (outcome.Book fault) = of_book fault
ended_of (outcome.Text fault) = broken_text 7 fault
ended_of (outcome.Invalid place level rule) = ended_by 8 place level rule
ended_of (outcome.Certificate fault) = broken_text 9 fault
ended_of (outcome.Limit number bound rule) = ended_by 10 number bound rule
ended_of (outcome.NoPlan steps room rule) = ended_by 11 steps room rule
ended_of (outcome.Keeper place level) = ended_by 12 place level 0
ended_of (outcome.Damaged place level put got) = ended_with 13 place level 0 no_entry put got
ended_of (outcome.Sink place) = ended_at 14 place
ended_of (outcome.NotLeast reason) = of_reason reason
ended_of (outcome.FewKeepers levels keepers) = ended_by 16 levels keepers 1
ended_of (outcome.SmallKeeper level slots) = ended_by 16 level slots 2
ended_of outcome.Memory = ended_at 17 0
ended_of (outcome.Source fault) = broken_text 19 fault
ended_of (outcome.Script fault) = broken_text 20 fault

-- the status of an outcome
abbrev pub status_of : Outcome → ℕ
status_of outcome = (ended_of outcome).status
