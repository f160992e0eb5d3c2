-- What the definitions of the form and of its faults imply.
use Rattle.std.specs.Prelude.{◌≡◌, ◌<◌, ◌⊎◌, ℕ, List}
use Rattle.std.specs.List.{AllByRecursion}
use Rattle.input_journal.specs.declared.fault.JournalFault.{JournalFault}
use Rattle.input_journal.specs.Form.{IsJournal}
use Rattle.input_journal.specs.Faults.{FirstFault}

-- bytes are those of one journal at most, and a journal has one spelling
abbrev pub OneSpelling : Type 0
OneSpelling = (bytes : List ℕ) (a b : List (List ℕ)) → IsJournal bytes a → IsJournal bytes b → a ≡ b

abbrev pub OneForm : Type 0
OneForm = (items : List (List ℕ)) (a b : List ℕ) → IsJournal a items → IsJournal b items → a ≡ b

-- bytes have one first fault at most, and those of a journal have none
abbrev pub OneFault : Type 0
OneFault = (bytes : List ℕ) (a b : JournalFault) → FirstFault bytes a → FirstFault bytes b → a ≡ b

abbrev pub JournalsHaveNoFault : Type 0
JournalsHaveNoFault = (bytes : List ℕ) (items : List (List ℕ)) (fault : JournalFault) → IsJournal bytes items → FirstFault bytes fault → ⊥

-- every list of bytes is a journal or has a first fault
abbrev pub JournalOrFault : Type 0
JournalOrFault =
    (bytes : List ℕ) → AllByRecursion (λ b. b < 256) bytes →
    ((items : List (List ℕ)) × IsJournal bytes items) ⊎ ((fault : JournalFault) × FirstFault bytes fault)
