-- The recorded input of a run, which may have none.
use Rattle.std.specs.Prelude.{◌≡◌, ℕ, List, [], Option, None, Some}
use Rattle.std.specs.Global.{Vec}
use Rattle.std.specs.Option.{option_map}
use Rattle.input_journal.specs.declared.fault.JournalFault.{JournalFault}
use Rattle.input_journal.specs.Form.{IsJournal}
use Rattle.input_journal.specs.Faults.{FirstFault}

-- the bytes of an optional text
abbrev pub text_of : Option (Vec ℕ) → Option (List ℕ)
text_of given = option_map (λ text. text.items) given

-- the items of the recorded input; none where there is no journal
abbrev pub AreItemsOf : Option (List ℕ) → List (List ℕ) → Type 0
AreItemsOf None items = items ≡ []
AreItemsOf (Some bytes) items = IsJournal bytes items

abbrev pub HasJournalFault : Option (List ℕ) → JournalFault → Type 0
HasJournalFault None fault = ⊥
HasJournalFault (Some bytes) fault = FirstFault bytes fault
