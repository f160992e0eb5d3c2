use Rattle.input_journal.proofs.JournalUniqueness.{journal_or_fault}
use Rattle.input_journal.proofs.laws.bytes_are_a_journal_or_have_a_fault.Goals as goal

pub returns : goal.returns
returns c = journal_or_fault
