use Rattle.input_journal.proofs.JournalUniqueness.{one_spelling}
use Rattle.input_journal.proofs.laws.journals_are_told_apart.Goals as goal

pub returns : goal.returns
returns c = one_spelling
