use Rattle.level_book.proofs.OneBook.{one_fault}
use Rattle.level_book.proofs.laws.faults_are_unique.Goals as goal

pub returns : goal.returns
returns c = one_fault
