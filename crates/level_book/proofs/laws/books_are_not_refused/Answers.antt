use Rattle.level_book.proofs.OneBook.{not_refused}
use Rattle.level_book.proofs.laws.books_are_not_refused.Goals as goal

pub returns : goal.returns
returns c = not_refused
