use Rattle.level_book.proofs.Decidability.{decided}
use Rattle.level_book.proofs.laws.texts_are_books_or_refused.Goals as goal

pub returns : goal.returns
returns c = decided
