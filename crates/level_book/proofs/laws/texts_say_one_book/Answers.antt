use Rattle.level_book.proofs.OneBook.{one_text}
use Rattle.level_book.proofs.laws.texts_say_one_book.Goals as goal

pub returns : goal.returns
returns c = one_text
