use Rattle.level_book.specs.BookCosts.{names_of}
use Rattle.reversal.proofs.Refusals.{text_refused}
use Rattle.reversal.proofs.decision.list_in.Goals as goal

pub returns-in-Err-clause-refused : goal.returns-in-Err-clause-refused
returns-in-Err-clause-refused c = text_refused (names_of c.args.book.now) c.args.bytes.now c.in-Err.fault c.bad_text.result c.in-Err.ensures.refused c.bad_text.ensures
