use Rattle.level_book.specs.BookCosts.{names_of}
use Rattle.action_text.proofs.CanonicalSpelling.{work_written, goes_to_level}
use Rattle.action_text.proofs.canonical.dest_at.Goals as goal

pub returns-in-Some : goal.returns-in-Some
returns-in-Some c = work_written (names_of c.args.book.now) c.args.bytes.now c.in-Some.rest.now c.in-Some.ensures

pub returns : goal.returns
returns c = goes_to_level (names_of c.args.book.now) c.args.bytes.now c.in_ok-k.rest.now c.in_ok-k.k c.in_ok-k.ensures
