use Rattle.level_book.specs.BookCosts.{names_of}
use Rattle.action_text.proofs.CanonicalSpelling.{image_written}
use Rattle.action_text.proofs.canonical.image_at.Goals as goal

pub returns : goal.returns
returns c =
    image_written (names_of c.args.book.now) c.args.bytes.now c.in_ok-first.first.now c.in_ok-n.behind_number.now c.in_ok-second.second.now c.in_ok-from.behind_level.now c.in_ok-third.third.now c.in_ok-dest.last.now c.in_ok-rest.rest.now
    c.in_ok-n.n c.in_ok-from.from c.in_ok-dest.dest
    c.in_ok-first.ensures c.in_ok-n.ensures.value c.in_ok-second.ensures c.in_ok-from.ensures c.in_ok-third.ensures c.in_ok-dest.ensures c.in_ok-rest.ensures
