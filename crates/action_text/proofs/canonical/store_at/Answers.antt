use Rattle.level_book.specs.BookCosts.{names_of}
use Rattle.action_text.proofs.CanonicalSpelling.{store_written}
use Rattle.action_text.proofs.canonical.store_at.Goals as goal

pub returns : goal.returns
returns c = λ from to.
    store_written (names_of c.args.book.now) c.args.bytes.now c.in_ok-second.second.now c.in_ok-middle.middle.now c.in_ok-comma.comma.now c.in_ok-place.place.now c.in_ok-k.last.now c.in_ok-rest.rest.now c.in_ok-k.k from to
    c.in_ok-second.ensures c.in_ok-middle.ensures c.in_ok-comma.ensures c.in_ok-place.ensures c.in_ok-k.ensures c.in_ok-rest.ensures
