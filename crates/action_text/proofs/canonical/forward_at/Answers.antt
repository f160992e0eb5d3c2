use Rattle.level_book.specs.BookCosts.{names_of}
use Rattle.action_text.proofs.CanonicalSpelling.{forward_written}
use Rattle.action_text.proofs.canonical.forward_at.Goals as goal

pub returns : goal.returns
returns c =
    forward_written (names_of c.args.book.now) c.args.bytes.now c.in_ok-from.behind_from.now c.in_ok-second.second.now c.in_ok-to.behind_to.now c.in_ok-keep.rest.now c.in_ok-from.from c.in_ok-to.to c.in_ok-keep.keep
    c.in_ok-from.ensures.value c.in_ok-second.ensures c.in_ok-to.ensures.value c.in_ok-keep.ensures
