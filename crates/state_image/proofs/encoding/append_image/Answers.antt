use Rattle.state_image.proofs.HashedPages.{no_marks}
use Rattle.state_image.proofs.encoding.append_image.Goals as goal

pub mark_stored-count-requires-clause-unmarked : goal.mark_stored-count-requires-clause-unmarked
mark_stored-count-requires-clause-unmarked c = λ k. no_marks 4096 k
