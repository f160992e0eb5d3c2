use Rattle.state_image.proofs.PageUpdates.{AreCopied}
use Rattle.state_image.proofs.decoding.copy_pages.Given as goal

-- the pages of the bytes so far are copied, and those that the bytes don't name are as they were
abbrev pub invariant-loop-k : goal.invariant-loop-k
invariant-loop-k l = AreCopied l.bytes l.initial.pages l.pages l.k
