use Rattle.std.proofs.Common.{◌≡◌, ◌-◌, ◌≤◌, length}
use Rattle.rv_pages.specs.Memory.{page_numbers}
use Rattle.state_image.proofs.PageUpdates.{AreCleared}
use Rattle.state_image.proofs.decoding.clear_unnamed.Given as goal

-- the pages that were passed and aren't named are zero
abbrev pub invariant-loop-index : goal.invariant-loop-index
invariant-loop-index l = record {
  few : l.from ≤ 4096;
  inside : l.from ≤ length (page_numbers l.initial.pages);
  pages : page_numbers l.pages ≡ page_numbers l.initial.pages;
  zero : AreCleared l.pages (page_numbers l.initial.pages) l.named l.from;
}

abbrev pub decreases-loop-index : goal.decreases-loop-index
decreases-loop-index l = 4096 - l.from
