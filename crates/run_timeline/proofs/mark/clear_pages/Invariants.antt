use Rattle.std.proofs.Common.{◌≡◌, ◌-◌, ◌≤◌}
use Rattle.rv_pages.specs.Memory.{page_numbers}
use Rattle.run_timeline.specs.KeptPages.{AreZero, HaveSamePages}
use Rattle.run_timeline.proofs.mark.clear_pages.Given as goal

abbrev pub invariant-loop-next : goal.invariant-loop-next
invariant-loop-next l = record {
  numbers : page_numbers l.pages ≡ page_numbers l.fn.pages;
  further : l.from ≤ l.next;
  zero : AreZero (page_numbers l.fn.pages) l.pages l.from l.next;
  others : HaveSamePages (page_numbers l.fn.pages) l.fn.pages l.pages l.from;
}

abbrev pub decreases-loop-next : goal.decreases-loop-next
decreases-loop-next l = l.to - l.next
