use Rattle.std.proofs.Common.{◌≡◌, drop}
use Rattle.rv_pages.specs.Memory.{Memory, page_numbers, IsMemory}
use Rattle.run_timeline.specs.KeptPages.{HaveSamePages, KeepsFrom}
use Rattle.run_timeline.proofs.mark.give_pages.Given as goal

-- the pages so far are those that are kept
abbrev pub invariant-loop-index : goal.invariant-loop-index
invariant-loop-index l = record {
  numbers : page_numbers l.pages ≡ page_numbers l.fn.pages;
  rest : (m : Memory) → KeepsFrom (page_numbers l.fn.pages) m 0 l.indices l.bytes → KeepsFrom (page_numbers l.fn.pages) m l.next (drop l.index-index l.indices) l.rest;
  same : (m : Memory) → IsMemory m → page_numbers m ≡ page_numbers l.fn.pages → KeepsFrom (page_numbers l.fn.pages) m 0 l.indices l.bytes → HaveSamePages (page_numbers l.fn.pages) m l.pages l.next;
}
