use Rattle.std.proofs.Common.{◌≡◌, ℕ, ◌-◌, ◌*◌, ◌≤◌, List, length, ◌++◌}
use Rattle.std.specs.Vec.{vec_capacity}
use Rattle.rv_pages.specs.Memory.{page_numbers}
use Rattle.run_timeline.specs.KeptPages.{KeepsFrom}
use Rattle.run_timeline.proofs.mark.keep_pages.Given as goal

-- what is kept so far, and whatever is kept of the pages behind it, is kept of all pages
abbrev pub invariant-loop-index : goal.invariant-loop-index
invariant-loop-index l = record {
  within : l.next ≤ length (page_numbers l.pages);
  few : length l.indices.items ≤ l.next;
  long : length l.bytes.items ≡ 4096 * length l.indices.items;
  kept : (is bs : List ℕ) → KeepsFrom (page_numbers l.pages) l.pages l.next is bs → KeepsFrom (page_numbers l.pages) l.pages 0 (l.indices.items ++ is) (l.bytes.items ++ bs);
  indices_reserved : vec_capacity l.fn.indices ≤ vec_capacity l.indices;
  bytes_reserved : vec_capacity l.fn.bytes ≤ vec_capacity l.bytes;
}

abbrev pub decreases-loop-index : goal.decreases-loop-index
decreases-loop-index l = length (page_numbers l.pages) - l.next
