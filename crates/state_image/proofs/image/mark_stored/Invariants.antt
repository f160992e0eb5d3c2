use Rattle.std.proofs.Common.{◌≡◌, ℕ, ◌-◌, ◌<◌, ◌≤◌, false, take, length, filter, get_or}
use Rattle.rv_pages.specs.Memory.{page_numbers}
use Rattle.state_image.specs.Image.{is_stored}
use Rattle.state_image.proofs.image.mark_stored.Given as goal

abbrev pub invariant-loop-index : goal.invariant-loop-index
invariant-loop-index l = record {
  inside : l.from ≤ length (page_numbers l.pages);
  few : l.from ≤ 4096;
  count : l.count ≤ l.from;
  counted : l.count ≡ length (filter (is_stored l.pages) (take l.from (page_numbers l.pages)));
  marked : (k : ℕ) → k < l.from → get_or l.stored k false ≡ is_stored l.pages (get_or (page_numbers l.pages) k 0);
  unmarked : (k : ℕ) → l.from ≤ k → get_or l.stored k false ≡ false;
}

abbrev pub decreases-loop-index : goal.decreases-loop-index
decreases-loop-index l = 4096 - l.from
