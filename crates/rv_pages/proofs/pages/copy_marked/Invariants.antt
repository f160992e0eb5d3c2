use Rattle.std.proofs.Common.{◌≡◌, ℕ, ◌-◌, ◌/◌, ◌<◌, ◌≤◌, get_or}
use Rattle.rv_pages.specs.Marks.{mark_of}
use Rattle.rv_pages.proofs.pages.copy_marked.Given as goal

abbrev pub invariant-loop-next : goal.invariant-loop-next
invariant-loop-next l = record {
  inside : l.next ≤ 4096;
  copied : (k : ℕ) → k / 4096 < l.next → mark_of l.marks.words (k / 4096) ≡ 1 → get_or l.bytes k 0 ≡ get_or l.from k 0;
  others : (k : ℕ) → mark_of l.marks.words (k / 4096) ≡ 0 → get_or l.bytes k 0 ≡ get_or l.initial.bytes k 0;
}

abbrev pub decreases-loop-next : goal.decreases-loop-next
decreases-loop-next l = 4096 - l.next
