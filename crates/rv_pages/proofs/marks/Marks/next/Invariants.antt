use Rattle.std.proofs.Common.{◌≡◌, ℕ, ◌*◌, ◌<◌, ◌≤◌}
use Rattle.rv_pages.specs.Marks.{mark_of}
use Rattle.rv_pages.proofs.marks.Marks.next.Given as goal

abbrev pub invariant-loop-word : goal.invariant-loop-word
invariant-loop-word l = (k : ℕ) → l.from ≤ k → k < l.word * 64 → mark_of l.self.words k ≡ 0
