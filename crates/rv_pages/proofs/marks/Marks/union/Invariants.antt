use Rattle.std.proofs.Common.{◌≡◌, ℕ, ◌<◌, length, get_or}
use Rattle.std.specs.Prelude.{bit_or}
use Rattle.rv_pages.proofs.marks.Marks.union.Given as goal

abbrev pub invariant-loop-word : goal.invariant-loop-word
invariant-loop-word l = (length l.both ≡ 64) × ((k : ℕ) → k < l.word → get_or l.both k 0 ≡ bit_or (get_or l.self.words k 0) (get_or l.other.words k 0))
