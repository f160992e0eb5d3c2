use Rattle.std.proofs.Common.{ℕ, ◌<◌, length}
use Rattle.elf_load.specs.HeaderFields.{segment_at, Cross}
use Rattle.elf_load.proofs.apart.first_to_cross.Given as goal

abbrev pub invariant-loop-a : goal.invariant-loop-a
invariant-loop-a l = (c d : ℕ) → c < l.a → c < d → d < length l.segments → Cross (segment_at l.segments c) (segment_at l.segments d) → ⊥
