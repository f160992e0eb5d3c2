use Rattle.std.proofs.Common.{ℕ, ◌<◌}
use Rattle.elf_load.specs.HeaderFields.{segment_at, Cross}
use Rattle.elf_load.proofs.apart.first_crossing.Given as goal

abbrev pub invariant-loop-place : goal.invariant-loop-place
invariant-loop-place l = (k : ℕ) → k < l.place → Cross l.segment (segment_at l.others k) → ⊥
