use Rattle.std.proofs.Common.{ℕ, ◌+◌, ◌<◌, ◌≤◌}
use Rattle.elf_load.specs.HeaderFields.{segment_at}
use Rattle.elf_load.proofs.apart.neighbours_are_apart.Given as goal

abbrev pub invariant-loop-k : goal.invariant-loop-k
invariant-loop-k l = (j : ℕ) → j + 1 < l.k → (segment_at l.sorted j).address + (segment_at l.sorted j).memory_size ≤ (segment_at l.sorted (j + 1)).address
