use Rattle.std.proofs.Common.{◌≤◌}
use Rattle.memory_disk.proofs.MemoryDisk.count.Given as goal

abbrev pub invariant-loop-place : goal.invariant-loop-place
invariant-loop-place l = l.count ≤ l.place
