use Rattle.std.proofs.Common.{◌≡◌, ◌≤◌, take, count_by}
use Rattle.keepers.proofs.memory_keeper.MemoryKeeper.filled.Given as goal

-- so many of the places so far have an image
abbrev pub invariant-loop-place : goal.invariant-loop-place
invariant-loop-place l = record {
  count : l.count ≡ count_by (λ p. p.filled) (take l.place-index l.place-items);
  few : l.count ≤ l.place-index;
}
