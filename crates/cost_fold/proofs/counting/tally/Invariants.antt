use Rattle.std.proofs.Common.{◌≡◌, ◌*◌, ◌≤◌, length, take}
use Rattle.cost_fold.proofs.CountBounds.{AreSoFar}
use Rattle.cost_fold.proofs.counting.tally.Given as goal

-- the counts are those of the actions so far
abbrev pub invariant-loop-action : goal.invariant-loop-action
invariant-loop-action l = record {
  counted : AreSoFar (take l.action-index l.list) l.so_far;
  steps : l.so_far.forward ≤ 1000000 * l.action-index;
  writes_four : length l.so_far.writes ≡ 4;
  reads_four : length l.so_far.reads ≡ 4;
}
