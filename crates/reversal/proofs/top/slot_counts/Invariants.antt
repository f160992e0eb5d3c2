use Rattle.std.proofs.Common.{◌≡◌, map, take}
use Rattle.reversal.proofs.top.slot_counts.Given as goal

abbrev pub invariant-loop-keeper : goal.invariant-loop-keeper
invariant-loop-keeper g l = l.counts.items ≡ map g.K.Storage.slot_count (take l.keeper-index l.keepers)
