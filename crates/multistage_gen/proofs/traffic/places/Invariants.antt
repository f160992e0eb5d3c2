use Rattle.std.proofs.Common.{take}
use Rattle.multistage_gen.specs.TrafficCount.{HasCounted}
use Rattle.multistage_gen.proofs.traffic.places.Given as goal

-- the first actions are counted
abbrev pub invariant-loop-action : goal.invariant-loop-action
invariant-loop-action l = HasCounted (take l.action-index l.list) l.count.held l.count.places.items
