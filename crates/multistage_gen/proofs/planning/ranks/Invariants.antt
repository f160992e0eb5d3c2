use Rattle.std.proofs.Common.{◌≡◌, ◌++◌, drop}
use Rattle.multistage_gen.specs.Ranks.{ranks_from}
use Rattle.multistage_gen.proofs.planning.ranks.Given as goal

-- the ranks so far and those of the other places are all
abbrev pub invariant-loop-place : goal.invariant-loop-place
invariant-loop-place l = l.ranks.items ++ ranks_from l.fast l.slow l.place (drop l.place l.traffic) ≡ ranks_from l.fast l.slow 0 l.traffic
