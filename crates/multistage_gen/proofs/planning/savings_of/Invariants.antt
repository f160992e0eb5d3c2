use Rattle.std.proofs.Common.{◌≡◌, map, take}
use Rattle.multistage_gen.specs.Ranks.{saving_of}
use Rattle.multistage_gen.proofs.planning.savings_of.Given as goal

abbrev pub invariant-loop-of : goal.invariant-loop-of
invariant-loop-of l = l.savings.items ≡ map (saving_of l.fast l.slow) (take l.of-index l.traffic)
