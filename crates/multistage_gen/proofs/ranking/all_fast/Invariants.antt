use Rattle.std.proofs.Common.{◌≡◌, replicate}
use Rattle.multistage_gen.proofs.ranking.all_fast.Given as goal

abbrev pub invariant-loop : goal.invariant-loop
invariant-loop l = l.levels.items ≡ replicate l.counter 0
