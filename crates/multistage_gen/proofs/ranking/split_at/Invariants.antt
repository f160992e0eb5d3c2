use Rattle.std.proofs.Common.{◌≡◌, map, cond, take}
use Rattle.multistage_gen.specs.declared.ranking.Rank.{Rank}
use Rattle.multistage_gen.specs.Ranks.{is_before}
use Rattle.multistage_gen.proofs.ranking.split_at.Given as goal

abbrev pub invariant-loop-rank : goal.invariant-loop-rank
invariant-loop-rank l = l.levels.items ≡ map (λ (rank : Rank). cond (is_before rank l.first_slow) 0 1) (take l.rank-index l.ranks)
