use Rattle.std.proofs.Common.{List, subst, sym}
use Rattle.std.specs.List.Sorted.{IsPermutation}
use Rattle.std.proofs.lemmas.Result.{IfOk-weaker}
use Rattle.multistage_gen.specs.declared.ranking.Rank.{Rank}
use Rattle.multistage_gen.specs.Ranks.{AreLevels}
use Rattle.multistage_gen.proofs.RankOrder.{split_levels, fast_levels}
use Rattle.multistage_gen.proofs.ranking.levels_by_rank.Goals as goal

pub returns-then-ranks-room : goal.returns-then-ranks-room
returns-then-ranks-room c =
    let ranks = c.args.ranks.now in
    IfOk-weaker _ _ _ (λ levels e. subst (AreLevels ranks c.args.room) (sym e) (fast_levels ranks c.args.room c.if-ranks-room.true)) c.all_fast.ensures

pub returns : goal.returns
returns c =
    let ranks = c.args.ranks.now in
    let cut = c.index.result.now in
    let order = c.sort.new.self.items in
    let moved : IsPermutation ranks order = subst (λ (l : List Rank). IsPermutation l order) c.in_ok-order.ensures.items c.in_ok-sort.ensures.permutation in
    IfOk-weaker _ _ _ (λ levels e. subst (AreLevels ranks c.args.room) (sym e) (split_levels ranks order c.args.room cut c.requires moved c.in_ok-sort.ensures.sorted c.if-ranks-room.false c.index.ensures)) c.split_at.ensures
