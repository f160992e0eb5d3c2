use Rattle.std.proofs.Common.{subst, sym, ap, length, ◌∙◌}
use Rattle.std.proofs.lemmas.Result.{IfOk-weaker}
use Rattle.level_book.specs.BookCosts.{room}
use Rattle.multistage_gen.specs.Ranks.{StandByPlace, AreLevels, ranks_from}
use Rattle.multistage_gen.proofs.Savings.{by_place, length_ranks, levels_planned, level_at_first, level_at_second}
use Rattle.multistage_gen.proofs.planning.planned_levels.Goals as goal

pub levels_by_rank-requires : goal.levels_by_rank-requires
levels_by_rank-requires c =
    let e = c.deref.ensures.value ∙ c.in_ok-ranks.ensures in
    subst StandByPlace (sym e) (by_place c.level.result.now c.level-2.result.now c.args.traffic.now)

pub returns-clause-each : goal.returns-clause-each
returns-clause-each c =
    let e = c.deref.ensures.value ∙ c.in_ok-ranks.ensures in
    IfOk-weaker c.levels_by_rank.result (λ levels. AreLevels c.deref.result.now c.room.result levels.items) _ (λ levels are.
    are.many ∙ ap length e ∙ length_ranks c.level.result.now c.level-2.result.now 0 c.args.traffic.now) c.levels_by_rank.ensures

pub returns-clause-planned : goal.returns-clause-planned
returns-clause-planned c =
    let book = c.args.book.now in
    let traffic = c.args.traffic.now in
    let fill = room book 0 c.args.steps in
    IfOk-weaker c.levels_by_rank.result (λ levels. AreLevels c.deref.result.now c.room.result levels.items) _ (λ levels are list fast slow two is.
    let first = level_at_first book.levels fast slow c.level.result.now two c.level.ensures in
    let second = level_at_second book.levels fast slow c.level-2.result.now two c.level-2.ensures in
    let ranks_are = c.deref.ensures.value ∙ c.in_ok-ranks.ensures ∙ (λ i. ranks_from (first i) (second i) 0 traffic) in
    levels_planned list traffic fast slow fill levels.items is
    (subst (λ n. AreLevels (ranks_from fast slow 0 traffic) n levels.items) c.room.ensures
    (subst (λ ranks. AreLevels ranks c.room.result levels.items) ranks_are are))) c.levels_by_rank.ensures
