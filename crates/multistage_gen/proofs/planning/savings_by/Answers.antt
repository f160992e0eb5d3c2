use Rattle.std.proofs.Common.{◌≡◌, map, subst, sym, ◌∙◌}
use Rattle.std.proofs.lemmas.Result.{IfOk-weaker}
use Rattle.multistage_gen.specs.Ranks.{saving_of}
use Rattle.multistage_gen.specs.Threshold.{AreSavings}
use Rattle.multistage_gen.proofs.Savings.{traffic_savings, level_at_first, level_at_second}
use Rattle.multistage_gen.proofs.planning.savings_by.Goals as goal

pub returns : goal.returns
returns c =
    let levels = c.args.book.now.levels in
    let traffic = c.args.traffic.now in
    IfOk-weaker c.savings_of.result (λ savings. savings.items ≡ map (saving_of c.level.result.now c.level-2.result.now) traffic) _ (λ savings are list fast slow two is.
    let first = level_at_first levels fast slow c.level.result.now two c.level.ensures in
    let second = level_at_second levels fast slow c.level-2.result.now two c.level-2.ensures in
    subst (AreSavings list fast slow) (sym (are ∙ (λ i. map (saving_of (first i) (second i)) traffic)))
    (traffic_savings list traffic fast slow is)) c.savings_of.ensures
