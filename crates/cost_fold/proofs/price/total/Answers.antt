use Rattle.std.proofs.Common.{take, ◌≡◌, ap, arith, ◌∙◌}
use Rattle.std.proofs.lemmas.List.{take_all}
use Rattle.cost_fold.specs.CountsOf.{price}
use Rattle.cost_fold.proofs.LevelCosts.{price_more, level_fits, price-cost}
use Rattle.cost_fold.proofs.price.total.Goals as goal

pub loop-k-preserved : goal.loop-k-preserved
loop-k-preserved c =
    rw (c.from-in-loop-k-2.ensures, c.from-in-loop-k.ensures)
    (omega (arith, c.loop-k.invariant, price_more c.args.counts.now c.args.book.now c.loop-k.k c.level-level.result.now c.level-level.ensures))

pub overflow_mul-sum-in-loop-k : goal.overflow_mul-sum-in-loop-k
overflow_mul-sum-in-loop-k c = rw c.from-in-loop-k.ensures (omega (arith, level_fits c.args.counts.now c.args.book.now c.loop-k.k c.level-level.result.now c.args.counts.now.payable c.is_within_limits.ensures c.level-level.ensures))

pub overflow_mul-sum-in-loop-k-2 : goal.overflow_mul-sum-in-loop-k-2
overflow_mul-sum-in-loop-k-2 c = rw c.from-in-loop-k-2.ensures (omega (arith, level_fits c.args.counts.now c.args.book.now c.loop-k.k c.level-level.result.now c.args.counts.now.payable c.is_within_limits.ensures c.level-level.ensures))

pub overflow_add-sum-in-loop-k : goal.overflow_add-sum-in-loop-k
overflow_add-sum-in-loop-k c = rw (c.from-in-loop-k-2.ensures, c.from-in-loop-k.ensures) (omega (arith, level_fits c.args.counts.now c.args.book.now c.loop-k.k c.level-level.result.now c.args.counts.now.payable c.is_within_limits.ensures c.level-level.ensures))

pub overflow_add-sum-in-loop-k-2 : goal.overflow_add-sum-in-loop-k-2
overflow_add-sum-in-loop-k-2 c = rw (c.from-in-loop-k-2.ensures, c.from-in-loop-k.ensures) (omega (arith, level_fits c.args.counts.now c.args.book.now c.loop-k.k c.level-level.result.now c.args.counts.now.payable c.is_within_limits.ensures c.level-level.ensures))

-- the sum of all levels is the price
all_levels : (c : goal.After-loop-k) → c.loop-k.sum ≡ price c.args.counts.now c.args.book.now
all_levels c =
    let all : take c.loop-k.k c.args.book.now.levels ≡ c.args.book.now.levels = take_all c.loop-k.k c.args.book.now.levels (omega (arith, c.levels-k-end.ensures.value)) in
    c.loop-k.invariant ∙ ap (λ levels. price c.args.counts.now (record c.args.book.now { levels = levels })) all

pub returns-clause-price : goal.returns-clause-price
returns-clause-price c = all_levels c

pub returns-clause-cost : goal.returns-clause-cost
returns-clause-cost c = λ list so. all_levels c ∙ price-cost list c.args.counts.now c.args.book.now (omega (arith, c.levels-k-end.ensures.value, c.levels-k-end.ensures.range)) so
