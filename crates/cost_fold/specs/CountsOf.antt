-- Counts, whose list they are, and what they cost.
use Rattle.std.specs.Prelude.{◌≡◌, ℕ, ◌+◌, ◌*◌, ◌^◌, ◌<◌, List, slice_index, sum_by}
use Rattle.std.specs.List.{enumerate_from}
use Rattle.plan_types.specs.declared.limits.TheConstants.{MOST_STEPS}
use Rattle.plan_types.specs.declared.action.Action.{Action}
use Rattle.level_book.specs.BookCosts.{BookCosts}
use Rattle.level_book.specs.CostFold.{forward, taped, reversed, writes, reads}
use Rattle.cost_fold.specs.declared.counts.Counts.{Counts}
use Rattle.cost_fold.specs.declared.counting.SoFar.{SoFar}
use Rattle.cost_fold.specs.TotalCount.{all_counted}

-- these are the counts of the list
pub record AreCountsOf (list : List Action) (counts : Counts) : Type 0 where
  pub forward : counts.forward ≡ forward list
  pub taped : counts.taped ≡ taped list
  pub reversed : counts.reversed ≡ reversed list
  pub writes : (k : ℕ) → k < 4 → slice_index counts.writes k ≡ writes k list
  pub reads : (k : ℕ) → k < 4 → slice_index counts.reads k ≡ reads k list

-- all that has a cost: forward steps, reversed steps, writes and reads, each once
abbrev pub all_of : Counts → ℕ
all_of counts = all_counted counts.forward counts.reversed counts.writes counts.reads

-- the steps at their costs, and each level's writes and reads at its costs
abbrev pub price : Counts → BookCosts → ℕ
price counts book =
    counts.forward * book.forward + counts.reversed * book.reverse
    + sum_by (λ level. slice_index counts.writes level.0 * level.1.write + slice_index counts.reads level.0 * level.1.read) (enumerate_from 0 book.levels)

-- each count so far has room for what one action adds
pub record HasRoomForOne (counts : SoFar) : Type 0 where
  pub forward : counts.forward + MOST_STEPS < 2 ^ 64
  pub taped : counts.taped + 1 < 2 ^ 64
  pub reversed : counts.reversed + 1 < 2 ^ 64
  pub writes : (k : ℕ) → k < 4 → slice_index counts.writes k + 1 < 2 ^ 64
  pub reads : (k : ℕ) → k < 4 → slice_index counts.reads k + 1 < 2 ^ 64
