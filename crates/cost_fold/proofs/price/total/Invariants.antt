use Rattle.std.proofs.Common.{◌≡◌, take}
use Rattle.cost_fold.specs.CountsOf.{price}
use Rattle.cost_fold.proofs.price.total.Given as goal

-- the sum is the price of the steps and of the levels so far
abbrev pub invariant-loop-k : goal.invariant-loop-k
invariant-loop-k l = l.sum ≡ price l.counts (record l.book { levels = take l.k l.book.levels })
