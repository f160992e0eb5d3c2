-- What steps cost, and an image on a level, in a book.
use Rattle.std.specs.Prelude.{◌≡◌, ℕ, ◌<◌, ◌^◌}
use Rattle.level_book.specs.BookCosts.{BookCosts}
use Rattle.level_book.specs.UnderTable.{write_cost, read_cost}
use Rattle.cost_tables.specs.declared.costs.Costs.{Costs}

-- sums of such costs don't wrap
pub record AreCheap (costs : Costs) : Type 0 where
  pub forward : costs.forward < 2 ^ 32
  pub reverse : costs.reverse < 2 ^ 32
  pub write : costs.write < 2 ^ 32
  pub read : costs.read < 2 ^ 32

-- the costs are those of a book's level
pub record AreCosts (book : BookCosts) (k : ℕ) (costs : Costs) : Type 0 where
  pub cheap : AreCheap costs
  pub forward : costs.forward ≡ book.forward
  pub reverse : costs.reverse ≡ book.reverse
  pub write : costs.write ≡ write_cost book k
  pub read : costs.read ≡ read_cost book k
