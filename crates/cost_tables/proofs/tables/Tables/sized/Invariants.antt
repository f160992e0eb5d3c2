use Rattle.std.proofs.Common.{◌≡◌, ℕ, ◌<◌, get_or}
use Rattle.level_book.specs.BookCosts.{room}
use Rattle.cost_tables.proofs.tables.Tables.sized.Given as goal

abbrev pub invariant-loop-k : goal.invariant-loop-k
invariant-loop-k l = (j : ℕ) → j < l.k → get_or l.self.rooms j 0 ≡ room l.book j l.steps
