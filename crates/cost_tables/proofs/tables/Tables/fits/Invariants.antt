use Rattle.std.proofs.Common.{ℕ, ◌<◌, ◌≤◌}
use Rattle.level_book.specs.BookCosts.{room}
use Rattle.cost_tables.proofs.tables.Tables.fits.Given as goal

abbrev pub invariant-loop-k : goal.invariant-loop-k
invariant-loop-k l = (j : ℕ) → j < l.k → room l.book j l.steps ≤ 64
