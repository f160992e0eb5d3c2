use Rattle.std.proofs.Common.{ℕ, ◌<◌, ◌≤◌}
use Rattle.level_book.specs.BookCosts.{room}
use Rattle.reversal.proofs.hrevolve.first_wide.Given as goal

-- the levels before this one hold few images
abbrev pub invariant-loop-level : goal.invariant-loop-level
invariant-loop-level l = (k : ℕ) → k < l.level → room l.book k l.steps ≤ 64
