use Rattle.std.proofs.Common.{ℕ, ◌<◌, ◌≤◌, length, get_or}
use Rattle.level_book.specs.declared.book.Slots.TheVariants.{Count}
use Rattle.level_book.specs.BookCosts.{slots_of, least}
use Rattle.reversal.proofs.decision.keep.Given as goal

-- the keepers of the levels below have room
abbrev pub invariant-loop-level : goal.invariant-loop-level
invariant-loop-level l = (k : ℕ) → k < l.level → (k < length l.counts) × (least (get_or (slots_of l.book) k (Count 0)) l.steps ≤ get_or l.counts k 0)
