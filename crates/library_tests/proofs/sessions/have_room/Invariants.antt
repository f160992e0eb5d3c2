use Rattle.std.proofs.Common.{ℕ, ◌<◌, ◌≤◌, length, map, get_or}
use Rattle.level_book.specs.declared.book.Slots.TheVariants.{Count}
use Rattle.level_book.specs.BookCosts.{slots_of, least}
use Rattle.library_tests.proofs.sessions.have_room.Given as goal

-- the levels before this one have keepers with room
abbrev pub invariant-loop-k : goal.invariant-loop-k
invariant-loop-k g l =
    let counts = map g.K.Storage.slot_count l.keepers in
    (j : ℕ) → j < l.k → (j < length counts) × (least (get_or (slots_of l.book) j (Count 0)) l.steps ≤ get_or counts j 0)
