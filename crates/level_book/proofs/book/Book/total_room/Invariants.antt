use Rattle.std.proofs.Common.{◌≡◌, ◌*◌, ◌≤◌}
use Rattle.level_book.specs.declared.book.Slots.TheVariants.{Count}
use Rattle.level_book.proofs.Rooms.{slots_so_far}
use Rattle.level_book.proofs.book.Book.total_room.Given as goal

-- the slots of the levels so far, which all count them
abbrev pub invariant-loop-k : goal.invariant-loop-k
invariant-loop-k l = record {
  counted : slots_so_far l.self l.k ≡ Count l.slots;
  small : l.slots ≤ 1000000 * l.k;
}
