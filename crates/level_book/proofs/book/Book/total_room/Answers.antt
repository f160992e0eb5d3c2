use Rattle.std.proofs.Common.{◌≤◌, ◌+◌, arith, ap, ◌∙◌, refl}
use Rattle.level_book.specs.declared.book.Slots.TheVariants.{Count}
use Rattle.level_book.specs.BookCosts.{both}
use Rattle.level_book.proofs.Rooms.{within_at, slots_more, unlimited_all}
use Rattle.level_book.proofs.book.Book.total_room.Goals as goal

-- the slots of one level more are few
few : (c : goal.In-Count) → c.in-Count.more ≤ 1000000
few c = rw c.in-Count.is at (within_at c.args.self.now.levels c.loop-k.k c.level.result.now c.is_within_limits.ensures.levels c.level.ensures).slots

pub overflow_add-slots : goal.overflow_add-slots
overflow_add-slots c = omega (arith, few c, c.loop-k.invariant.small, c.levels-k-end.ensures.range)

pub returns-in-Unlimited : goal.returns-in-Unlimited
returns-in-Unlimited c =
    let book = c.args.self.now in
    let here = slots_more book c.loop-k.k c.level.result.now c.level.ensures
    ∙ ap (λ slots. both slots c.level.result.now.slots) c.loop-k.invariant.counted ∙ ap (both (Count c.loop-k.slots)) c.in-Unlimited.is in
    rw (unlimited_all book (c.loop-k.k + 1) here) refl

pub loop-k-preserved : goal.loop-k-preserved
loop-k-preserved c = record {
  counted = slots_more c.args.self.now c.loop-k.k c.level.result.now c.level.ensures
      ∙ ap (λ slots. both slots c.level.result.now.slots) c.loop-k.invariant.counted ∙ ap (both (Count c.loop-k.slots)) c.in-Count.is;
  small = omega (arith, few c, c.loop-k.invariant.small);
}
