use Rattle.std.proofs.Common.{◌≡◌, map, take}
use Rattle.std.specs.FinSet as set
use Rattle.std.specs.List.{AllByRecursion}
use Rattle.level_book.specs.BookCosts.{slots_of}
use Rattle.schedule_rules.specs.BitRoom.{HasBits}
use Rattle.schedule_rules.specs.Bits.{set_of}
use Rattle.schedule_rules.proofs.config.empty_levels.Given as goal

abbrev pub invariant-loop-k : goal.invariant-loop-k
invariant-loop-k l = record {
  slots : map (λ level. level.slots) l.levels.items ≡ take l.k (slots_of l.book);
  empty : map (λ level. set_of level.images.words.items) l.levels.items ≡ map (λ _. set.empty) (take l.k (slots_of l.book));
  bits : AllByRecursion (HasBits l.steps) l.levels.items;
}
