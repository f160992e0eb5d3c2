use Rattle.std.proofs.Common.{drop}
use Rattle.level_book.specs.DiskClass.{ForwardsFirst}
use Rattle.class_rules.proofs.disk.has_forwards_first.Given as goal

abbrev pub invariant-loop-i : goal.invariant-loop-i
invariant-loop-i l = record {
  yes : ForwardsFirst (drop l.i l.list) → ForwardsFirst l.list;
  only : ForwardsFirst l.list → ForwardsFirst (drop l.i l.list);
}
