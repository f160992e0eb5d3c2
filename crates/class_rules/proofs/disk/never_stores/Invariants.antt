use Rattle.std.proofs.Common.{drop}
use Rattle.level_book.specs.DiskClass.{NeverStores}
use Rattle.class_rules.proofs.disk.never_stores.Given as goal

abbrev pub invariant-loop-i : goal.invariant-loop-i
invariant-loop-i l = record {
  yes : NeverStores l.level (drop l.i l.list) → NeverStores l.level l.list;
  only : NeverStores l.level l.list → NeverStores l.level (drop l.i l.list);
}
