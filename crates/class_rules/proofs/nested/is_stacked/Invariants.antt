use Rattle.std.proofs.Common.{drop, []}
use Rattle.level_book.specs.NestedClass.{IsNestedFrom}
use Rattle.class_rules.specs.Stacks.{images_of, IsStack}
use Rattle.class_rules.proofs.nested.is_stacked.Given as goal

abbrev pub invariant-loop-i : goal.invariant-loop-i
invariant-loop-i l = record {
  is : IsStack l.images;
  yes : IsNestedFrom l.left (images_of l.images) (drop l.i l.list) → IsNestedFrom l.steps [] l.list;
  only : IsNestedFrom l.steps [] l.list → IsNestedFrom l.left (images_of l.images) (drop l.i l.list);
}
