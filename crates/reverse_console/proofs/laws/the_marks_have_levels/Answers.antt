use Rattle.std.proofs.Common.{max}
use Rattle.level_book.specs.BookCosts.{slots_of}
use Rattle.reverse_console.specs.Marks.{MarkPlan}
use Rattle.reverse_console.proofs.Numbers.{mark_has_room}
use Rattle.reverse_console.proofs.laws.the_marks_have_levels.Goals as goal

pub returns : goal.returns
returns c book count room i known =
    let p : MarkPlan = record { slots = slots_of book; count = count } in
    (c.books_are_roomy.ensures (max count 1) book).known i (mark_has_room p i room known)
