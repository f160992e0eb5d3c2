use Rattle.std.proofs.Common.{◌≡◌, ◌++◌, length}
use Rattle.level_book.specs.BookCosts.{total_room}
use Rattle.revolve_gen.specs.RevolveList.{revolve_list}
use Rattle.revolve_gen.specs.Plans.{HasPlan}
use Rattle.revolve_gen.proofs.stream.revolve_list.Given as goal

-- what is in the list and what is still to come are the whole list
abbrev pub invariant-loop-action : goal.invariant-loop-action
invariant-loop-action l = record {
  all : l.list.items ++ l.stream ≡ revolve_list l.steps l.book;
  planned : HasPlan l.steps (total_room l.book l.steps);
}

abbrev pub decreases-loop-action : goal.decreases-loop-action
decreases-loop-action l = length l.stream
