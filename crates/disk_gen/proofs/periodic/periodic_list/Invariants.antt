use Rattle.std.proofs.Common.{◌≡◌, ◌++◌, length}
use Rattle.disk_gen.specs.PeriodicList.{periodic_list}
use Rattle.disk_gen.specs.Plans.{HasPeriodicPlan}
use Rattle.disk_gen.proofs.periodic.periodic_list.Given as goal

-- what is in the list and what is still to come are the whole list
abbrev pub invariant-loop-action : goal.invariant-loop-action
invariant-loop-action l = record {
  all : l.list.items ++ l.stream ≡ periodic_list l.steps l.period l.book;
  planned : HasPeriodicPlan l.steps l.period l.book;
}

abbrev pub decreases-loop-action : goal.decreases-loop-action
decreases-loop-action l = length l.stream
