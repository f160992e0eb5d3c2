use Rattle.std.proofs.Common.{◌-◌, ◌≤◌}
use Rattle.rv_pages.specs.Memory.{IsMapped}
use Rattle.rv_pages.proofs.pages.Pages.are_mapped.Given as goal

abbrev pub decreases-loop-done : goal.decreases-loop-done
decreases-loop-done l = l.count - l.done

abbrev pub invariant-loop-done : goal.invariant-loop-done
invariant-loop-done l = record {
  within : l.done ≤ l.count;
  mapped : IsMapped l.self l.at l.done;
}
