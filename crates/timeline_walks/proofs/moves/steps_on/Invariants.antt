use Rattle.std.proofs.Common.{◌+◌, ◌≤◌}
use Rattle.timeline_walks.proofs.moves.steps_on.Given as goal

-- no more steps of the machine than were asked for
abbrev pub invariant-loop-done : goal.invariant-loop-done
invariant-loop-done g l = l.steps ≤ l.fn.steps + l._done
