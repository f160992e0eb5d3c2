use Rattle.std.proofs.Common.{◌≡◌, ◌+◌, ◌≤◌}
use Rattle.timeline_walks.proofs.moves.steps_back.Given as goal

-- each step was undone, if so many can be
abbrev pub invariant-loop-done : goal.invariant-loop-done
invariant-loop-done g l = l.count ≤ l.fn.timeline.trail → (l.timeline.trail + l._done ≡ l.fn.timeline.trail) × (l.steps ≡ l.fn.steps)
