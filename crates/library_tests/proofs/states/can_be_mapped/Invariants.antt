use Rattle.std.proofs.Common.{ℕ, ◌+◌, ◌^◌, ◌<◌, ◌≤◌, get_or}
use Rattle.library_tests.proofs.states.can_be_mapped.Given as goal

-- the numbers so far ascend, and all are below the least that may come next
abbrev pub invariant-loop-number : goal.invariant-loop-number
invariant-loop-number l = record {
  ascending : (k : ℕ) → k + 1 < l.number-index → get_or l.numbers k 0 < get_or l.numbers (k + 1) 0;
  below : (k : ℕ) → k < l.number-index → get_or l.numbers k 0 < l.next;
  within : l.next ≤ 2 ^ 20;
}
