use Rattle.std.proofs.Common.{◌≡◌, ◌+◌, get_or}
use Rattle.cost_tables.specs.Entries.{least_of}
use Rattle.cost_tables.proofs.columns.least_sum.Given as goal

abbrev pub invariant-loop-i : goal.invariant-loop-i
invariant-loop-i l = l.least ≡ least_of (λ i. get_or l.xs i 0 + get_or l.ys i 0) l.i
