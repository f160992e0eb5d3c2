use Rattle.std.proofs.Common.{◌≡◌, ◌-◌}
use Rattle.cost_tables.specs.Entries.{fresh_in, held_in, least_after}
use Rattle.cost_tables.proofs.rows.least_cost.Given as goal

abbrev pub invariant-loop-i : goal.invariant-loop-i
invariant-loop-i l = l.least ≡ least_after l.forward (λ r. fresh_in l.rows r l.m) (λ r. held_in l.rows r l.m) l.r l.low (l.i - l.low)
