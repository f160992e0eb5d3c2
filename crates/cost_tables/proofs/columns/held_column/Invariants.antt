use Rattle.std.proofs.Common.{◌+◌, ◌*◌, ◌^◌}
use Rattle.cost_tables.specs.Entries.{held_in}
use Rattle.cost_tables.specs.Rows.{IsColumn}
use Rattle.cost_tables.proofs.columns.held_column.Given as goal

abbrev pub invariant-loop-i : goal.invariant-loop-i
invariant-loop-i l = IsColumn (2 ^ 63) l.i (λ i. (i + 1) * l.forward + held_in l.rows i l.m) l.column.items
