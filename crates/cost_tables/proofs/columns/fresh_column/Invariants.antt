use Rattle.std.proofs.Common.{◌+◌, ◌-◌, ◌^◌, length}
use Rattle.cost_tables.specs.Entries.{fresh_in}
use Rattle.cost_tables.specs.Rows.{IsColumn}
use Rattle.cost_tables.proofs.columns.fresh_column.Given as goal

abbrev pub invariant-loop-i : goal.invariant-loop-i
invariant-loop-i l = IsColumn (2 ^ 61) l.i (λ i. fresh_in l.rows (length l.rows - (i + 1)) l.m) l.column.items
