use Rattle.std.proofs.Common.{◌≡◌, slice_index}
use Rattle.cost_tables.specs.Entries.{least_split}
use Rattle.disk_gen.proofs.disk_tables.least_cost.Given as goal

abbrev pub invariant-loop-i : goal.invariant-loop-i
invariant-loop-i l = l.least ≡ least_split l.forward (slice_index l.fresh) (slice_index l.held) l.r l.i
