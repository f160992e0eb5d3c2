use Rattle.std.proofs.Common.{◌≤◌}
use Rattle.std.specs.Vec.{vec_len, vec_capacity}
use Rattle.std.specs.Io.KnownBytes.{Consumes}
use Rattle.keepers.proofs.transfer.read_whole.Given as goal

abbrev pub invariant-loop : goal.invariant-loop
invariant-loop g l =
    (vec_len l.into ≤ l.limit) × (vec_capacity l.fn.into ≤ vec_capacity l.into) × Consumes (g.F.Read.remaining l.fn.file) (g.F.Read.remaining l.file) l.into.items
