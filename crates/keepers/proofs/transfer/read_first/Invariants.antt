use Rattle.std.proofs.Common.{◌≤◌, length, take}
use Rattle.std.specs.Io.KnownBytes.{Consumes}
use Rattle.keepers.proofs.transfer.read_first.Given as goal

abbrev pub invariant-loop : goal.invariant-loop
invariant-loop g l = (l.at ≤ length l.room) × Consumes (g.F.Read.remaining l.fn.file) (g.F.Read.remaining l.file) (take l.at l.room)
