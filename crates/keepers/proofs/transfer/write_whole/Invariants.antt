use Rattle.std.proofs.Common.{◌≤◌, length, take}
use Rattle.std.specs.Io.KnownBytes.{Appends}
use Rattle.keepers.proofs.transfer.write_whole.Given as goal

abbrev pub invariant-loop : goal.invariant-loop
invariant-loop g l = (l.at ≤ length l.piece) × Appends (g.W.Write.contents l.fn.out) (g.W.Write.contents l.out) (take l.at l.piece)
