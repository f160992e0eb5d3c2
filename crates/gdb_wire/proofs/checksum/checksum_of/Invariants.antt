use Rattle.std.proofs.Common.{◌≡◌, ◌%◌, take, sum}
use Rattle.gdb_wire.proofs.checksum.checksum_of.Given as goal

abbrev pub invariant-loop-byte : goal.invariant-loop-byte
invariant-loop-byte l = l.total ≡ sum (take l.byte-index l.body) % 256
