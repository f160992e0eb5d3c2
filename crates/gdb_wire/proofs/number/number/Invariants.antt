use Rattle.std.proofs.Common.{◌≡◌, ◌<◌, ◌^◌, drop}
use Rattle.gdb_wire.specs.RequestParser.{number_behind}
use Rattle.gdb_wire.proofs.number.number.Given as goal

-- what is read from here on is what is read from the start
abbrev pub invariant-loop-byte : goal.invariant-loop-byte
invariant-loop-byte l = record { small : l.n < 16 ^ l.byte-index; rest : number_behind l.n (drop l.byte-index l.digits) ≡ number_behind 0 l.digits }
