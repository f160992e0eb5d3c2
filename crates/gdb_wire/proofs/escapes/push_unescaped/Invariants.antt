use Rattle.std.proofs.Common.{length, ◌-◌, ◌≡◌, ◌++◌, drop}
use Rattle.gdb_wire.specs.Escapes.{unescaped}
use Rattle.gdb_wire.proofs.escapes.push_unescaped.Given as goal

-- what was added and what is left to add are what the body stands for
abbrev pub invariant-loop-at : goal.invariant-loop-at
invariant-loop-at l = l.out.items ++ unescaped (drop l.at l.body) ≡ l.fn.out.items ++ unescaped l.body

abbrev pub decreases-loop-at : goal.decreases-loop-at
decreases-loop-at l = length l.body - l.at
