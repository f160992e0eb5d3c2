use Rattle.std.proofs.Common.{◌≡◌, length, map}
use Rattle.std.specs.Str.{bytes_eq}
use Rattle.std.specs.Map.{lookup}
use Rattle.rv_asm.specs.Encoder.{code_of}
use Rattle.rv_asm.proofs.table.find.Given as goal

abbrev pub invariant-loop-table : goal.invariant-loop-table
invariant-loop-table l = lookup (bytes_eq l.name) (map (λ k. (k.0.now, code_of k.1 k.2)) l.table) ≡ lookup (bytes_eq l.name) (map (λ k. (k.0.now, code_of k.1 k.2)) l.initial.table)

abbrev pub decreases-loop-table : goal.decreases-loop-table
decreases-loop-table l = length l.table
