use Rattle.std.proofs.Common.{◌≡◌, length}
use Rattle.std.specs.List.{AllByRecursion}
use Rattle.rv_asm.specs.LineMeaning.{operands_of, no_operands}
use Rattle.rv_asm.specs.Encoder.{IsNarrow}
use Rattle.rv_asm.proofs.operands.operands.Given as goal
use Rattle.rv_asm.specs.LabelMap.{names_at}

abbrev pub invariant-loop-due : goal.invariant-loop-due
invariant-loop-due l = record {
  read : operands_of (names_at l.labels.by_name) l.place l.end l.due l.tokens l.operands ≡ operands_of (names_at l.labels.by_name) l.place l.end l.wants l.initial.tokens no_operands;
  narrow : AllByRecursion IsNarrow l.due;
}

abbrev pub decreases-loop-due : goal.decreases-loop-due
decreases-loop-due l = length l.due
