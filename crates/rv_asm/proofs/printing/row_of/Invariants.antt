use Rattle.std.proofs.Common.{◌≡◌, length, map}
use Rattle.std.specs.Prelude.{find}
use Rattle.rv_asm.specs.Encoder.{code_of, entries}
use Rattle.rv_asm.specs.PackedWords.{takes}
use Rattle.rv_asm.proofs.printing.row_of.Given as goal

abbrev pub invariant-loop-rows : goal.invariant-loop-rows
invariant-loop-rows l = find (λ k. takes k.1.format k.1.base l.word) (map (λ k. (k.0.now, code_of k.1 k.2)) l.rows) ≡ find (λ k. takes k.1.format k.1.base l.word) entries

abbrev pub decreases-loop-rows : goal.decreases-loop-rows
decreases-loop-rows l = length l.rows
