use Rattle.std.proofs.Common.{◌≡◌, map, take}
use Rattle.std.specs.Prelude.{string_bytes}
use Rattle.reversal_program.proofs.bytes_of.Given as goal

abbrev pub invariant-loop-text : goal.invariant-loop-text
invariant-loop-text l = map (λ word. word.items) l.list.items ≡ map (λ text. string_bytes text) (take l.text-index l.texts)
