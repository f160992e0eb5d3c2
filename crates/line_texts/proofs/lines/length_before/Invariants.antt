use Rattle.std.proofs.Common.{◌≡◌, ◌+◌, drop, not, eqb}
use Rattle.std.specs.List.{prefix_len}
use Rattle.line_texts.proofs.lines.length_before.Given as goal

-- the bytes so far are others
abbrev pub invariant-loop-i : goal.invariant-loop-i
invariant-loop-i l = prefix_len (λ b. not (eqb b l.byte)) l.bytes ≡ l.i + prefix_len (λ b. not (eqb b l.byte)) (drop l.i l.bytes)
