use Rattle.std.proofs.Common.{◌≡◌, ◌+◌, drop}
use Rattle.std.specs.List.{prefix_len}
use Rattle.line_texts.proofs.tokens.run_length.Given as goal

-- the bytes so far are of the run
abbrev pub invariant-loop-i : goal.invariant-loop-i
invariant-loop-i g l = prefix_len g.R.RunBytes.in_run l.bytes ≡ l.i + prefix_len g.R.RunBytes.in_run (drop l.i l.bytes)
