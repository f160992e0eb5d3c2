use Rattle.std.proofs.Common.{◌≡◌, ◌+◌, ◌^◌, ◌<◌, ◌≤◌, length}
use Rattle.line_texts.specs.Lines.{lines}
use Rattle.cert_text.specs.MarkedLines.{marked, line_count}
use Rattle.cert_text.proofs.lines.next_marked.Given as goal

-- the lines so far aren't marked
abbrev pub invariant-loop-rest : goal.invariant-loop-rest
invariant-loop-rest l = record {
  none_yet : marked (l.passed + 1) (lines l.rest) ≡ marked (l.fn.before + 1) (lines l.bytes);
  counted : l.passed + line_count (lines l.rest) ≡ l.fn.before + line_count (lines l.bytes);
  few : l.passed + length l.rest < 2 ^ 31;
  within : length l.rest ≤ length l.bytes;
}

abbrev pub decreases-loop-rest : goal.decreases-loop-rest
decreases-loop-rest l = length l.rest
