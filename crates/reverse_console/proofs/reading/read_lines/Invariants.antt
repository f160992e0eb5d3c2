use Rattle.std.proofs.Common.{◌≡◌, ◌+◌, ◌≤◌, [], length}
use Rattle.line_texts.specs.Lines.{lines}
use Rattle.reverse_console.specs.ScriptParser.{orders_from}
use Rattle.reverse_console.proofs.reading.read_lines.Given as goal

-- what is read from here on, behind the orders so far, is what is read from the start
abbrev pub invariant-lines : goal.invariant-lines
invariant-lines l = record {
  read : orders_from l.count l.orders.items l.number l.lines ≡ orders_from l.count [] 1 (lines l.bytes);
  number : l.number + length l.lines ≡ length (lines l.bytes) + 1;
  few : length l.orders.items + 1 ≤ l.number;
}

abbrev pub decreases-lines : goal.decreases-lines
decreases-lines l = length l.lines
