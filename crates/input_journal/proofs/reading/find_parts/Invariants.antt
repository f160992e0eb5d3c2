use Rattle.std.proofs.Common.{◌≡◌, ◌≤◌, ◌-◌, drop, length}
use Rattle.input_journal.specs.Parts.{items_in, AreParts}
use Rattle.input_journal.specs.Parser.{items_at, reading}
use Rattle.input_journal.proofs.Items.{with_front}
use Rattle.input_journal.proofs.reading.find_parts.Given as goal

-- what was read and what is still read are all that is read
abbrev pub invariant-loop : goal.invariant-loop
invariant-loop l = record {
  within : l.at ≤ length l.bytes;
  counted : length l.parts.items ≡ l.counter;
  parts : AreParts (length l.bytes) l.parts.items;
  so_far : with_front (items_in l.bytes l.parts.items) (items_at (l.count - l.counter) l.at (drop l.at l.bytes)) ≡ reading l.bytes;
}
