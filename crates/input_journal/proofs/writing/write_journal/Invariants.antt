use Rattle.std.proofs.Common.{◌≡◌, take, length}
use Rattle.std.specs.List.{All}
use Rattle.input_journal.specs.Form.{beginning, IsShort}
use Rattle.input_journal.proofs.writing.write_journal.Given as goal

-- the beginning of the journal's bytes, as far as its items are written
abbrev pub invariant-loop-index : goal.invariant-loop-index
invariant-loop-index l = record {
  written : l.bytes.items ≡ beginning (length l.journal) (take l.index l.journal);
  short : All IsShort (take l.index l.journal);
}
