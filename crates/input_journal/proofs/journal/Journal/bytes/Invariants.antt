use Rattle.std.proofs.Common.{◌≡◌, ◌*◌, ◌≤◌, length, take}
use Rattle.std.specs.List.{sum_by}
use Rattle.input_journal.proofs.journal.Journal.bytes.Given as goal

abbrev pub invariant-loop-index : goal.invariant-loop-index
invariant-loop-index l = record {
  sum : l.count ≡ sum_by length (take l.index l.self);
  few : l.count ≤ 1048576 * l.index;
}
