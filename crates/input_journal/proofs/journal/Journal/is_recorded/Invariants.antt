use Rattle.std.proofs.Common.{◌<◌, take}
use Rattle.std.specs.List.{All}
use Rattle.input_journal.specs.Form.{IsShort}
use Rattle.input_journal.proofs.journal.Journal.is_recorded.Given as goal

abbrev pub invariant-loop-index : goal.invariant-loop-index
invariant-loop-index l = record {
  short : All IsShort (take l.index l.self);
  bytes : All (λ item. All (λ b. b < 256) item) (take l.index l.self);
}
