use Rattle.std.proofs.Common.{◌≡◌}
use Rattle.action_text.specs.Parser.{text_at}
use Rattle.action_text.proofs.LevelWords.{NoneBelow}
use Rattle.action_text.proofs.words.take_level.Given as goal

-- the cursor stays, and no level so far has the name
abbrev pub invariant-loop-k : goal.invariant-loop-k
invariant-loop-k l = record {
  stays : l.cursor ≡ l.initial.cursor;
  none : NoneBelow l.book (text_at l.initial.cursor) l.k;
}
