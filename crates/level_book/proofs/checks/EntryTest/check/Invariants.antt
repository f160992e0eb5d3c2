use Rattle.std.proofs.Common.{map}
use Rattle.serde_json.specs.View.{view}
use Rattle.level_book.specs.EntryTests.{found_by}
use Rattle.level_book.proofs.FirstFault.{NoneBefore}
use Rattle.level_book.proofs.checks.EntryTest.check.Given as goal

-- the entries so far pass
abbrev pub invariant-loop-k : goal.invariant-loop-k
invariant-loop-k l = NoneBefore (found_by l.self (map view l.list)) l.list l.k
