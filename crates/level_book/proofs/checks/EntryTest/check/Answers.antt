use Rattle.std.proofs.Common.{map}
use Rattle.serde_json.specs.View.{view}
use Rattle.level_book.specs.EntryTests.{found_by}
use Rattle.level_book.proofs.FirstFault.{each_goes_on, each_stops, each_ends}
use Rattle.level_book.proofs.checks.EntryTest.check.Goals as goal

pub returns-in-Some : goal.returns-in-Some
returns-in-Some c =
    each_stops (found_by c.args.self (map view c.args.list.now)) c.args.list.now c.loop-k.k c.in-Some.fault c.loop-k-test.true c.in-Some.ensures c.loop-k.invariant

pub loop-k-preserved : goal.loop-k-preserved
loop-k-preserved c =
    each_goes_on (found_by c.args.self (map view c.args.list.now)) c.args.list.now c.loop-k.k c.loop-k-test.true c.in_default.ensures c.loop-k.invariant

pub returns : goal.returns
returns c = each_ends (found_by c.args.self (map view c.args.list.now)) c.args.list.now c.loop-k.k c.loop-k-test.false c.loop-k.invariant
