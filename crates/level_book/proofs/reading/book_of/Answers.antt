use Rattle.std.proofs.Common.{map, take, length}
use Rattle.serde_json.specs.View.{view}
use Rattle.level_book.proofs.FaultlessEntries.{faultless}
use Rattle.level_book.proofs.LevelNames.{levels_named}
use Rattle.level_book.proofs.CostOrder.{levels_rise}
use Rattle.level_book.proofs.reading.book_of.Goals as goal

pub levels_of-requires-clause-faultless : goal.levels_of-requires-clause-faultless
levels_of-requires-clause-faultless c =
    faultless (map view c.in_ok-entries.entries.now) c.in_ok-check.ensures c.in_ok-check-2.ensures c.in_ok-check-3.ensures c.in_ok-check-4.ensures

pub new-requires-clause-names : goal.new-requires-clause-names
new-requires-clause-names c =
    let entries = c.in_ok-entries.entries.now in
    levels_named (map view entries) (take (length entries) c.levels_of.result) c.levels_of.ensures.says c.in_ok-check-2.ensures

pub new-requires-clause-costs : goal.new-requires-clause-costs
new-requires-clause-costs c =
    let entries = c.in_ok-entries.entries.now in
    levels_rise c.in_ok-forward.forward c.in_ok-reverse.reverse (map view entries) (take (length entries) c.levels_of.result) c.levels_of.ensures.says c.in_ok-check-5.ensures
