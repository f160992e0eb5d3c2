use Rattle.std.proofs.Common.{◌≡◌, length, map, take}
use Rattle.std.specs.List.{AllByRecursion}
use Rattle.serde_json.specs.View.{view}
use Rattle.level_book.specs.BookCosts.{IsLevelWithinLimits}
use Rattle.level_book.specs.BookText.{SayLevels}
use Rattle.level_book.proofs.reading.levels_of.Given as goal

-- the first levels are said by the first entries
abbrev pub invariant-loop-k : goal.invariant-loop-k
invariant-loop-k l = record {
  says : SayLevels (take l.k (map view l.entries)) (take l.k l.levels);
  limits : AllByRecursion IsLevelWithinLimits l.levels;
  four : length l.levels ≡ 4;
}
