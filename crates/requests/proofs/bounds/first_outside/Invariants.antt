use Rattle.std.proofs.Common.{drop}
use Rattle.std.specs.List.{AllByRecursion}
use Rattle.endings.specs.declared.outcome.Outcome.{Outcome}
use Rattle.requests.specs.Bounds.{IsWithin, RefusesFirst}
use Rattle.requests.proofs.bounds.first_outside.Given as goal

-- what is so of the numbers that are left is so of all
abbrev pub invariant-loop-bounded : goal.invariant-loop-bounded
invariant-loop-bounded l = record {
  all : AllByRecursion IsWithin (drop l.bounded-index l.numbers) → AllByRecursion IsWithin l.numbers;
  first : (e : Outcome) → RefusesFirst (drop l.bounded-index l.numbers) e → RefusesFirst l.numbers e;
}
