use Rattle.std.proofs.Common.{map, length}
use Rattle.std.specs.List.{AllByRecursion, flat_map}
use Rattle.endings.specs.declared.outcome.Outcome.{Outcome}
use Rattle.requests.specs.Bounds.{option_numbers, IsWithin, RefusesFirst}
use Rattle.requests.specs.ChoiceParser.{options_at}
use Rattle.requests.proofs.request.options_refusal.Given as goal

-- what is so of the numbers of the options that are left is so of all
abbrev pub invariant-loop-choice : goal.invariant-loop-choice
invariant-loop-choice l = record {
  all : AllByRecursion IsWithin (flat_map option_numbers (options_at (map (λ w. w.items) l.rest))) → AllByRecursion IsWithin (flat_map option_numbers (options_at (map (λ w. w.items) l.words)));
  first : (e : Outcome) → RefusesFirst (flat_map option_numbers (options_at (map (λ w. w.items) l.rest))) e → RefusesFirst (flat_map option_numbers (options_at (map (λ w. w.items) l.words))) e;
}

abbrev pub decreases-loop-choice : goal.decreases-loop-choice
decreases-loop-choice l = length l.rest
