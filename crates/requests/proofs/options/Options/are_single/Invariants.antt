use Rattle.std.proofs.Common.{◌≡◌, map, length}
use Rattle.requests.specs.ChoiceParser.{options_at, are_single}
use Rattle.requests.proofs.options.Options.are_single.Given as goal

-- what is so of the options that are left is so of all
abbrev pub invariant-loop-choice : goal.invariant-loop-choice
invariant-loop-choice l = are_single (options_at (map (λ w. w.items) l.rest)) ≡ are_single l.self

abbrev pub decreases-loop-choice : goal.decreases-loop-choice
decreases-loop-choice l = length l.rest
