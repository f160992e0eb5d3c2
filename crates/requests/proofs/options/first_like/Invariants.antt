use Rattle.std.proofs.Common.{◌≡◌, find, map, length}
use Rattle.requests.specs.ChoiceParser.{options_at, is_like, as_choice}
use Rattle.requests.proofs.options.first_like.Given as goal

-- the first among the options that are left is the first among all
abbrev pub invariant-loop-other : goal.invariant-loop-other
invariant-loop-other l =
    find (is_like (as_choice l.choice)) (options_at (map (λ w. w.items) l.rest)) ≡ find (is_like (as_choice l.choice)) (options_at (map (λ w. w.items) l.words))

abbrev pub decreases-loop-other : goal.decreases-loop-other
decreases-loop-other l = length l.rest
