use Rattle.std.proofs.Common.{◌≡◌, ◌+◌, ◌≤◌, map, length}
use Rattle.requests.specs.ChoiceParser.{options_at}
use Rattle.requests.specs.Places.{place_from}
use Rattle.requests.proofs.places.place.Given as goal

-- the place among the options that are left is that among all
abbrev pub invariant-loop-choice : goal.invariant-loop-choice
invariant-loop-choice l = record {
  same : place_from l.level l.word (options_at (map (λ w. w.items) l.rest)) ≡ place_from l.level 1 (options_at (map (λ w. w.items) l.words));
  few : l.word + length (options_at (map (λ w. w.items) l.rest)) ≤ 9;
}

abbrev pub decreases-loop-choice : goal.decreases-loop-choice
decreases-loop-choice l = length l.rest
