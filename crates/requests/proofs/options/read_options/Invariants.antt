use Rattle.std.proofs.Common.{◌≡◌, map, length}
use Rattle.requests.specs.ChoiceParser.{behind_options}
use Rattle.requests.proofs.options.read_options.Given as goal

-- what stands behind the options that are left stands behind all
abbrev pub invariant-loop-behind : goal.invariant-loop-behind
invariant-loop-behind l = behind_options (map (λ w. w.items) l.rest) ≡ behind_options (map (λ w. w.items) l.words)

abbrev pub decreases-loop-behind : goal.decreases-loop-behind
decreases-loop-behind l = length l.rest
