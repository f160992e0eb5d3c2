use Rattle.std.proofs.Common.{◌∙◌, sym, ap, not, ◌&&◌, List, map}
use Rattle.requests.specs.Request.{Choice}
use Rattle.requests.specs.ChoiceParser.{options_at, are_single}
use Rattle.requests.proofs.Requests.{one_more, no_more}
use Rattle.requests.proofs.options.Options.are_single.Goals as goal

pub returns-then-has_like : goal.returns-then-has_like
returns-then-has_like c =
    let xs : List Choice = options_at (map (λ w. w.items) c.in-Some.behind.now) in
    ap (λ b. not b && are_single xs) c.if-has_like.ensures ∙ ap are_single (sym (one_more _ _ _ c.in-Some.ensures).options) ∙ c.loop-choice.invariant

pub loop-choice-preserved : goal.loop-choice-preserved
loop-choice-preserved c =
    let xs : List Choice = options_at (map (λ w. w.items) c.in-Some.behind.now) in
    ap (λ b. not b && are_single xs) c.if-has_like.ensures ∙ ap are_single (sym (one_more _ _ _ c.in-Some.ensures).options) ∙ c.loop-choice.invariant

pub returns : goal.returns
returns c = ap are_single (sym (no_more _ c.in_default.ensures).options) ∙ c.loop-choice.invariant
