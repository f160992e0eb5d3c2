use Rattle.std.proofs.Common.{◌∙◌, sym, ap, Bool, Some, cond, find, List, map}
use Rattle.requests.specs.Request.{Choice}
use Rattle.requests.specs.ChoiceParser.{options_at, is_like, as_choice}
use Rattle.requests.proofs.Requests.{one_more, no_more}
use Rattle.requests.proofs.options.first_like.Goals as goal

pub returns-then-is_like : goal.returns-then-is_like
returns-then-is_like c =
    let p : Choice → Bool = is_like (as_choice c.args.choice.now) in
    let x = as_choice c.in-Some.other in
    let xs : List Choice = options_at (map (λ w. w.items) c.in-Some.behind.now) in
    sym c.loop-other.invariant ∙ ap (find p) (one_more _ _ _ c.in-Some.ensures).options ∙ sym (ap (λ b. cond b (Some x) (find p xs)) c.if-is_like.ensures)

pub loop-other-preserved : goal.loop-other-preserved
loop-other-preserved c =
    let p : Choice → Bool = is_like (as_choice c.args.choice.now) in
    let x = as_choice c.in-Some.other in
    let xs : List Choice = options_at (map (λ w. w.items) c.in-Some.behind.now) in
    ap (λ b. cond b (Some x) (find p xs)) c.if-is_like.ensures ∙ ap (find p) (sym (one_more _ _ _ c.in-Some.ensures).options) ∙ c.loop-other.invariant

pub returns : goal.returns
returns c =
    let p : Choice → Bool = is_like (as_choice c.args.choice.now) in
    sym c.loop-other.invariant ∙ ap (find p) (no_more _ c.in_default.ensures).options
