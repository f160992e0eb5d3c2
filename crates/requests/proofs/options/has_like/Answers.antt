use Rattle.std.proofs.Common.{◌∙◌, map}
use Rattle.requests.specs.ChoiceParser.{options_at, is_like, as_choice}
use Rattle.requests.proofs.OptionNumbers.{any_found}
use Rattle.requests.proofs.options.has_like.Goals as goal

pub returns : goal.returns
returns c =
    c.is_some.ensures
    ∙ any_found (is_like (as_choice c.args.choice.now)) (options_at (map (λ w. w.items) c.args.words.now)) c.first_like.result c.first_like.ensures
