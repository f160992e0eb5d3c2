use Rattle.std.proofs.Common.{◌∙◌}
use Rattle.requests.proofs.OptionNumbers.{units_first}
use Rattle.requests.proofs.options.Options.unit_count.Goals as goal

pub returns : goal.returns
returns c = c.number_like.ensures ∙ units_first c.args.self.now
