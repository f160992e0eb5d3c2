use Rattle.std.proofs.Common.{◌∙◌}
use Rattle.requests.proofs.OptionNumbers.{stack_first}
use Rattle.requests.proofs.options.Options.stack_pages.Goals as goal

pub returns : goal.returns
returns c = c.number_like.ensures ∙ stack_first c.args.self.now
