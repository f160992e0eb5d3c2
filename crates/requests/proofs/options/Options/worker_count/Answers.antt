use Rattle.std.proofs.Common.{◌∙◌}
use Rattle.requests.proofs.OptionNumbers.{workers_first}
use Rattle.requests.proofs.options.Options.worker_count.Goals as goal

pub returns : goal.returns
returns c = c.number_like.ensures ∙ workers_first c.args.self.now
