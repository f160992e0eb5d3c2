use Rattle.std.proofs.Common.{◌∙◌, sym}
use Rattle.requests.proofs.Requests.{one_more, no_more}
use Rattle.requests.proofs.options.read_options.Goals as goal

pub loop-behind-preserved : goal.loop-behind-preserved
loop-behind-preserved c = sym (one_more _ _ _ c.in-Some.ensures).rest ∙ c.loop-behind.invariant

pub returns-clause-behind : goal.returns-clause-behind
returns-clause-behind c = sym (no_more _ c.in_default.ensures).rest ∙ c.loop-behind.invariant
