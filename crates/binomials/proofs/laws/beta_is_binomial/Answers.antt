use Rattle.binomials.proofs.Ratio.{beta_binomial}
use Rattle.binomials.proofs.laws.beta_is_binomial.Goals as goal

pub returns : goal.returns
returns c = beta_binomial
