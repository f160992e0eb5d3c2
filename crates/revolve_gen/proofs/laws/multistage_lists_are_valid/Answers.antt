use Rattle.revolve_gen.proofs.MultistageValidity.{multistage_valid}
use Rattle.revolve_gen.proofs.laws.multistage_lists_are_valid.Goals as goal

pub returns : goal.returns
returns c = multistage_valid
