use Rattle.bound_cert.proofs.Decidability.{threshold_exists as law}
use Rattle.bound_cert.proofs.laws.plans_have_thresholds.Goals as goal

pub returns : goal.returns
returns c = law
