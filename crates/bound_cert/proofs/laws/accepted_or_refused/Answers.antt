use Rattle.bound_cert.proofs.Decidability.{accepted_or_refused as law}
use Rattle.bound_cert.proofs.laws.accepted_or_refused.Goals as goal

pub returns : goal.returns
returns c = law
