use Rattle.cert_text.proofs.CanonicalRoundTrip.{joined}
use Rattle.cert_text.proofs.laws.pieces_join.Goals as goal

pub returns : goal.returns
returns c = joined
