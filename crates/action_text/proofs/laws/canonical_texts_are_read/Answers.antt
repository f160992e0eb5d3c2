use Rattle.action_text.proofs.CanonicalRoundTrip.{canonical_read}
use Rattle.action_text.proofs.laws.canonical_texts_are_read.Goals as goal

pub returns : goal.returns
returns c = canonical_read
