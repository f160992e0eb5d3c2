use Rattle.action_text.proofs.CanonicalRoundTrip.{one_spelling}
use Rattle.action_text.proofs.laws.spellings_are_told_apart.Goals as goal

pub returns : goal.returns
returns c = one_spelling
