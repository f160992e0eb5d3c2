use Rattle.disk_gen.proofs.StretchCounts.{stretches_least}
use Rattle.disk_gen.proofs.laws.stretches_are_least.Goals as goal

pub returns : goal.returns
returns c = stretches_least
