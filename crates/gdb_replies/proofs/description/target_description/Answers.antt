use Rattle.std.proofs.Common.{refl}
use Rattle.std.specs.Fmt.{digits}
use Rattle.gdb_replies.proofs.description.target_description.Goals as goal

pub returns : goal.returns
unfolding digits
returns c = refl
