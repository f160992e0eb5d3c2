use Rattle.std.proofs.Common.{◌+◌, ◌*◌}
use Rattle.std.specs.Vec.{vec_len}
use Rattle.unit_digests.proofs.sharing.+sharing.Given as goal

abbrev pub decreases-take_digests : goal.decreases-take_digests
decreases-take_digests g l = 3 * vec_len l.digesters

abbrev pub decreases-take_beside : goal.decreases-take_beside
decreases-take_beside g l = 3 * vec_len l.others + 2

abbrev pub decreases-take_beside-behind : goal.decreases-take_beside-behind
decreases-take_beside-behind g l = 3 * vec_len l.others + 1
