use Rattle.gdb_wire.proofs.ItemDecomposition.{pieces_join as joined}
use Rattle.gdb_wire.proofs.laws.pieces_join.Goals as goal

pub returns : goal.returns
returns c = joined
