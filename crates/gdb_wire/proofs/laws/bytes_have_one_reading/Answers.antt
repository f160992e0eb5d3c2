use Rattle.gdb_wire.proofs.ItemDecomposition.{one_reading, some_reading}
use Rattle.gdb_wire.proofs.laws.bytes_have_one_reading.Goals as goal

pub returns-clause-one : goal.returns-clause-one
returns-clause-one c = one_reading

pub returns-clause-some : goal.returns-clause-some
returns-clause-some c = some_reading
