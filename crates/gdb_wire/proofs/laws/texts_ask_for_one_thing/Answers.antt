use Rattle.gdb_wire.proofs.ParserCorrectness.{one_request, some_request}
use Rattle.gdb_wire.proofs.laws.texts_ask_for_one_thing.Goals as goal

pub returns-clause-one : goal.returns-clause-one
returns-clause-one c = one_request

pub returns-clause-some : goal.returns-clause-some
returns-clause-some c = some_request
