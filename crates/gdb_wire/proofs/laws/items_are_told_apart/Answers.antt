use Rattle.gdb_wire.proofs.Items.{one_item, no_partial_item}
use Rattle.gdb_wire.proofs.laws.items_are_told_apart.Goals as goal

pub returns-clause-one : goal.returns-clause-one
returns-clause-one c = one_item

pub returns-clause-none : goal.returns-clause-none
returns-clause-none c = no_partial_item
