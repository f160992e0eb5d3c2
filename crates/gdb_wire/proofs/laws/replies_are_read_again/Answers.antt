use Rattle.gdb_wire.proofs.ReplyPackets.{escapes_come_back, replies_are_items}
use Rattle.gdb_wire.proofs.laws.replies_are_read_again.Goals as goal

pub returns-clause-escapes : goal.returns-clause-escapes
returns-clause-escapes c = escapes_come_back

pub returns-clause-packets : goal.returns-clause-packets
returns-clause-packets c = replies_are_items
