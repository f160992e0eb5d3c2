-- The names that the clauses of other crates cite, passed on from one place. Declares nothing.
pub use Rattle.gdb_wire.specs.Items.{IsItem, IsPartial, packet, said_by}
pub use Rattle.gdb_wire.specs.Replies.{reply_packet}
pub use Rattle.gdb_wire.specs.Requests.{Begins}
