use Rattle.std.proofs.Common.{List, ℕ, ◌∙◌, take, subst}
use Rattle.gdb_wire.specs.Items.{IsItem, said_by as said_by_item}
use Rattle.gdb_session.specs.ServerState.{said_by}
use Rattle.gdb_session.proofs.Interrupts.{taken_item}
use Rattle.gdb_session.proofs.server.Server.take_item.Goals as goal

pub returns-clause-item : goal.returns-clause-item
returns-clause-item c =
    let held = c.args.self.now.held.items in
    let found = c.in-Some.found in
    let is = subst (λ (l : List ℕ). IsItem (said_by_item found.item) (take found.len l)) c.as_slice.ensures.value c.in-Some.ensures.item in
    taken_item held _ found.len (said_by c.in_ok-kind.kind c.read_item.new.text.items) (said_by_item found.item) (c.drop-drain.ensures.items ∙ c.drain.ensures.kept) c.in_ok-kind.ensures is
