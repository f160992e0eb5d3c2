use Rattle.std.proofs.Common.{arith, sym, subst}
use Rattle.gdb_wire.specs.Items.{IsItem, said_by}
use Rattle.gdb_wire.proofs.Frames.{none_partial, short_partial, whole}
use Rattle.gdb_wire.proofs.framing.packet_at.Goals as goal

pub returns-in_err-end-clause-item : goal.returns-in_err-end-clause-item
returns-in_err-end-clause-item c = rw c.from_residual.ensures (none_partial c.args.rest.now c.in_err-end.ensures)

pub returns-then-rest-end-lt3-clause-item : goal.returns-then-rest-end-lt3-clause-item
returns-then-rest-end-lt3-clause-item c =
    let found = c.in_ok-end.ensures in
    short_partial c.args.rest.now c.in_ok-end.end found.1 found.0 found.2 c.if-rest-end-lt3.true

pub returns-clause-item : goal.returns-clause-item
returns-clause-item c =
    let found = c.in_ok-end.ensures in
    let frame = whole c.args.rest.now c.in_ok-end.end (omega (arith, found.0, c.if-rest-end-lt3.false)) found.2 in
    subst (IsItem (said_by c.packet_of-item.result)) (sym frame) c.packet_of-item.ensures
