use Rattle.std.proofs.Common.{sym, ◌∙◌, arith}
use Rattle.gdb_session.proofs.Interrupts.{interrupted_at}
use Rattle.gdb_session.proofs.talk.begins_with_interrupt.Goals as goal

pub returns-then-byte-eq-CTRL_C : goal.returns-then-byte-eq-CTRL_C
returns-then-byte-eq-CTRL_C c =
    sym (interrupted_at c.args.bytes.now c.loop-byte.byte-index 0 (omega arith) c.if-byte-eq-CTRL_C.true) ∙ c.loop-byte.invariant
