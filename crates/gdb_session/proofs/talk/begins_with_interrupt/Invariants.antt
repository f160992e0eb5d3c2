use Rattle.std.proofs.Common.{◌≡◌, drop}
use Rattle.gdb_session.specs.Conversation.{interrupts}
use Rattle.gdb_session.proofs.talk.begins_with_interrupt.Given as goal

-- the bytes before are acks and noise
abbrev pub invariant-loop-byte : goal.invariant-loop-byte
invariant-loop-byte l = interrupts (drop l.byte-index l.bytes) ≡ interrupts l.bytes
