-- No public clause cites this file. What a turn of a server makes of a conversation: it answers one item, or takes more bytes.
use Rattle.std.specs.Prelude.{ℕ, ◌+◌, ◌*◌, ◌≤◌, List, length}
use Rattle.std.specs.List.{AllByRecursion}
use Rattle.gdb_line.specs.Talk.{Talk}
use Rattle.gdb_wire.specs.Items.{Said}
use Rattle.run_timeline.specs.Moves.{Run}
use Rattle.gdb_session.specs.declared.server.Server.{Server}
use Rattle.gdb_session.specs.Conversation.{Talker, new_talker, IsLast, AreAnswered, Passes, Serves, ServesPartly, IsTooLong}
use Rattle.gdb_session.specs.ServerState.{talker}

-- none of these is gdb's last word
abbrev pub NoneLast : List Said → Type 0
NoneLast items = AllByRecursion (λ said. IsLast said → ⊥) items

-- these items came and were answered, and this is held after them
pub record Within (run : Run) (items : List Said) (held : List ℕ) (u : Talker) (a b : Talk) : Type 0 where
  pub came : List ℕ
  pub went : List ℕ
  pub passes : Passes came went a b
  pub answers : AreAnswered (new_talker run) items came held u went

-- some items, none of which is gdb's last word
abbrev pub GoesOn : Run → List ℕ → Talker → Talk → Talk → Type 0
GoesOn run held u a b = (items : List Said) × NoneLast items × Within run items held u a b

-- The bytes that came feed so many turns, with this held. Each byte feeds one turn when it comes, and one when it is taken.
abbrev pub IsFed : ℕ → List ℕ → Talk → Type 0
IsFed turns held talk = turns + length held ≤ 2 * length talk.came

-- ---- a turn

-- a conversation that had come to the old server has come to the new one
abbrev pub Continues : Server → Server → Talk → Talk → Type 0
Continues old new b c = (run : Run) (a : Talk) → GoesOn run old.held.items (talker old) a b → GoesOn run new.held.items (talker new) a c

-- it is over
abbrev pub Concludes : Server → Talk → Talk → Type 0
Concludes old b c = (run : Run) (a : Talk) → GoesOn run old.held.items (talker old) a b → Serves run a c

-- a part of it was served
abbrev pub Fails : Server → Talk → Talk → Type 0
Fails old b c = (run : Run) (a : Talk) → GoesOn run old.held.items (talker old) a b → ServesPartly run a c

-- its last packet is too long
abbrev pub Overflows : Server → Talk → Talk → Type 0
Overflows old b c = (run : Run) (a : Talk) → GoesOn run old.held.items (talker old) a b → IsTooLong c

-- one turn more is fed
abbrev pub Feeds : Server → Server → Talk → Talk → Type 0
Feeds old new b c = (turns : ℕ) → IsFed turns old.held.items b → IsFed (turns + 1) new.held.items c
