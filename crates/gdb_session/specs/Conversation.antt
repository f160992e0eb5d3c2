-- What is answered to all that comes: GDB manual, E.1 Overview, E.8 Interrupts and E.11 Packet Acknowledgment.
use Rattle.std.specs.Prelude.{◌≡◌, ◌<◌, ◌⊎◌, ℕ, ◌==◌, ◌||◌, Bool, true, false, cond, List, [], ◌∷◌, ◌++◌, length, take, codes}
use Rattle.std.specs.List.{flat_map}
use Rattle.gdb_line.specs.Talk.{Talk}
use Rattle.gdb_wire.specs.Items.{Said, packet, damaged_packet, interrupt, resend, ack_or_noise, IsItem, IsPartial}
use Rattle.gdb_wire.specs.Replies.{reply_packet}
use Rattle.gdb_wire.specs.Requests.{IsRequest}
use Rattle.gdb_wire.specs.declared.request.Request.{Request}
use Rattle.gdb_wire.specs.declared.request.Request.TheVariants.{Detach, Kill}
use Rattle.run_timeline.specs.Moves.{Run}
use Rattle.gdb_session.specs.Debugger.{Debugger, new_debugger}
use Rattle.gdb_session.specs.Answers.{Answers}

-- a session, and the last packet that went, which gdb may want again
pub record Talker : Type 0 where
  pub debugger : Debugger
  pub last : List ℕ

-- the last packet of these texts, or the one before where there are none
abbrev pub last_packet : List ℕ → List (List ℕ) → List ℕ
last_packet before [] = before
last_packet before (text ∷ texts) = last_packet (reply_packet text) texts

-- Bytes that are sent only if packets are acknowledged. The state before the request counts.
abbrev pub if_acks : Talker → List ℕ → List ℕ
if_acks t bytes = cond t.debugger.acks bytes []

-- the reply to one item, and the session after it
abbrev pub Replies : Bool → Talker → Said → Talker → List ℕ → Type 0
Replies broken t (packet text) u bytes =
    (request : Request) × (texts : List (List ℕ)) × IsRequest text request × Answers broken t.debugger request u.debugger texts
    × (u.last ≡ last_packet t.last texts) × (bytes ≡ if_acks t (codes "+") ++ flat_map reply_packet texts)
Replies broken t damaged_packet u bytes = (u ≡ t) × (bytes ≡ if_acks t (codes "-"))
Replies broken t resend u bytes = (u ≡ t) × (bytes ≡ if_acks t t.last)
-- an interrupt breaks off the move before it; without one it does nothing
Replies broken t interrupt u bytes = (u ≡ t) × (bytes ≡ [])
Replies broken t ack_or_noise u bytes = (u ≡ t) × (bytes ≡ [])

-- Whether these bytes begin with an interrupt, but for acks and noise before it: bytes other than `$`, Ctrl-C and `-`.
abbrev pub interrupts : List ℕ → Bool
interrupts [] = false
interrupts (b ∷ bytes) = cond (b == 3) true (cond (b == 36 || b == 45) false (interrupts bytes))

-- gdb detaches from the program, or kills it
abbrev pub IsLast : Said → Type 0
IsLast (packet text) = IsRequest text Detach ⊎ IsRequest text Kill
IsLast _ = ⊥

-- The bytes are these items and the rest. The items are answered in order, from t to u, by the bytes that went. Nothing
-- after gdb's last word is answered.
abbrev pub AreAnswered : Talker → List Said → List ℕ → List ℕ → Talker → List ℕ → Type 0
AreAnswered t [] bytes rest u went = (bytes ≡ rest) × (u ≡ t) × (went ≡ [])
AreAnswered t (said ∷ others) bytes rest u went =
    (front : List ℕ) × (back : List ℕ) × (v : Talker) × (first : List ℕ) × (later : List ℕ)
    × (bytes ≡ front ++ back) × IsItem said front × Replies (interrupts back) t said v first
    × AreAnswered v others back rest u later × (went ≡ first ++ later) × (IsLast said → others ≡ [])

-- the last of these items is gdb's last word
abbrev pub EndsTalk : List Said → Type 0
EndsTalk [] = ⊥
EndsTalk (said ∷ []) = IsLast said
EndsTalk (said ∷ next ∷ others) = EndsTalk (next ∷ others)

-- a session that begins, from which no packet went
abbrev pub new_talker : Run → Talker
new_talker run = record { debugger = new_debugger run; last = [] }

-- All that gdb had to say came and was answered: up to its last word, or to the line's end but for less than an item.
pub record IsServed (run : Run) (came left went : List ℕ) : Type 0 where
  pub items : List Said
  pub rest : List ℕ
  pub end : Talker
  pub answers : AreAnswered (new_talker run) items came rest end went
  pub all : EndsTalk items ⊎ (IsPartial rest × (left ≡ []))

-- Some of what came was answered, from the first item on, and a beginning of the answers went.
pub record IsServedPartly (run : Run) (came went : List ℕ) : Type 0 where
  pub items : List Said
  pub rest : List ℕ
  pub end : Talker
  pub whole : List ℕ
  pub count : ℕ
  pub answers : AreAnswered (new_talker run) items came rest end whole
  pub beginning : went ≡ take count whole

-- ---- over a line

-- these bytes came and these went
abbrev pub Passes : List ℕ → List ℕ → Talk → Talk → Type 0
Passes came went old new = (old.left ≡ came ++ new.left) × (new.came ≡ old.came ++ came) × (new.went ≡ old.went ++ went)

abbrev pub Serves : Run → Talk → Talk → Type 0
Serves run old new = (came : List ℕ) × (went : List ℕ) × Passes came went old new × IsServed run came new.left went

abbrev pub ServesPartly : Run → Talk → Talk → Type 0
ServesPartly run old new = (came : List ℕ) × (went : List ℕ) × Passes came went old new × IsServedPartly run came went

-- What came ends with less than an item of more than 65,536 bytes.
abbrev pub IsTooLong : Talk → Type 0
IsTooLong talk = (front : List ℕ) × (rest : List ℕ) × (talk.came ≡ front ++ rest) × IsPartial rest × (65536 < length rest)
