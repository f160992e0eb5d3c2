-- The answer of a session to a request, and the session after it: GDB manual, E.2 Packets and E.4 General Query Packets.
use Rattle.std.specs.Prelude.{◌≡◌, ◌⊎◌, ◌<◌, ℕ, ◌+◌, nat_lt, Bool, cond, List, [], ◌∷◌, ◌++◌, length, take, drop, codes, true, false}
use Rattle.hex.specs.Hex.{encode_lower}
use Rattle.state_image.specs.Line.{line}
use Rattle.gdb_wire.specs.declared.request.Motion.{Motion}
use Rattle.gdb_wire.specs.declared.request.Request.{Request}
use Rattle.gdb_wire.specs.declared.request.Request.TheVariants.{Supported, Features, NoAcks, Why, Registers, Register, Memory, Insert, Remove, Move, Monitor, Write, Attached, SetThread, Detach, Kill, Other}
use Rattle.gdb_replies.specs.Commands.{IsCommand, help, hint}
use Rattle.gdb_replies.specs.declared.command.Command.{Command}
use Rattle.gdb_replies.specs.declared.command.Command.TheVariants.{When, Goto, End, Line, Quiet, Help, Unknown}
use Rattle.gdb_replies.specs.Description.{target_description}
use Rattle.gdb_replies.specs.StateTexts.{registers_text, register_text, memory_text}
use Rattle.gdb_replies.specs.StateWords.{place_line}
use Rattle.run_timeline.specs.Moves.{IsPlace, is_end}
use Rattle.gdb_session.specs.declared.halt.Halt.{Halt}
use Rattle.gdb_session.specs.declared.halt.Halt.TheVariants.{Interrupted}
use Rattle.gdb_session.specs.Debugger.{Debugger, shown, inserted, removed}
use Rattle.gdb_session.specs.Moves.{Leads, Shows, ending_texts, halt_text}

-- what the server can do
abbrev pub features : List ℕ
features = codes "PacketSize=4000;qXfer:features:read+;QStartNoAckMode+;ReverseStep+;ReverseContinue+"

abbrev pub refusal : List ℕ
refusal = codes "E.the run is recorded: its past can't be changed"

-- so many bytes of a text from a place on: `m` where there are more, `l` where these are the last
abbrev pub piece_text : List ℕ → ℕ → ℕ → List ℕ
piece_text text from len = cond (nat_lt (from + len) (length text)) (codes "m") (codes "l") ++ take len (drop from text)

-- ---- moves

-- A move answers with the program's output on a way forward, why the run ends if it does, and the stop reply. Only gdb's
-- interrupt breaks it off.
pub record Moves (interrupts : Bool) (d : Debugger) (motion : Motion) (e : Debugger) (texts : List (List ℕ)) : Type 0 where
  pub halt : Halt
  pub written : List (List ℕ)
  pub leads : Leads d.run d.stops motion d.place e.place halt
  pub cause : halt ≡ Interrupted → interrupts ≡ true
  pub shows : Shows d.quiet d.run d.place e.place written
  pub same : e ≡ record d { place = e.place }
  pub texts_are : texts ≡ written ++ ending_texts d.run e.place halt ++ halt_text d.stops.ranges halt ∷ []

-- ---- commands

-- the state with this number is shown, or the last one if the run ends before it
abbrev pub GoesTo : Debugger → ℕ → Debugger → Type 0
GoesTo d n e = (e ≡ record d { place = e.place }) × IsPlace d.run e.place × ((e.place ≡ n) ⊎ ((e.place < n) × (is_end d.run e.place ≡ true)))

-- what a command shows, and the session after it
abbrev pub Obeys : Debugger → Command → Debugger → List ℕ → Type 0
Obeys d When e text = (e ≡ d) × (text ≡ place_line d.place (shown d))
Obeys d (Goto n) e text = GoesTo d n e × (text ≡ place_line e.place (shown e))
Obeys d End e text = GoesTo d d.run.most e × (text ≡ place_line e.place (shown e))
Obeys d Line e text = (e ≡ d) × (text ≡ line d.place (shown d) ++ codes "\n")
Obeys d (Quiet quiet) e text = (e ≡ record d { quiet = quiet }) × (text ≡ [])
Obeys d Help e text = (e ≡ d) × (text ≡ help)
Obeys d Unknown e text = (e ≡ d) × (text ≡ hint)

-- a text behind `monitor` is answered in digits, and the empty one by OK
abbrev pub shown_text : List ℕ → List ℕ
shown_text [] = codes "OK"
shown_text (c ∷ text) = encode_lower (c ∷ text)

-- ---- requests

-- the session stays as it is, and answers one packet
abbrev pub Says : Debugger → Debugger → List (List ℕ) → List ℕ → Type 0
Says d e texts text = (e ≡ d) × (texts ≡ text ∷ [])

-- The session d answers a request by packets with these texts, and is e afterwards. Gdb may interrupt it.
abbrev pub Answers : Bool → Debugger → Request → Debugger → List (List ℕ) → Type 0
Answers interrupts d Supported e texts = Says d e texts features
Answers interrupts d (Features from len) e texts = Says d e texts (piece_text target_description from len)
Answers interrupts d NoAcks e texts = Says (record d { acks = false }) e texts (codes "OK")
Answers interrupts d Why e texts = Says d e texts (codes "T05")
Answers interrupts d Registers e texts = Says d e texts (registers_text (shown d))
Answers interrupts d (Register n) e texts = Says d e texts (register_text (shown d) n)
Answers interrupts d (Memory at len) e texts = Says d e texts (memory_text (shown d) at len)
Answers interrupts d (Insert kind at len) e texts = Says (record d { stops = inserted kind at len d.stops }) e texts (codes "OK")
Answers interrupts d (Remove kind at len) e texts = Says (record d { stops = removed kind at len d.stops }) e texts (codes "OK")
Answers interrupts d (Move motion) e texts = Moves interrupts d motion e texts
Answers interrupts d (Monitor text) e texts = (command : Command) × IsCommand text command × ((shown : List ℕ) × Obeys d command e shown × (texts ≡ shown_text shown ∷ []))
Answers interrupts d Write e texts = Says d e texts refusal
Answers interrupts d Attached e texts = Says d e texts (codes "1")
Answers interrupts d SetThread e texts = Says d e texts (codes "OK")
Answers interrupts d Detach e texts = Says d e texts (codes "OK")
-- gdb waits for nothing
Answers interrupts d Kill e texts = (e ≡ d) × (texts ≡ [])
-- gdb takes the empty answer for a request that isn't known
Answers interrupts d Other e texts = Says d e texts []
