-- No public clause cites this file. Where a server is within a conversation, and what its parts do.
use Rattle.std.specs.Prelude.{◌≡◌, ◌⊎◌, ℕ, List, ◌∷◌, ◌++◌, [], take, codes, true}
use Rattle.std.specs.List.{flat_map}
use Rattle.gdb_line.specs.Talk.{Talk, Comes}
use Rattle.gdb_wire.specs.Items.{Said, packet, damaged_packet, interrupt, resend, ack_or_noise}
use Rattle.gdb_wire.specs.Replies.{reply_packet}
use Rattle.gdb_wire.specs.declared.request.Motion.{Motion}
use Rattle.gdb_session.specs.declared.halt.Halt.{Halt}
use Rattle.gdb_session.specs.declared.halt.Halt.TheVariants.{Interrupted}
use Rattle.gdb_session.specs.declared.server.Kind.{Kind}
use Rattle.gdb_session.specs.declared.server.Kind.TheVariants as kind
use Rattle.gdb_session.specs.declared.server.Server.{Server}
use Rattle.gdb_session.specs.Debugger.{Debugger}
use Rattle.gdb_session.specs.Moves.{Leads, Shows, ending_texts, halt_text}
use Rattle.gdb_session.specs.Conversation.{Talker, new_talker, last_packet, if_acks, interrupts, Replies, Passes}

-- ---- items

-- what an item of this kind says, where the text of a packet is this
abbrev pub said_by : Kind → List ℕ → Said
said_by kind.Packet text = packet text
said_by kind.DamagedPacket text = damaged_packet
said_by kind.Interrupt text = interrupt
said_by kind.Resend text = resend
said_by kind.AckOrNoise text = ack_or_noise

abbrev pub talker : Server → Talker
talker s = record { debugger = s.session; last = s.last.items }

-- nothing came to it
pub record IsNew (s : Server) : Type 0 where
  pub talker_is : talker s ≡ new_talker s.session.run
  pub held : s.held.items ≡ []
  pub out : s.out.items ≡ []

-- what goes for an item of this kind that is no packet
abbrev pub sign_of : Kind → Talker → List ℕ
sign_of kind.DamagedPacket t = if_acks t (codes "-")
sign_of kind.Resend t = if_acks t t.last
sign_of _ t = []

-- nothing but what is held, and the text, is another
pub record TakesItem (old new : Server) : Type 0 where
  pub talker_same : talker new ≡ talker old
  pub out : new.out.items ≡ old.out.items

-- nothing but what is to go, and the last packet, is another
pub record SaysReply (old new : Server) : Type 0 where
  pub session : new.session ≡ old.session
  pub held : new.held.items ≡ old.held.items

-- nothing but what is to go is another
pub record OnlySends (old new : Server) : Type 0 where
  pub talker_same : talker new ≡ talker old
  pub held : new.held.items ≡ old.held.items

-- nothing but what is held is another
pub record OnlyHolds (old new : Server) : Type 0 where
  pub talker_same : talker new ≡ talker old
  pub out : new.out.items ≡ old.out.items

-- a piece came, and is held
abbrev pub Holds : Server → Server → Talk → Talk → Type 0
Holds old new a b = (piece : List ℕ) × Comes piece a b × (new.held.items ≡ old.held.items ++ piece)

-- a piece came
abbrev pub MayCome : Talk → Talk → Type 0
MayCome a b = (piece : List ℕ) × Comes piece a b

-- bytes came, and some of what was to go went
abbrev pub GoesSome : List ℕ → Talk → Talk → Type 0
GoesSome out a b = (came : List ℕ) × (went : List ℕ) × (count : ℕ) × Passes came went a b × (went ≡ take count out)

-- ---- moves

-- what came is held, and of what is made, behind what was to go, some went, and the rest is to go
abbrev pub Does : Server → Server → List ℕ → Talk → Talk → Type 0
Does old new made a b =
    (came : List ℕ) × (went : List ℕ) × Passes came went a b × (new.held.items ≡ old.held.items ++ came) × (old.out.items ++ made ≡ went ++ new.out.items)

-- the place is another, and what the program writes on the way to it was added in these texts
pub record IsShown (old new : Server) (written : List (List ℕ)) : Type 0 where
  pub shows : Shows old.session.quiet old.session.run old.session.place new.session.place written
  pub session : new.session ≡ record old.session { place = new.session.place }
  pub last : new.last.items ≡ last_packet old.last.items written

-- what gdb hears of where a move stops
abbrev pub stop_texts : Debugger → Halt → List (List ℕ)
stop_texts d halt = ending_texts d.run d.place halt ++ halt_text d.stops.ranges halt ∷ []

-- a move that came to its end, and shows these texts of the program's output
pub record IsMoved (old new : Server) (motion : Motion) (halt : Halt) (written : List (List ℕ)) : Type 0 where
  pub leads : Leads old.session.run old.session.stops motion old.session.place new.session.place halt
  pub shows : Shows old.session.quiet old.session.run old.session.place new.session.place written
  pub cause : halt ≡ Interrupted → interrupts new.held.items ≡ true
  pub session : new.session ≡ record old.session { place = new.session.place }
  pub last : new.last.items ≡ last_packet old.last.items written

-- A move was broken off by a fault. Some of what it would have shown of the output went, behind what was to go.
abbrev pub BreaksOff : Server → Motion → Talk → Talk → Type 0
BreaksOff old motion a b =
    (m : ℕ) × (halt : Halt) × (written : List (List ℕ)) × (came : List ℕ) × (went : List ℕ) × (count : ℕ)
    × Leads old.session.run old.session.stops motion old.session.place m halt × (halt ≡ Interrupted → ⊥)
    × Shows old.session.quiet old.session.run old.session.place m written
    × Passes came went a b × (went ≡ take count (old.out.items ++ flat_map reply_packet written))

-- ---- answers

-- an item was answered, and nothing is to go
abbrev pub IsAnsweredBy : Server → Server → Said → Talk → Talk → Type 0
IsAnsweredBy old new said a b =
    (went : List ℕ) × Replies (interrupts new.held.items) (talker old) said (talker new) went × Does old new went a b

-- nothing of the answer to an item went, or some of it did, behind which bytes came
abbrev pub IsAnsweredPartly : Server → Said → Talk → Talk → Type 0
IsAnsweredPartly old said a b =
    MayCome a b
    ⊎ ((came : List ℕ) × (went : List ℕ) × (whole : List ℕ) × (u : Talker) × (count : ℕ)
    × Passes came went a b × Replies (interrupts (old.held.items ++ came)) (talker old) said u whole × (went ≡ take count whole))
