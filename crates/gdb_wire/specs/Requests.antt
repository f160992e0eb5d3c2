-- What the text of a packet asks for: GDB manual, E.2 Packets and E.4 General Query Packets. The text is the packet's
-- content, without its escapes. Packets that a server can ignore are Other.
use Rattle.std.specs.Prelude.{◌≡◌, ◌⊎◌, ℕ, List, ◌++◌, codes, Ok}
use Rattle.hex.specs.Hex.{decode_of}
use Rattle.gdb_wire.specs.Numbers.{IsNumber, AreNumbers}
use Rattle.gdb_wire.specs.declared.request.Motion.TheVariants.{Step, Continue, StepBack, ContinueBack}
use Rattle.gdb_wire.specs.declared.request.Request.{Request}
use Rattle.gdb_wire.specs.declared.request.Request.TheVariants.{Supported, Features, NoAcks, Why, Registers, Register, Memory, Insert, Remove, Move, Monitor, Write, Attached, SetThread, Detach, Kill, Other}
use Rattle.gdb_wire.specs.declared.request.StopKind.{StopKind}
use Rattle.gdb_wire.specs.declared.request.StopKind.TheVariants.{Breakpoint, WriteWatch}

-- the text begins with these letters, whatever comes after them
abbrev pub Begins : List ℕ → List ℕ → Type 0
Begins text letters = (rest : List ℕ) × (text ≡ letters ++ rest)

-- the text begins with these letters, and the fact holds of what comes after them
abbrev pub Behind : List ℕ → List ℕ → (List ℕ → Type 0) → Type 0
Behind text letters Holds = (rest : List ℕ) × (text ≡ letters ++ rest) × Holds rest

-- what comes after `Z` and `z`: a software breakpoint (0), a hardware breakpoint (1), or a write watchpoint (2)
abbrev pub IsKind : StopKind → List ℕ → Type 0
IsKind Breakpoint letter = (letter ≡ codes "0") ⊎ (letter ≡ codes "1")
IsKind WriteWatch letter = letter ≡ codes "2"

-- an address and a length after a letter and a kind, as in `Z0,10014,4`
abbrev pub IsStop : List ℕ → List ℕ → StopKind → ℕ → ℕ → Type 0
IsStop text letter kind at len = (digit : List ℕ) × IsKind kind digit × Behind text (letter ++ digit ++ codes ",") (λ rest. AreNumbers rest at len)

-- the text makes a known request
abbrev pub Asks : List ℕ → Request → Type 0
-- alone, or with gdb's features after a colon
Asks text Supported = (text ≡ codes "qSupported") ⊎ Begins text (codes "qSupported:")
Asks text (Features from len) = Behind text (codes "qXfer:features:read:target.xml:") (λ rest. AreNumbers rest from len)
Asks text NoAcks = text ≡ codes "QStartNoAckMode"
Asks text Why = text ≡ codes "?"
Asks text Registers = text ≡ codes "g"
Asks text (Register n) = Behind text (codes "p") (λ rest. IsNumber rest n)
Asks text (Memory at len) = Behind text (codes "m") (λ rest. AreNumbers rest at len)
Asks text (Insert kind at len) = IsStop text (codes "Z") kind at len
Asks text (Remove kind at len) = IsStop text (codes "z") kind at len
-- without an address: a run goes on from its place
Asks text (Move Step) = text ≡ codes "s"
Asks text (Move Continue) = text ≡ codes "c"
Asks text (Move StepBack) = text ≡ codes "bs"
Asks text (Move ContinueBack) = text ≡ codes "bc"
-- the command is spelled in hexadecimal digits
Asks text (Monitor command) = Behind text (codes "qRcmd,") (λ digits. decode_of digits ≡ Ok command)
-- all registers, one register, memory in digits, and memory in bytes
Asks text Write = (Begins text (codes "G") ⊎ Begins text (codes "P")) ⊎ (Begins text (codes "M") ⊎ Begins text (codes "X"))
Asks text Attached = text ≡ codes "qAttached"
Asks text SetThread = Begins text (codes "H")
Asks text Detach = text ≡ codes "D"
Asks text Kill = text ≡ codes "k"
Asks text Other = ⊥

-- the request of the text, or Other if it is unknown
abbrev pub IsRequest : List ℕ → Request → Type 0
IsRequest text Other = (request : Request) → Asks text request → ⊥
IsRequest text request = Asks text request
