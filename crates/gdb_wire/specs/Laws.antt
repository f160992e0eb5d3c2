-- What the definitions of items, of replies and of requests imply.
use Rattle.std.specs.Prelude.{◌≡◌, ℕ, List, ◌++◌}
use Rattle.std.specs.List.{flat_map}
use Rattle.gdb_wire.specs.Escapes.{unescaped, escaped_byte}
use Rattle.gdb_wire.specs.Items.{Said, packet, IsItem, IsPartial, IsItems}
use Rattle.gdb_wire.specs.Replies.{reply_packet}
use Rattle.gdb_wire.specs.Requests.{IsRequest}
use Rattle.gdb_wire.specs.declared.request.Request.{Request}

-- Bytes have at most one item at their front, whatever follows. Less than an item doesn't begin with one.
abbrev pub OneItem : Type 0
OneItem = (a b : Said) (x y more others : List ℕ) → IsItem a x → IsItem b y → x ++ more ≡ y ++ others → (x ≡ y) × (a ≡ b)

abbrev pub NoPartialItem : Type 0
NoPartialItem = (said : Said) (bytes more : List ℕ) → IsItem said bytes → IsPartial (bytes ++ more) → ⊥

-- all bytes are items and an incomplete one, in one way
abbrev pub OneReading : Type 0
OneReading = (bytes : List ℕ) (a b : List Said) (x y : List ℕ) → IsItems a bytes x → IsItems b bytes y → (a ≡ b) × (x ≡ y)

abbrev pub SomeReading : Type 0
SomeReading = (bytes : List ℕ) → (items : List Said) × ((rest : List ℕ) × IsItems items bytes rest)

-- The items of two pieces are those of the first, and those of its rest with the second.
abbrev pub PiecesJoin : Type 0
PiecesJoin =
    (first second rest end : List ℕ) (a b : List Said) → IsItems a first rest → IsItems b (rest ++ second) end → IsItems (a ++ b) (first ++ second) end

-- the text of an escaped text is the text again
abbrev pub EscapesComeBack : Type 0
EscapesComeBack = (text : List ℕ) → unescaped (flat_map escaped_byte text) ≡ text

-- the packet of a reply is one item, and says the reply
abbrev pub RepliesAreItems : Type 0
RepliesAreItems = (reply : List ℕ) → IsItem (packet reply) (reply_packet reply)

-- every text makes exactly one request
abbrev pub OneRequest : Type 0
OneRequest = (text : List ℕ) (a b : Request) → IsRequest text a → IsRequest text b → a ≡ b

abbrev pub SomeRequest : Type 0
SomeRequest = (text : List ℕ) → (request : Request) × IsRequest text request
