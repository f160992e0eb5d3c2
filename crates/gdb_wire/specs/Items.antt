-- The items of the line from gdb: GDB manual, E.1 Overview (packets), E.8 Interrupts and E.11 Packet Acknowledgment.
use Rattle.std.specs.Prelude.{◌≡◌, ◌≢◌, ◌%◌, ◌<◌, ℕ, List, [], ◌∷◌, ◌++◌, length, sum, codes, Ok}
use Rattle.std.specs.List.{All}
use Rattle.hex.specs.Hex.{decode_of}
use Rattle.gdb_wire.specs.Escapes.{unescaped}
use Rattle.gdb_wire.specs.declared.item.Item.{Item}
use Rattle.gdb_wire.specs.declared.item.Item.TheVariants as variant

-- ---- packets

-- the sum of a body's bytes modulo 256
abbrev pub checksum : List ℕ → ℕ
checksum body = sum body % 256

-- Two hexadecimal digits spell the checksum. gdb sends them in lower case. Upper case is accepted too, as gdb's own
-- reader does.
abbrev pub IsChecksum : List ℕ → List ℕ → Type 0
IsChecksum body digits = decode_of digits ≡ Ok (checksum body ∷ [])

-- no byte of a body is `#`, which is 35
abbrev pub IsBody : List ℕ → Type 0
IsBody body = All (λ b. b ≢ 35) body

-- the bytes are `$`, a body, `#`, and two bytes for a checksum
pub record IsFrame (body digits bytes : List ℕ) : Type 0 where
  pub is_body : IsBody body
  pub two : length digits ≡ 2
  pub whole : bytes ≡ codes "$" ++ (body ++ (codes "#" ++ digits))

-- ---- items

-- what an item means
pub data Said : Type 0 where
  packet : (text : List ℕ) → Said
  damaged_packet : Said
  interrupt : Said
  resend : Said
  ack_or_noise : Said

-- the bytes are one item, which says this
abbrev pub IsItem : Said → List ℕ → Type 0
IsItem (packet text) bytes = (body : List ℕ) × (digits : List ℕ) × IsFrame body digits bytes × IsChecksum body digits × (text ≡ unescaped body)
IsItem damaged_packet bytes = (body : List ℕ) × (digits : List ℕ) × IsFrame body digits bytes × ¬ IsChecksum body digits
-- Ctrl-C
IsItem interrupt bytes = bytes ≡ 3 ∷ []
-- the request for retransmission
IsItem resend bytes = bytes ≡ codes "-"
-- `+`, or a meaningless byte: none of `$`, Ctrl-C and `-`
IsItem ack_or_noise bytes = (b : ℕ) × (b ≢ 36) × (b ≢ 3) × (b ≢ 45) × (bytes ≡ b ∷ [])

-- less than an item: nothing, or `$` and a body, without its `#` or the two bytes after it
abbrev pub IsPartial : List ℕ → Type 0
IsPartial [] = Unit {0}
IsPartial (b ∷ rest) = (b ≡ 36) × ((body digits : List ℕ) → IsBody body → rest ≡ body ++ 35 ∷ digits → length digits < 2)

-- the bytes are these items, and an incomplete one
abbrev pub IsItems : List Said → List ℕ → List ℕ → Type 0
IsItems [] bytes rest = (bytes ≡ rest) × IsPartial rest
IsItems (said ∷ others) bytes rest = (front : List ℕ) × (back : List ℕ) × (bytes ≡ front ++ back) × IsItem said front × IsItems others back rest

-- what an item that was found says
abbrev pub said_by : Item → Said
said_by (variant.Packet body) = packet (unescaped body.now)
said_by variant.DamagedPacket = damaged_packet
said_by variant.Interrupt = interrupt
said_by variant.Resend = resend
said_by variant.AckOrNoise = ack_or_noise
