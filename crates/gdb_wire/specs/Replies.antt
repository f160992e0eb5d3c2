-- What is sent: GDB manual, E.1 Overview.
use Rattle.std.specs.Prelude.{ℕ, List, [], ◌∷◌, ◌++◌, codes}
use Rattle.std.specs.List.{flat_map}
use Rattle.hex.specs.Hex.{encode_lower}
use Rattle.gdb_wire.specs.Escapes.{escaped_byte}
use Rattle.gdb_wire.specs.Items.{checksum}

-- a body between `$` and `#`, and the two digits of its checksum
abbrev pub framed : List ℕ → List ℕ
framed body = codes "$" ++ (body ++ (codes "#" ++ encode_lower (checksum body ∷ [])))

-- the packet of a reply
abbrev pub reply_packet : List ℕ → List ℕ
reply_packet reply = framed (flat_map escaped_byte reply)
