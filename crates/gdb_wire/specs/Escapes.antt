-- How a packet's body encodes a text: GDB manual, E.1 Overview, on binary data.
use Rattle.std.specs.Prelude.{ℕ, ◌==◌, ◌||◌, Bool, List, [], ◌∷◌, if◌then◌else◌, bit_xor}

-- The text of a body. A `}` (125) is dropped, and the byte after it is read with bit 32 flipped. A `}` at the very end
-- is read as itself.
abbrev pub unescaped : List ℕ → List ℕ
unescaped [] = []
unescaped (b ∷ []) = b ∷ []
unescaped (b ∷ c ∷ rest) = if b == 125 then bit_xor c 32 ∷ unescaped rest else b ∷ unescaped (c ∷ rest)

-- The bytes that a reply must escape. `#`, `$` and `}` have a meaning in packets. `*` would begin a run of one byte.
abbrev pub is_special : ℕ → Bool
is_special b = b == 35 || b == 36 || b == 125 || b == 42

abbrev pub escaped_byte : ℕ → List ℕ
escaped_byte b = if is_special b then 125 ∷ bit_xor b 32 ∷ [] else b ∷ []
