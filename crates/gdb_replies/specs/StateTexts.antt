-- How a state is shown to gdb: GDB manual, E.2 Packets, on `g`, `p` and `m`.
use Rattle.std.specs.Prelude.{ℕ, zero, suc, ◌+◌, List, [], ◌∷◌, ◌++◌, min, codes, slice_get}
use Rattle.std.specs.List.{flat_map}
use Rattle.std.specs.Option.{option_map_or}
use Rattle.std.specs.Int.{to_le_bytes, w32}
use Rattle.hex.specs.Hex.{encode_lower}
use Rattle.rv_pages.specs.Memory.{Memory, byte_at}
use Rattle.rv_machine.specs.MachineState.{MachineState}

-- there is nothing to show
abbrev pub nothing_there : List ℕ
nothing_there = codes "E01"

-- ---- registers

-- the registers by gdb's numbers: x0 to x31, and pc
abbrev pub registers_of : MachineState → List ℕ
registers_of s = s.registers ++ s.pc ∷ []

-- a word of 32 bits as eight digits, those of its lowest byte first
abbrev pub word_text : ℕ → List ℕ
word_text word = encode_lower (to_le_bytes w32 word)

abbrev pub registers_text : MachineState → List ℕ
registers_text s = flat_map word_text (registers_of s)

abbrev pub register_text : MachineState → ℕ → List ℕ
register_text s n = option_map_or word_text (slice_get (registers_of s) n) nothing_there

-- ---- memory

-- the bytes from an address on, so many at most, up to the first that isn't mapped
abbrev pub mapped_bytes : Memory → ℕ → ℕ → List ℕ
mapped_bytes m at zero = []
mapped_bytes m at (suc n) = option_map_or (λ b. b ∷ mapped_bytes m (at + 1) n) (byte_at m at) []

-- Bytes in digits, two for each. There may be fewer than gdb asked for.
abbrev pub bytes_text : List ℕ → List ℕ
bytes_text [] = nothing_there
bytes_text (b ∷ bytes) = encode_lower (b ∷ bytes)

-- A reply has at most 8,192 bytes. With two digits each they fill a packet of the size announced to gdb.
abbrev pub memory_text : MachineState → ℕ → ℕ → List ℕ
memory_text s at len = bytes_text (mapped_bytes s.memory at (min len 8192))
