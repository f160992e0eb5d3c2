-- Loads and stores of bytes, halfwords and words. They are little-endian, need no alignment, and wrap from the last
-- address to the first. Source: RISC-V unprivileged manual, section "Load and Store Instructions".
use Rattle.std.specs.Prelude.{ℕ, ◌+◌, ◌*◌, ◌^◌, Option, Some, None}
use Rattle.rv_pages.specs.Memory.{Memory, wrapped, byte_at}
use Rattle.std.specs.FinMap as finmap
use Rattle.rv_manual.specs.Fields.{bits}

-- the number of a lower and an upper part, if both are mapped
abbrev pub joined : ℕ → Option ℕ → Option ℕ → Option ℕ
joined times (Some lower) (Some upper) = Some (lower + upper * times)
joined times _ _ = None

-- the bytes at an address, if all are mapped
abbrev pub byte : Memory → ℕ → Option ℕ
byte m at = byte_at m at

abbrev pub halfword : Memory → ℕ → Option ℕ
halfword m at = joined (2 ^ 8) (byte m at) (byte m (at + 1))

abbrev pub word : Memory → ℕ → Option ℕ
word m at = joined (2 ^ 16) (halfword m at) (halfword m (at + 2))

-- memory with a byte, with the lowest two bytes of a value, and with all four
abbrev pub with_byte : Memory → ℕ → ℕ → Memory
with_byte m at value = finmap.insert m (wrapped at) (bits 7 0 value)

abbrev pub with_halfword : Memory → ℕ → ℕ → Memory
with_halfword m at value = with_byte (with_byte m at value) (at + 1) (bits 15 8 value)

abbrev pub with_word : Memory → ℕ → ℕ → Memory
with_word m at value = with_halfword (with_halfword m at value) (at + 2) (bits 31 16 value)
