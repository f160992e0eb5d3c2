-- The line of a state: words separated by one space, without a line end. The form is our own. The digest is SHA-256
-- (FIPS 180-4).
use Rattle.std.specs.Prelude.{ℕ, ◌++◌, List, drop, codes, decimal}
use Rattle.std.specs.List.{flat_map}
use Rattle.std.specs.Int.{to_be_bytes, w32}
use Rattle.hex.specs.Hex.{encode_lower}
use Rattle.sha2.specs.Sha256.{sha256}
use Rattle.rv_machine.specs.declared.status.Status.{Status}
use Rattle.rv_machine.specs.declared.status.Status.TheVariants.{Running, Exited, Trapped}
use Rattle.rv_machine.specs.MachineState.{MachineState}
use Rattle.state_image.specs.Image.{image}

-- a word of 32 bits as eight lower-case hexadecimal digits
abbrev pub hex_word : ℕ → List ℕ
hex_word n = encode_lower (to_be_bytes w32 n)

abbrev pub status_word : Status → List ℕ
status_word Running = codes "run"
status_word (Exited code) = codes "exit:" ++ decimal code
status_word (Trapped cause) = codes "trap:" ++ decimal cause

-- the SHA-256 of the image, as 64 lower-case hexadecimal digits
abbrev pub digest_word : MachineState → List ℕ
digest_word s = encode_lower (sha256 (image s))

-- the line of state s with the number n, without its digest
abbrev pub line_front : ℕ → MachineState → List ℕ
line_front n s =
    decimal n
    ++ codes " " ++ hex_word s.pc
    ++ flat_map (λ x. codes " " ++ hex_word x) (drop 1 s.registers)
    ++ codes " " ++ status_word s.status
    ++ codes " " ++ decimal s.item ++ codes ":" ++ decimal s.offset
    ++ codes " " ++ decimal s.written

-- the line of state s with the number n
abbrev pub line : ℕ → MachineState → List ℕ
line n s = line_front n s ++ codes " " ++ digest_word s
