-- Raw words: they begin at 0x10000, which is the entry.
use Rattle.std.specs.Prelude.{◌≡◌, ◌%◌, ◌<◌, ℕ, List, [], ◌∷◌, length}
use Rattle.rv_machine.specs.MachineState.{MachineState}
use Rattle.elf_load.specs.Program.{Piece, IsStart}

abbrev pub raw_pieces : List ℕ → List Piece
raw_pieces bytes = record { address = 0x10000; size = length bytes; bytes = bytes } ∷ []

-- the bytes are some whole words
pub record AreWords (bytes : List ℕ) : Type 0 where
  pub some : 0 < length bytes
  pub whole : length bytes % 4 ≡ 0

-- the start state of raw words, with a stack of so many pages
pub record IsRawProgram (bytes : List ℕ) (stack : ℕ) (s : MachineState) : Type 0 where
  pub words : AreWords bytes
  pub start : IsStart 0x10000 (raw_pieces bytes) stack s
