-- `asm`: the instruction words that a source means; and `disasm`: the line of each word of a raw program.
use Rattle.std.specs.Prelude.{◌≡◌, ℕ, List, [], ◌∷◌, ◌++◌, length, map}
use Rattle.std.specs.Int.{to_le_bytes, w32}
use Rattle.std.specs.List.{flat_map}
use Rattle.elf_load.specs.Raw.{AreWords}
use Rattle.elf_load.specs.declared.fault.ElfFault.TheVariants.{RawLength}
use Rattle.rv_asm.specs.Source.{Means, HasFault}
use Rattle.rv_asm.specs.Laws.{AreCanonical}
use Rattle.endings.specs.Outcomes.{bad_source, bad_program}
use Rattle.reversal.specs.Job.{write}
use Rattle.reversal.specs.Plans.{in_pieces}
use Rattle.reversal.specs.Table.{Decision, Table, Decided, accept, reads, needs, does, ends}

-- words as a raw program has them: four bytes each, little-endian
abbrev pub word_bytes : List ℕ → List ℕ
word_bytes words = flat_map (to_le_bytes w32) words

-- a source means some words, and they are written in one write
abbrev pub asm_table : List ℕ → Table
asm_table source = reads (Means source) (HasFault source) bad_source (λ words. does (write (word_bytes words ∷ [])))

-- lines with their ends, in pieces of sixty-four; each piece is one write
abbrev pub listing : List (List ℕ) → List (List ℕ)
listing lines = in_pieces (length lines) (map (λ l. l ++ 10 ∷ []) lines)

-- what is done for a raw program: the canonical lines of its words are written
pub record Lists (program : List ℕ) (d : Decision) : Type 0 where
  pub words : List ℕ
  pub bytes : program ≡ word_bytes words
  pub lines : List (List ℕ)
  pub canonical : AreCanonical words lines
  pub does : d ≡ accept (write (listing lines))

-- bytes are whole words, and their lines are written
abbrev pub disasm_table : List ℕ → Table
disasm_table program = needs (AreWords program) (bad_program (RawLength (length program))) (ends (Lists program))

abbrev pub DecidesAsm : List ℕ → Decision → Type 0
DecidesAsm source d = Decided (asm_table source) d

abbrev pub DecidesDisasm : List ℕ → Decision → Type 0
DecidesDisasm program d = Decided (disasm_table program) d
