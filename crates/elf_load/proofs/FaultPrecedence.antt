-- The lines of the table that are met before a fault.
use Rattle.std.proofs.Common.{ℕ, ◌<◌, ◌≤◌, List, length, arith}
use Rattle.elf_load.specs.declared.fault.ElfFault.{ElfFault}
use Rattle.elf_load.specs.declared.fault.ElfFault.TheVariants.{NotElf, Class, Kind, Machine, Headers, Segment, Overlap, TooLarge}
use Rattle.elf_load.specs.declared.header.Header.{Header}
use Rattle.elf_load.specs.Program.{AreMapped}
use Rattle.elf_load.specs.Elf.{AllFit, NoneShare, pieces}
use Rattle.elf_load.specs.Faults.{IsMet, number_of}
use Rattle.elf_load.specs.HeaderFields.{IsHeaderOf}

module _ (file : List ℕ) (stack : ℕ) (header : Header) (h : IsHeaderOf file header) where
  pub before_segments : (d : ElfFault) → number_of d < 6 → IsMet file stack d
  before_segments NotElf l = h.magic
  before_segments Class l = h.class
  before_segments Kind l = h.executable
  before_segments Machine l = h.machine
  before_segments Headers l = h.headers
  before_segments d l = absurd (omega arith)

  pub before_overlap : AllFit file stack → (d : ElfFault) → number_of d < 7 → IsMet file stack d
  before_overlap fit (Segment i) l = fit
  before_overlap fit d l = before_segments d (omega arith)

  pub before_large : AllFit file stack → NoneShare file → (d : ElfFault) → number_of d < 8 → IsMet file stack d
  before_large fit apart (Overlap i j) l = apart
  before_large fit apart d l = before_overlap fit d (omega arith)

  pub before_entry : AllFit file stack → NoneShare file → ((pages : List ℕ) → AreMapped (pieces file) stack pages → length pages ≤ 4096) → (d : ElfFault) → number_of d < 9 → IsMet file stack d
  before_entry fit apart few (TooLarge n) l = few
  before_entry fit apart few d l = before_large fit apart d (omega arith)
