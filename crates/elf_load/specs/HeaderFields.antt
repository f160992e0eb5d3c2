-- No public clause cites this file. What is read of a file: its header, and its load segments.
use Rattle.std.specs.Prelude.{◌≡◌, ◌⊎◌, ◌+◌, ◌<◌, ◌≤◌, ℕ, List, length, map, take, drop, slice_index_or}
use Rattle.elf_load.specs.declared.fault.ElfFault.{ElfFault}
use Rattle.elf_load.specs.declared.fault.ElfFault.TheVariants.{Overlap, TooLarge, Memory}
use Rattle.elf_load.specs.declared.header.Header.{Header}
use Rattle.elf_load.specs.declared.segment.Segment.{Segment}
use Rattle.elf_load.specs.Program.{Piece, AreMapped}
use Rattle.elf_load.specs.Faults.{AreTooMany}
use Rattle.elf_load.specs.Elf.{ProgramHeader, HasMagic, HasClass, IsExecutable, IsForRiscV, HasHeaders, e_entry, e_phoff, e_phnum, header_at}

-- the header of a file that is an ELF file for the machine
pub record IsHeaderOf (file : List ℕ) (h : Header) : Type 0 where
  pub magic : HasMagic file
  pub class : HasClass file
  pub executable : IsExecutable file
  pub machine : IsForRiscV file
  pub headers : HasHeaders file
  pub entry : h.entry ≡ e_entry file
  pub offset : h.offset ≡ e_phoff file
  pub count : h.count ≡ e_phnum file

-- the load segment of a program header with an index
abbrev pub segment_of : ℕ → ProgramHeader → Segment
segment_of i h = record { index = i; offset = h.offset; address = h.address; file_size = h.file_size; memory_size = h.memory_size }

-- the load segments of the headers with these indices
abbrev pub segments_of : List ℕ → List ℕ → List Segment
segments_of file indices = map (λ i. segment_of i (header_at file i)) indices

-- what a segment puts into memory
abbrev pub piece_in : List ℕ → Segment → Piece
piece_in file s = record { address = s.address; size = s.memory_size; bytes = take s.file_size (drop s.offset file) }

-- past the end of a list there is a segment of no byte
abbrev pub segment_at : List Segment → ℕ → Segment
segment_at segments k = slice_index_or segments k (record { index = 0; offset = 0; address = 0; file_size = 0; memory_size = 0 })

-- of two segments each begins before the other ends
pub record Cross (a b : Segment) : Type 0 where
  pub first : a.address < b.address + b.memory_size
  pub second : b.address < a.address + a.memory_size

-- no segment of a list crosses a later one
abbrev pub AreApart : List Segment → Type 0
AreApart segments = (a b : ℕ) → a < b → b < length segments → Cross (segment_at segments a) (segment_at segments b) → ⊥

-- the places of the first two segments of a list that cross
pub record AreFirstToCross (segments : List Segment) (a b : ℕ) : Type 0 where
  pub order : a < b
  pub inside : b < length segments
  pub cross : Cross (segment_at segments a) (segment_at segments b)
  pub first : (c d : ℕ) → c < d → d < length segments → Cross (segment_at segments c) (segment_at segments d) → (a < c) ⊎ ((a ≡ c) × (b ≤ d))

-- Why segments have no pages: two share an address, there are too many pages, or memory ran out.
pub data IsPagesFault (segments : List Segment) (stack : ℕ) (fault : ElfFault) : Type 0 where
  memory : fault ≡ Memory → IsPagesFault segments stack fault
  overlap : (a b : ℕ) → AreFirstToCross segments a b → fault ≡ Overlap (segment_at segments a).index (segment_at segments b).index →
      IsPagesFault segments stack fault
  large :
      (n : ℕ) (pages : List ℕ) → AreApart segments → ((file : List ℕ) → AreMapped (map (piece_in file) segments) stack pages) → AreTooMany pages n →
      fault ≡ TooLarge n → IsPagesFault segments stack fault
