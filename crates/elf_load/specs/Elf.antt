-- An ELF32 file, as far as it is read. Source: Tool Interface Standard, Executable and Linking Format 1.2, "ELF Header"
-- and "Program Header". The number of the machine is from the RISC-V ELF psABI. Numbers are little-endian.
use Rattle.std.specs.Prelude.{◌≡◌, ◌≢◌, ◌+◌, ◌*◌, ◌%◌, ◌/◌, ◌<◌, ◌≤◌, ◌==◌, ◌&&◌, ℕ, Bool, not, List, [], ◌∷◌, length, take, drop, map, filter, slice_index, IsTrue}
use Rattle.std.specs.Int.{w16, w32, from_le_bytes}
use Rattle.std.specs.List.{range_with_len}
use Rattle.rv_machine.specs.MachineState.{MachineState}
use Rattle.elf_load.specs.Program.{Piece, stack_start, IsMappedPage, IsStart}

-- the number of two bytes at a place of the file, and that of four
abbrev pub half : List ℕ → ℕ → ℕ
half file at = from_le_bytes w16 (take 2 (drop at file))

abbrev pub word : List ℕ → ℕ → ℕ
word file at = from_le_bytes w32 (take 4 (drop at file))

-- fields of the file's header
abbrev pub e_type : List ℕ → ℕ
e_type file = half file 16

abbrev pub e_machine : List ℕ → ℕ
e_machine file = half file 18

abbrev pub e_entry : List ℕ → ℕ
e_entry file = word file 24

abbrev pub e_phoff : List ℕ → ℕ
e_phoff file = word file 28

abbrev pub e_phentsize : List ℕ → ℕ
e_phentsize file = half file 42

abbrev pub e_phnum : List ℕ → ℕ
e_phnum file = half file 44

-- a program header: p_type, p_offset, p_vaddr, p_filesz and p_memsz
pub record ProgramHeader : Type 0 where
  pub kind : ℕ
  pub offset : ℕ
  pub address : ℕ
  pub file_size : ℕ
  pub memory_size : ℕ

abbrev pub header_from : List ℕ → ℕ → ProgramHeader
header_from file at = record {
  kind = word file at;
  offset = word file (at + 4);
  address = word file (at + 8);
  file_size = word file (at + 16);
  memory_size = word file (at + 20);
}

-- the program header with this index
abbrev pub header_at : List ℕ → ℕ → ProgramHeader
header_at file i = header_from file (e_phoff file + 32 * i)

-- a load segment: PT_LOAD, with a byte at least
abbrev pub is_load : ProgramHeader → Bool
is_load h = (h.kind == 1) && not (h.memory_size == 0)

-- the indices of the load segments
abbrev pub loads : List ℕ → List ℕ
loads file = filter (λ i. is_load (header_at file i)) (range_with_len 0 (e_phnum file))

-- its bytes in memory; the first ones come from the file
abbrev pub piece_of : List ℕ → ProgramHeader → Piece
piece_of file h = record { address = h.address; size = h.memory_size; bytes = take h.file_size (drop h.offset file) }

-- the load segments, in the order of the headers
abbrev pub pieces : List ℕ → List Piece
pieces file = map (λ i. piece_of file (header_at file i)) (loads file)

-- the letters 7f 45 4c 46, before at least 48 other bytes
pub record HasMagic (file : List ℕ) : Type 0 where
  pub long : 52 ≤ length file
  pub letters : take 4 file ≡ 0x7F ∷ 0x45 ∷ 0x4C ∷ 0x46 ∷ []

-- 32 bits, little-endian, version 1
pub record HasClass (file : List ℕ) : Type 0 where
  pub bits : slice_index file 4 ≡ 1
  pub order : slice_index file 5 ≡ 1
  pub version : slice_index file 6 ≡ 1

-- ET_EXEC
abbrev pub IsExecutable : List ℕ → Type 0
IsExecutable file = e_type file ≡ 2

-- EM_RISCV
abbrev pub IsForRiscV : List ℕ → Type 0
IsForRiscV file = e_machine file ≡ 243

-- there are program headers of 32 bytes each, and all of them are in the file
pub record HasHeaders (file : List ℕ) : Type 0 where
  pub some : e_phnum file ≢ 0
  pub size : e_phentsize file ≡ 32
  pub inside : e_phoff file + 32 * e_phnum file ≤ length file

-- A load segment is right by itself. All its bytes are in the file, and are no more than it has in memory. It ends
-- below the stack.
pub record IsSound (file : List ℕ) (stack : ℕ) (h : ProgramHeader) : Type 0 where
  pub sizes : h.file_size ≤ h.memory_size
  pub inside : h.offset + h.file_size ≤ length file
  pub below : h.address + h.memory_size ≤ stack_start stack

-- the header with an index is that of a sound load segment, or is ignored
abbrev pub IsSoundIfLoaded : List ℕ → ℕ → ℕ → Type 0
IsSoundIfLoaded file stack i = IsTrue (is_load (header_at file i)) → IsSound file stack (header_at file i)

-- an address is one of a segment's
abbrev pub IsIn : ProgramHeader → ℕ → Type 0
IsIn h at = (h.address ≤ at) × (at < h.address + h.memory_size)

-- two load segments have an address in common
pub record Share (file : List ℕ) (i j : ℕ) : Type 0 where
  pub first : IsTrue (is_load (header_at file i))
  pub second : IsTrue (is_load (header_at file j))
  pub at : ℕ
  pub in_first : IsIn (header_at file i) at
  pub in_second : IsIn (header_at file j) at

-- the headers fit, and no two of them share an address
abbrev pub AllFit : List ℕ → ℕ → Type 0
AllFit file stack = (i : ℕ) → i < e_phnum file → IsSoundIfLoaded file stack i

abbrev pub NoneShare : List ℕ → Type 0
NoneShare file = (i j : ℕ) → i < j → j < e_phnum file → Share file i j → ⊥

-- the entry is the address of a word in a mapped page
pub record HasEntry (file : List ℕ) (stack : ℕ) : Type 0 where
  pub aligned : e_entry file % 4 ≡ 0
  pub mapped : IsMappedPage (pieces file) stack (e_entry file / 4096)

-- the start state of an ELF file, with a stack of so many pages
pub record IsProgram (file : List ℕ) (stack : ℕ) (s : MachineState) : Type 0 where
  pub magic : HasMagic file
  pub class : HasClass file
  pub executable : IsExecutable file
  pub machine : IsForRiscV file
  pub headers : HasHeaders file
  pub fit : AllFit file stack
  pub apart : NoneShare file
  pub entry : HasEntry file stack
  pub start : IsStart (e_entry file) (pieces file) stack s
