-- No public clause cites this file. It says what a decoder takes from the bytes of an image.
use Rattle.std.specs.Prelude.{◌≡◌, ◌≢◌, ◌==◌, ℕ, ◌+◌, ◌*◌, ◌%◌, ◌<◌, ◌≤◌, List, length, slice_index, slice_index_or, nat_eq, codes, Bool, true, false, Contains}
use Rattle.std.specs.List.{list_all, starts_with}
use Rattle.std.specs.Int.{from_le_bytes, w64}
use Rattle.rv_pages.specs.Memory.{Memory, page_numbers, page_bytes, IsZeroPage}
use Rattle.rv_machine.specs.MachineState.{MachineState}
use Rattle.state_image.specs.declared.layout.TheConstants.{LONG, VERSION, PC, REGISTERS, KIND, VALUE, ITEM, OFFSET, WRITTEN, PAGES, PAGE_FIELD}
use Rattle.state_image.specs.Image.{status_kind, status_value}
use Rattle.state_image.specs.ImageForm.{part, number_at, is_value, page_count, page_start, page_number, page_part, rises}

-- page k is all there, its number rises and is below 2^20, and its bytes aren't all zero
pub record IsRightPage (bytes : List ℕ) (k : ℕ) : Type 0 where
  pub there : page_start k + PAGE_FIELD ≤ length bytes
  pub up : rises bytes k ≡ true
  pub below : page_number bytes k < 1048576
  pub stored : list_all (λ b. b == 0) (page_part bytes k) ≡ false

-- all fields are there and are right, and nothing follows them
pub record IsRight (bytes : List ℕ) : Type 0 where
  pub whole : PAGES ≤ length bytes
  pub letters : starts_with nat_eq bytes (codes "RVST") ≡ true
  pub version : number_at bytes VERSION ≡ 1
  pub pc : number_at bytes PC % 4 ≡ 0
  pub kind : number_at bytes KIND ≤ 2
  pub value : is_value (number_at bytes KIND) (number_at bytes VALUE) ≡ true
  pub few : page_count bytes ≤ 4096
  pub pages : (k : ℕ) → k < page_count bytes → IsRightPage bytes k
  pub end : length bytes ≡ page_start (page_count bytes)

-- the registers are 0 and the 31 words of the bytes
pub record AreRegistersOf (bytes : List ℕ) (registers : List ℕ) : Type 0 where
  pub size : length registers ≡ 32
  pub zero : slice_index registers 0 ≡ 0
  pub words : (k : ℕ) → k < 31 → slice_index registers (k + 1) ≡ number_at bytes (REGISTERS + 4 * k)

-- no page of the bytes has this number
abbrev pub IsUnnamed : List ℕ → ℕ → Type 0
IsUnnamed bytes number = (k : ℕ) → k < page_count bytes → page_number bytes k ≢ number

-- each page of the bytes is mapped
abbrev pub AreMapped : List ℕ → List ℕ → Type 0
AreMapped bytes pages = (k : ℕ) → k < page_count bytes → Contains pages (page_number bytes k)

-- the pages of the bytes are in the memory, and its other pages are zero
pub record IsMemoryOf (bytes : List ℕ) (memory : Memory) : Type 0 where
  pub named : (k : ℕ) → k < page_count bytes → page_bytes memory (page_number bytes k) ≡ page_part bytes k
  pub others : (i : ℕ) → i < length (page_numbers memory) → IsUnnamed bytes (slice_index (page_numbers memory) i) →
      IsZeroPage memory (slice_index (page_numbers memory) i)

-- only pages of the bytes are marked, by their indices
abbrev pub MarksNamed : List ℕ → List ℕ → List Bool → Type 0
MarksNamed bytes pages marks = (i : ℕ) → slice_index_or marks i false ≡ true → (k : ℕ) × ((k < page_count bytes) × (page_number bytes k ≡ slice_index pages i))

-- the fields of a state are those of the bytes
pub record IsStateOf (bytes : List ℕ) (s : MachineState) : Type 0 where
  pub pc : s.pc ≡ number_at bytes PC
  pub registers : AreRegistersOf bytes s.registers
  pub kind : status_kind s.status ≡ number_at bytes KIND
  pub value : status_value s.status ≡ number_at bytes VALUE
  pub item : s.item ≡ number_at bytes ITEM
  pub offset : s.offset ≡ number_at bytes OFFSET
  pub written : s.written ≡ from_le_bytes w64 (part bytes WRITTEN LONG)
  pub memory : IsMemoryOf bytes s.memory
