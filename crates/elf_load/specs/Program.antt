-- A program in memory at the start.
use Rattle.std.specs.Prelude.{◌≡◌, ◌↔◌, ◌⊎◌, ◌+◌, ◌-◌, ◌*◌, ◌/◌, ◌<◌, ◌≤◌, ℕ, List, length, replicate, slice_set, fold, Any, Contains}
use Rattle.std.specs.List.Sorted.{IsStrictlyIncreasing}
use Rattle.rv_pages.specs.Memory.{Memory, zeroed, with_bytes}
use Rattle.rv_machine.specs.declared.status.Status.TheVariants.{Running}
use Rattle.rv_machine.specs.MachineState.{MachineState}

-- a run of so many bytes from an address on: the given ones, and then zeros
pub record Piece : Type 0 where
  pub address : ℕ
  pub size : ℕ
  pub bytes : List ℕ

-- the start of a stack of so many pages, at most 1,024, that ends at 0xC0000000
abbrev pub stack_start : ℕ → ℕ
stack_start stack = 0xC0000000 - 4096 * stack

-- the page with a number holds a byte of a piece
abbrev pub HoldsByteOf : Piece → ℕ → Type 0
HoldsByteOf piece page = (at : ℕ) × (piece.address ≤ at) × (at < piece.address + piece.size) × (at / 4096 ≡ page)

-- it is one of the pages of the stack
abbrev pub IsStackPage : ℕ → ℕ → Type 0
IsStackPage stack page = (0xC0000 ≤ page + stack) × (page < 0xC0000)

-- it is mapped: it holds a byte of a piece, or belongs to the stack
abbrev pub IsMappedPage : List Piece → ℕ → ℕ → Type 0
IsMappedPage pieces stack page = Any (λ piece. HoldsByteOf piece page) pieces ⊎ IsStackPage stack page

-- the numbers of the mapped pages, in ascending order
pub record AreMapped (pieces : List Piece) (stack : ℕ) (pages : List ℕ) : Type 0 where
  pub ascending : IsStrictlyIncreasing pages
  pub each : (page : ℕ) → Contains pages page ↔ IsMappedPage pieces stack page

-- memory with the bytes of each piece at its address, one piece after the other
abbrev pub with_pieces : Memory → List Piece → Memory
with_pieces m pieces = fold (λ m piece. with_bytes m piece.address piece.bytes) m pieces

-- zeros in all mapped pages, and then the bytes of the pieces
abbrev pub memory_of : List ℕ → List Piece → Memory
memory_of pages pieces = with_pieces (zeroed pages) pieces

-- the entry is next, and the stack pointer x2 is 16 bytes below the stack's end
abbrev pub start_at : ℕ → Memory → MachineState
start_at entry memory = record {
  pc = entry;
  registers = slice_set (replicate 32 0) 2 0xBFFFFFF0;
  status = Running;
  item = 0;
  offset = 0;
  written = 0;
  memory = memory;
}

-- the start state of a program with this entry and these pieces; the stack has so many pages
pub record IsStart (entry : ℕ) (pieces : List Piece) (stack : ℕ) (s : MachineState) : Type 0 where
  pub pages : List ℕ
  pub mapped : AreMapped pieces stack pages
  pub few : length pages ≤ 4096
  pub state : s ≡ start_at entry (memory_of pages pieces)
