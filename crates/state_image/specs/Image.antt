-- The image of a state: its stored bytes. The form is our own. Numbers are little-endian. Mapped pages that are all
-- zero are left out.
use Rattle.std.specs.Prelude.{ℕ, Bool, not, ◌==◌, ◌++◌, List, length, filter, drop, codes}
use Rattle.std.specs.List.{flat_map, list_all}
use Rattle.std.specs.Int.{to_le_bytes, w32, w64}
use Rattle.rv_pages.specs.Memory.{Memory, page_numbers, page_bytes}
use Rattle.rv_machine.specs.declared.status.Status.{Status}
use Rattle.rv_machine.specs.declared.status.Status.TheVariants.{Running, Exited, Trapped}
use Rattle.rv_machine.specs.MachineState.{MachineState}

-- the kind of a status, and the number that goes with it
abbrev pub status_kind : Status → ℕ
status_kind Running = 0
status_kind (Exited code) = 1
status_kind (Trapped cause) = 2

abbrev pub status_value : Status → ℕ
status_value Running = 0
status_value (Exited code) = code
status_value (Trapped cause) = cause

-- whether a page has a byte other than 0
abbrev pub is_stored : Memory → ℕ → Bool
is_stored m page = not (list_all (λ b. b == 0) (page_bytes m page))

-- the numbers of the mapped pages that have one, in ascending order
abbrev pub pages_stored : Memory → List ℕ
pages_stored m = filter (is_stored m) (page_numbers m)

-- all of the image before its pages
abbrev pub header : MachineState → List ℕ
header s =
    codes "RVST"
    ++ to_le_bytes w32 1
    ++ to_le_bytes w32 s.pc
    ++ flat_map (to_le_bytes w32) (drop 1 s.registers)
    ++ to_le_bytes w32 (status_kind s.status)
    ++ to_le_bytes w32 (status_value s.status)
    ++ to_le_bytes w32 s.item
    ++ to_le_bytes w32 s.offset
    ++ to_le_bytes w64 s.written
    ++ to_le_bytes w32 (length (pages_stored s.memory))

-- a page in the image: its number, and its bytes
abbrev pub page_field : Memory → ℕ → List ℕ
page_field m page = to_le_bytes w32 page ++ page_bytes m page

abbrev pub image : MachineState → List ℕ
image s = header s ++ flat_map (page_field s.memory) (pages_stored s.memory)
