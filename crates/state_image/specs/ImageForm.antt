-- The form of an image, as a table of its fields in their order. The form is our own; its numbers are little-endian.
-- The constants of src/layout.rt are the places where the fields start, and their lengths.
use Rattle.std.specs.Prelude.{◌≡◌, ◌<◌, ◌≤◌, ℕ, zero, suc, ◌+◌, ◌-◌, ◌*◌, ◌%◌, ◌==◌, ◌&&◌, ◌||◌, Bool, true, not, nat_lt, nat_le, nat_eq, if◌then◌else◌, List, [], ◌∷◌, ◌++◌, map, find, length, take, drop, Option, None, Some, codes}
use Rattle.std.specs.List.{list_all, list_any, range_with_len, starts_with}
use Rattle.std.specs.Int.{from_le_bytes, w32}
use Rattle.rv_pages.specs.Memory.{Memory, page_numbers}
use Rattle.rv_machine.specs.MachineState.{trap_causes}
use Rattle.state_image.specs.declared.layout.TheConstants.{WORD, LONG, LETTERS, VERSION, PC, REGISTERS, REGISTER_BYTES, KIND, VALUE, ITEM, OFFSET, WRITTEN, COUNT, PAGES, PAGE_FIELD}

-- a field: its start, its length, and a test on all the bytes of whether it is right
pub record Field : Type 0 where
  pub start : ℕ
  pub size : ℕ
  pub right : List ℕ → Bool

-- so many bytes from a place on
abbrev pub part : List ℕ → ℕ → ℕ → List ℕ
part bytes at size = take size (drop at bytes)

-- the number of four bytes at a place
abbrev pub number_at : List ℕ → ℕ → ℕ
number_at bytes at = from_le_bytes w32 (part bytes at WORD)

-- a value that fits a status: 0 if it runs, an exit code, or a cause of traps
abbrev pub is_value : ℕ → ℕ → Bool
is_value zero value = value == 0
is_value (suc zero) value = nat_le value 255
is_value (suc (suc kind)) value = list_any (λ cause. cause == value) trap_causes

abbrev pub magic : Field
magic = record { start = LETTERS; size = WORD; right = λ bytes. starts_with nat_eq bytes (codes "RVST") }

abbrev pub version : Field
version = record { start = VERSION; size = WORD; right = λ bytes. number_at bytes VERSION == 1 }

abbrev pub pc : Field
pc = record { start = PC; size = WORD; right = λ bytes. number_at bytes PC % 4 == 0 }

-- x1 to x31
abbrev pub registers : Field
registers = record { start = REGISTERS; size = REGISTER_BYTES; right = λ bytes. true }

abbrev pub kind : Field
kind = record { start = KIND; size = WORD; right = λ bytes. nat_le (number_at bytes KIND) 2 }

abbrev pub value : Field
value = record { start = VALUE; size = WORD; right = λ bytes. is_value (number_at bytes KIND) (number_at bytes VALUE) }

abbrev pub item : Field
item = record { start = ITEM; size = WORD; right = λ bytes. true }

abbrev pub offset : Field
offset = record { start = OFFSET; size = WORD; right = λ bytes. true }

abbrev pub written : Field
written = record { start = WRITTEN; size = LONG; right = λ bytes. true }

-- how many pages follow
abbrev pub count : Field
count = record { start = COUNT; size = WORD; right = λ bytes. nat_le (number_at bytes COUNT) 4096 }

abbrev pub page_count : List ℕ → ℕ
page_count bytes = number_at bytes COUNT

-- where the field of page k starts
abbrev pub page_start : ℕ → ℕ
page_start k = PAGES + PAGE_FIELD * k

-- the number of page k
abbrev pub page_number : List ℕ → ℕ → ℕ
page_number bytes k = number_at bytes (page_start k)

-- the bytes of page k
abbrev pub page_part : List ℕ → ℕ → List ℕ
page_part bytes k = part bytes (page_start k + 4) 4096

-- the number of page k is above that of the page before; before page 0 there is none
abbrev pub rises : List ℕ → ℕ → Bool
rises bytes k = k == 0 || nat_lt (page_number bytes (k - 1)) (page_number bytes k)

-- page k: its number rises, and is below 2^20, and its bytes aren't all zero
abbrev pub page : ℕ → Field
page k = record {
  start = page_start k;
  size = PAGE_FIELD;
  right = λ bytes. rises bytes k && nat_lt (page_number bytes k) 1048576 && not (list_all (λ b. b == 0) (page_part bytes k));
}

-- all fields before the pages, and all fields
abbrev pub header_fields : List Field
header_fields = magic ∷ version ∷ pc ∷ registers ∷ kind ∷ value ∷ item ∷ offset ∷ written ∷ count ∷ []

abbrev pub fields : List ℕ → List Field
fields bytes = header_fields ++ map page (range_with_len 0 (page_count bytes))

-- the most bytes of an image of a state with these mapped pages
abbrev pub memory_room : Memory → ℕ
memory_room m = PAGES + PAGE_FIELD * length (page_numbers m)

-- a field isn't all there, or isn't right
abbrev pub is_wrong : List ℕ → Field → Bool
is_wrong bytes field = nat_lt (length bytes) (field.start + field.size) || not (field.right bytes)

-- where a field starts, if there is one, or else another place
abbrev pub start_or : Option Field → Option ℕ → Option ℕ
start_or (Some field) other = Some field.start
start_or None other = other

-- bytes that follow the last page, if there are any
abbrev pub trailing : List ℕ → Option ℕ
trailing bytes = if nat_lt (page_start (page_count bytes)) (length bytes) then Some (page_start (page_count bytes)) else None

-- Where the first wrong field starts, or the bytes after the last page. None: the bytes are an image.
abbrev pub first_wrong : List ℕ → Option ℕ
first_wrong bytes = start_or (find (is_wrong bytes) (fields bytes)) (trailing bytes)

-- After the pages before this place enough numbers below 2^20 are left for the pages still to follow. If a page's
-- number leaves too few, that page isn't found wrong. A later page is.
abbrev pub HasNumbersLeft : List ℕ → ℕ → Type 0
HasNumbersLeft bytes at = (k : ℕ) → k + 1 < page_count bytes → at ≡ page_start (k + 1) → page_number bytes k + page_count bytes ≤ k + 1048576

-- the numbers of the pages in their order
abbrev pub numbers_in : List ℕ → List ℕ
numbers_in bytes = map (page_number bytes) (range_with_len 0 (page_count bytes))

-- the first of them that isn't among the mapped pages
abbrev pub first_unmapped : List ℕ → List ℕ → Option ℕ
first_unmapped bytes pages = find (λ number. not (list_any (λ mapped. mapped == number) pages)) (numbers_in bytes)
