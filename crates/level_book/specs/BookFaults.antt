-- Which fault a text has that is no book. A table of tests in their order: the first that fails names the fault.
use Rattle.std.specs.Prelude.{◌≡◌, ℕ, ◌+◌, ◌-◌, ◌*◌, ◌<◌, ◌==◌, min, nat_lt, nat_le, Bool, not, ◌&&◌, ◌||◌, cond, List, [], ◌∷◌, map, length, take, codes, slice_index_or, Option, Some, None, option_map, unwrap_or, is_some, position}
use Rattle.std.specs.List.{enumerate_from, list_any}
use Rattle.std.specs.Option.{option_or}
use Rattle.std.specs.Str.{bytes_eq}
use Rattle.plan_types.specs.declared.limits.TheConstants.{MOST_COST, MOST_SLOTS}
use Rattle.serde_json.specs.Data.{Data, null}
use Rattle.serde_json.specs.Find.{as_object}
use Rattle.level_book.specs.declared.fault.BookFault.{BookFault}
use Rattle.level_book.specs.declared.fault.BookFault.TheVariants.{NotJson, Shape, Levels, Name, CostRange, SlotRange, CostOrder, Memory}
use Rattle.level_book.specs.BookCosts.{BookCosts}
use Rattle.level_book.specs.Names.{is_name}
use Rattle.level_book.specs.BookText.{IsTextOf, SaysBook, number_in, text_in, slots_in, list_in}

-- the fault, unless the test holds
abbrev pub unless : Bool → BookFault → Option BookFault
unless holds fault = cond holds None (Some fault)

-- the first fault, if any
abbrev pub first_of : List (Option BookFault) → Option BookFault
first_of [] = None
first_of (fault ∷ others) = option_or fault (first_of others)

-- what f finds at each entry, counted from 0
abbrev pub each : (ℕ → Data → Option BookFault) → List Data → List (Option BookFault)
each f ds = map (λ entry. f entry.0 entry.1) (enumerate_from 0 ds)

-- What an entry has in a field. A missing one is 0 or the empty text; an earlier test finds it.
abbrev pub number_of : List ℕ → Data → ℕ
number_of field d = unwrap_or (number_in field d) 0

abbrev pub name_of : Data → List ℕ
name_of d = unwrap_or (text_in (codes "name") d) []

-- the first field that an entry lacks: its name, slots, write or read cost
abbrev pub missing_in : Data → Option ℕ
missing_in d =
    position not
    (is_some (text_in (codes "name") d)
    ∷ is_some (slots_in (codes "slots") d)
    ∷ is_some (number_in (codes "write") d)
    ∷ is_some (number_in (codes "read") d)
    ∷ [])

abbrev pub shape_fault : ℕ → Data → Option BookFault
shape_fault k d = option_map (λ field. Shape (4 + 4 * k + field)) (missing_in d)

-- the name is one, and no earlier entry has it
abbrev pub name_fault : List Data → ℕ → Data → Option BookFault
name_fault entries k d =
    unless (is_name (name_of d) && not (list_any (λ earlier. bytes_eq (name_of earlier) (name_of d)) (take k entries))) (Name k)

-- a cost is no more than 1,000,000
abbrev pub cost_fault : ℕ → Data → Option BookFault
cost_fault k d = unless (nat_le (number_of (codes "write") d) MOST_COST && nat_le (number_of (codes "read") d) MOST_COST) (CostRange k)

-- slots that are counted are no more than 1,000,000; null isn't a number, and counts none
abbrev pub slot_fault : ℕ → Data → Option BookFault
slot_fault k d = unless (nat_le (number_of (codes "slots") d) MOST_SLOTS) (SlotRange k)

-- An entry costs no less to write and to read than the one before it. The first passes; there `k - 1` has no meaning.
abbrev pub order_fault : List Data → ℕ → Data → Option BookFault
order_fault entries k d =
    let before = slice_index_or entries (k - 1) null in
    unless (k == 0 || (nat_le (number_of (codes "write") before) (number_of (codes "write") d)
    && nat_le (number_of (codes "read") before) (number_of (codes "read") d))) (CostOrder k)

-- the table: what each test finds in a value, in their order
abbrev pub faults_in : Data → List (Option BookFault)
faults_in d =
    let entries = unwrap_or (list_in (codes "levels") d) [] in
    unless (is_some (as_object d)) (Shape 0)
    ∷ unless (is_some (number_in (codes "forward") d)) (Shape 1)
    ∷ unless (is_some (number_in (codes "reverse") d)) (Shape 2)
    ∷ unless (is_some (list_in (codes "levels") d)) (Shape 3)
    ∷ unless (nat_lt 0 (length entries) && nat_le (length entries) 4) (Levels (min (length entries) 4294967295))
    ∷ first_of (each shape_fault entries)
    ∷ first_of (each (name_fault entries) entries)
    ∷ first_of (each cost_fault entries)
    ∷ unless (nat_le (number_of (codes "forward") d) MOST_COST) (CostRange 254)
    ∷ unless (nat_le (number_of (codes "reverse") d) MOST_COST) (CostRange 255)
    ∷ first_of (each slot_fault entries)
    ∷ first_of (each (order_fault entries) entries)
    ∷ []

-- the fault of a value
abbrev pub fault_in : Data → Option BookFault
fault_in d = first_of (faults_in d)

-- the bytes are the text of this book: their value means it, and has no fault
pub record IsBookText (bytes : List ℕ) (book : BookCosts) : Type 0 where
  pub value : Data
  pub text : IsTextOf bytes value
  pub says : SaysBook value book
  pub faultless : fault_in value ≡ None

-- The bytes are no book, for this reason. They are no JSON text, or this is the first fault of their value. Memory can
-- be short only where there are bytes to read.
abbrev pub IsRefused : List ℕ → BookFault → Type 0
IsRefused bytes NotJson = (d : Data) → IsTextOf bytes d → ⊥
IsRefused bytes Memory = 0 < length bytes
IsRefused bytes fault = (d : Data) × IsTextOf bytes d × (fault_in d ≡ Some fault)
