-- The tests of a book's entries by their names in the code.
use Rattle.std.specs.Prelude.{◌≡◌, ℕ, ◌≤◌, true, codes, List, Option, None}
use Rattle.plan_types.specs.declared.limits.TheConstants.{MOST_COST, MOST_SLOTS}
use Rattle.serde_json.specs.Data.{Data}
use Rattle.level_book.specs.declared.checks.EntryTest.{EntryTest}
use Rattle.level_book.specs.declared.checks.EntryTest.TheVariants as test
use Rattle.level_book.specs.declared.fault.BookFault.{BookFault}
use Rattle.level_book.specs.Names.{is_name}
use Rattle.level_book.specs.BookFaults.{number_of, name_of, missing_in, shape_fault, name_fault, cost_fault, slot_fault, order_fault}

-- what a test finds at an entry with this number, among these entries
abbrev pub found_by : EntryTest → List Data → ℕ → Data → Option BookFault
found_by test.Shape entries = shape_fault
found_by test.Name entries = name_fault entries
found_by test.Costs entries = cost_fault
found_by test.Slots entries = slot_fault
found_by test.Order entries = order_fault entries

-- an entry has its four fields, a valid name, and costs and slots in range
pub record IsFaultless (d : Data) : Type 0 where
  pub shape : missing_in d ≡ None
  pub name : is_name (name_of d) ≡ true
  pub write : number_of (codes "write") d ≤ MOST_COST
  pub read : number_of (codes "read") d ≤ MOST_COST
  pub slots : number_of (codes "slots") d ≤ MOST_SLOTS
