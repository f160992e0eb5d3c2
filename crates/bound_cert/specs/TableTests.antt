-- Which tables show that a list is the least of its class, and why others don't.
use Rattle.std.specs.Prelude.{◌≡◌, ◌≢◌, ℕ, ◌-◌, ◌^◌, List}
use Rattle.plan_types.specs.declared.action.Action.{Action}
use Rattle.level_book.specs.BookCosts.{BookCosts, slots_of}
use Rattle.level_book.specs.Valid.{Valid}
use Rattle.level_book.specs.CostFold.{cost}
use Rattle.level_book.specs.NestedClass.{Nested}
use Rattle.level_book.specs.DiskClass.{Disk}
use Rattle.level_book.specs.UnderTable.{Entry, number, never, IsUnderTable, top_entry}
use Rattle.level_book.specs.DiskUnderTable.{IsDiskUnderTable, disk_top_entry}
use Rattle.cost_tables.specs.TableRows.{TableRows, AreFor, TablesFit, FastestTablesFit, tables_in}
use Rattle.disk_gen.specs.DiskRows.{DiskRows, AreDiskSized, disk_tables_in}
use Rattle.table_clauses.specs.declared.entry.Entry.{Entry as Place}
use Rattle.table_clauses.specs.ClauseFailures.{Breaks, DiskBreaks, IsFirst}
use Rattle.bound_cert.specs.declared.verdict.Reason.{Reason}
use Rattle.bound_cert.specs.declared.verdict.Reason.TheVariants.{Invalid, WrongShape, OutsideClass, Inequality, ValueDiffers}

-- an entry as a number, as a verdict has it: Never is the greatest of 64 bits
abbrev pub entry_value : Entry → ℕ
entry_value (number n) = n
entry_value never = 2 ^ 64 - 1

-- ---- five tests of tables, in their order

pub record FiveTests : Type 1 where
  -- the list is valid
  pub Right : Type 0
  -- the tables have their sizes
  pub Sized : Type 0
  -- the list is a member of the class
  pub Member : Type 0
  -- the tables are an under-table; otherwise a clause first fails at a place
  pub Under : Type 0
  pub BreaksFirst : Place → Type 0
  -- the top entry is the list's cost
  pub top : Entry
  pub list_cost : ℕ

-- all are passed
abbrev pub Passes : FiveTests → Type 0
Passes tests = tests.Right × tests.Sized × tests.Member × tests.Under × (tests.top ≡ number tests.list_cost)

-- The first test that fails, as a reason. For the clauses it is the first that fails. For the top entry it has the
-- list's cost and the entry, as numbers.
abbrev pub FailsFirst : FiveTests → Reason → Type 0
FailsFirst tests Invalid = tests.Right → ⊥
FailsFirst tests WrongShape = tests.Right × (tests.Sized → ⊥)
FailsFirst tests OutsideClass = tests.Right × tests.Sized × (tests.Member → ⊥)
FailsFirst tests (Inequality place) = tests.Right × tests.Sized × tests.Member × tests.BreaksFirst place
FailsFirst tests (ValueDiffers cost_is value_is) =
    tests.Right × tests.Sized × tests.Member × tests.Under × (tests.top ≢ number tests.list_cost) × (cost_is ≡ tests.list_cost)
    × (value_is ≡ entry_value tests.top)

-- ---- of tables for the nested class

abbrev pub AreSized : ℕ → BookCosts → TableRows → Type 0
AreSized steps book t = TablesFit steps book × AreFor steps book t

abbrev pub nested_tests : List Action → ℕ → BookCosts → TableRows → FiveTests
nested_tests list steps book t = record {
  Right = Valid steps (slots_of book) list;
  Sized = AreSized steps book t;
  Member = Nested steps (slots_of book) list;
  Under = IsUnderTable steps book (tables_in t);
  BreaksFirst = IsFirst (Breaks steps book (tables_in t));
  top = top_entry steps book (tables_in t);
  list_cost = cost list book;
}

-- ---- of tables for the disk class

abbrev pub AreSizedDisk : ℕ → BookCosts → DiskRows → Type 0
AreSizedDisk steps book t = FastestTablesFit steps book × AreDiskSized steps book t

abbrev pub disk_tests : List Action → ℕ → BookCosts → DiskRows → FiveTests
disk_tests list steps book t = record {
  Right = Valid steps (slots_of book) list;
  Sized = AreSizedDisk steps book t;
  Member = Disk steps (slots_of book) list;
  Under = IsDiskUnderTable steps book (disk_tables_in t);
  BreaksFirst = IsFirst (DiskBreaks steps book (disk_tables_in t));
  top = disk_top_entry steps (disk_tables_in t);
  list_cost = cost list book;
}
