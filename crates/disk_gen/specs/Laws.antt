-- What holds of the periodic lists, and of those that are read from disk tables.
use Rattle.std.specs.Prelude.{◌≡◌, ℕ, ◌*◌, ◌≤◌, List, length}
use Rattle.plan_types.specs.declared.action.Action.{Action}
use Rattle.level_book.specs.BookCosts.{BookCosts, slots_of, IsWithinLimits}
use Rattle.level_book.specs.Valid.{Valid}
use Rattle.level_book.specs.DiskUnderTable.{DiskTables, IsGreatestDisk}
use Rattle.hrevolve_gen.specs.Laws.{EndsForwardAtTape}
use Rattle.disk_gen.specs.PeriodicList.{stretches, periodic_list}
use Rattle.cost_tables.specs.ExactTables.{IsExact}
use Rattle.cost_tables.specs.TableRows.{fastest}
use Rattle.disk_gen.specs.Plans.{HasPeriodicPlan}
use Rattle.disk_gen.specs.DiskPlans.{HasDiskPlan}
use Rattle.disk_gen.specs.ReadableDiskTables.{IsDiskExact}
use Rattle.disk_gen.specs.DiskRows.{DiskRows, AreDiskSized, disk_tables_in}
use Rattle.disk_gen.specs.DiskShapes.{AreDiskShaped}
use Rattle.disk_gen.specs.DiskRevolveList.{IsDiskWritten, fast_tables}

-- the number of stretches is the least whole n with steps ≤ n · period
pub record AreLeast (steps period q : ℕ) : Type 0 where
  pub enough : steps ≤ q * period
  pub least : (m : ℕ) → steps ≤ m * period → q ≤ m

abbrev pub StretchesAreLeast : ℕ → ℕ → Type 0
StretchesAreLeast steps period = 1 ≤ period → AreLeast steps period (stretches steps period)

-- the list, where there is a plan, is valid for its book
abbrev pub PeriodicIsValid : ℕ → ℕ → BookCosts → Type 0
PeriodicIsValid steps period book = 1 ≤ period → HasPeriodicPlan steps period book → Valid steps (slots_of book) (periodic_list steps period book)

-- it has four actions for each step
abbrev pub PeriodicIsCounted : ℕ → ℕ → BookCosts → Type 0
PeriodicIsCounted steps period book = 1 ≤ steps → 1 ≤ period → HasPeriodicPlan steps period book → length (periodic_list steps period book) ≡ 4 * steps

-- all disk tables of the greatest entries give at most one list
abbrev pub DiskPlanIsUnique : ℕ → BookCosts → DiskTables → DiskTables → List Action → List Action → Type 0
DiskPlanIsUnique steps book s t list other =
    IsGreatestDisk steps book s → IsGreatestDisk steps book t → IsDiskWritten steps book s list → IsDiskWritten steps book t other → list ≡ other

-- where there is a plan, these steps and costs have greatest disk tables, in whole rows
abbrev pub GreatestDiskExist : ℕ → BookCosts → Type 0
GreatestDiskExist steps book =
    HasDiskPlan book → steps ≤ 8192 → IsWithinLimits book →
    (t : DiskRows) × AreDiskSized steps book t × AreDiskShaped t × IsGreatestDisk steps book (disk_tables_in t)

-- disk tables whose entries are attained give a list
abbrev pub DiskListExists : ℕ → BookCosts → DiskTables → Type 0
DiskListExists steps book t =
    HasDiskPlan book → IsExact steps (fastest book) (fast_tables t) → IsDiskExact steps book t → (list : List Action) × IsDiskWritten steps book t list

-- in each list read for a step or more, EndForward comes once, directly after the first Forward with Tape
abbrev pub DiskListEndsForward : ℕ → BookCosts → DiskTables → List Action → Type 0
DiskListEndsForward steps book t list = 1 ≤ steps → IsDiskWritten steps book t list → EndsForwardAtTape list
