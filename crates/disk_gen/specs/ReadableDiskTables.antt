-- No public clause cites this file. Disk tables that a list can be read from, and what is read of a stretch.
use Rattle.std.specs.Prelude.{◌≡◌, ◌≢◌, ℕ, ◌<◌, ◌≤◌, List, ◌++◌, length}
use Rattle.plan_types.specs.declared.action.Action.{Action}
use Rattle.level_book.specs.BookCosts.{BookCosts, room}
use Rattle.level_book.specs.UnderTable.{number, never, sum_of, read_cost}
use Rattle.level_book.specs.DiskUnderTable.{DiskTables}
use Rattle.hrevolve_gen.specs.ReadableTables.{IsReadable}
use Rattle.disk_gen.specs.DiskPlans.{HasDiskPlan}
use Rattle.disk_gen.specs.DiskRows.{DiskRows, disk_tables_in}
use Rattle.disk_gen.specs.DiskRevolveList.{HeldPart, DiskPart, held_actions, disk_actions, held_split, disk_split, ReadsHeld, ReadsDisk}

-- each entry over both levels is a number, and is that of level 0 alone or a split's
pub record IsDiskExact (steps : ℕ) (book : BookCosts) (t : DiskTables) : Type 0 where
  pub fresh_number : (l : ℕ) → 1 ≤ l → l ≤ steps → t.disk_fresh l ≢ never
  pub held_number : (l : ℕ) → 1 ≤ l → l ≤ steps → t.disk_held l ≢ never
  pub fresh_by : (l : ℕ) → 1 ≤ l → l ≤ steps → t.disk_fresh l ≢ t.fresh l (room book 0 steps) →
      (j : ℕ) × (1 ≤ j) × (j < l) × (t.disk_fresh l ≡ disk_split book t l j)
  pub held_by : (l : ℕ) → 1 ≤ l → l ≤ steps → t.disk_held l ≢ sum_of (read_cost book 1) (number 0) (t.fresh l (room book 0 steps)) →
      (i : ℕ) × (1 ≤ i) × (i < l) × (t.disk_held l ≡ held_split book (room book 0 steps) t l i)

pub record CanReadDisk (book : BookCosts) (t : DiskRows) : Type 0 where
  pub one_level : length t.fast.rooms ≡ 1
  pub plan : HasDiskPlan book
  pub fast : IsReadable book t.fast
  pub exact : IsDiskExact t.fast.steps book (disk_tables_in t)

-- the list is the old one, and the actions of a part that is read
abbrev pub IsHeldMore : BookCosts → DiskRows → ℕ → ℕ → List Action → List Action → Type 0
IsHeldMore book t b l old new = (p : HeldPart) × ReadsHeld t.fast.steps book (disk_tables_in t) l p × (new ≡ old ++ held_actions t.fast.steps b p)

abbrev pub IsDiskMore : BookCosts → DiskRows → ℕ → ℕ → List Action → List Action → Type 0
IsDiskMore book t b l old new = (p : DiskPart) × ReadsDisk t.fast.steps book (disk_tables_in t) l p × (new ≡ old ++ disk_actions t.fast.steps b p)
