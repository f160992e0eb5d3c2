-- `plan`: the text of a list for a book, with its certificate.
use Rattle.std.specs.Prelude.{◌≡◌, ℕ, ◌≤◌, ◌++◌, slice_get, List, length, Some}
use Rattle.plan_types.specs.declared.action.Action.{Action}
use Rattle.level_book.specs.declared.book.Slots.TheVariants.{Unlimited}
use Rattle.level_book.specs.BookCosts.{BookCosts, slots_of, names_of, room, total_room}
use Rattle.level_book.specs.UnderTable.{IsGreatest}
use Rattle.level_book.specs.DiskUnderTable.{IsGreatestDisk}
use Rattle.cost_tables.specs.TableRows.{TableRows, tables_in}
use Rattle.disk_gen.specs.DiskRows.{DiskRows, disk_tables_in}
use Rattle.disk_gen.specs.DiskRevolveList.{IsDiskWritten}
use Rattle.cert_text.specs.declared.certificate.Certificate.TheVariants as certified
use Rattle.cert_text.specs.Canonical as certificate_text
use Rattle.bound_cert.specs.Thresholds.{IsThresholdOf}
use Rattle.endings.specs.Outcomes.{out_of_range, no_plan}
use Rattle.multistage_gen.specs.MultistageList.{IsMultistageList}
use Rattle.hrevolve_gen.specs.Plans as nested
use Rattle.hrevolve_gen.specs.HRevolveList.{IsWritten}
use Rattle.disk_gen.specs.PeriodicList.{images, periodic_list}
use Rattle.disk_gen.specs.Plans.{slots_at, HasSlots}
use Rattle.requests.specs.declared.kind.PlanKind.{PlanKind}
use Rattle.requests.specs.declared.kind.PlanKind.TheVariants.{Revolve, Multistage, Disk, Hrevolve}
use Rattle.reversal.specs.Job.{write}
use Rattle.reversal.specs.Table.{Decision, Table, does, plans, Decided, accept, needs, tabulates, ends}
use Rattle.reversal.specs.Plans.{list_pieces, plan_pieces, AreTablesFor, AreDiskTablesFor}
use Rattle.reversal.specs.InputMeaning.{over_book}

-- the text of that list and of its certificate for a book alone
abbrev pub plan_revolve_table : ℕ → List ℕ → Table
plan_revolve_table steps book = over_book book (λ (b : BookCosts). plans steps b (does (write (plan_pieces steps b))))

abbrev pub DecidesPlanRevolve : ℕ → List ℕ → Decision → Type 0
DecidesPlanRevolve steps book d = Decided (plan_revolve_table steps book) d

-- the text of the multistage list for the two levels of a book, and of its threshold
abbrev pub plan_multistage_table : ℕ → List ℕ → Table
plan_multistage_table steps book =
    over_book book (λ (b : BookCosts).
    needs (length b.levels ≡ 2) (no_plan steps (total_room b steps) 2) (
    plans steps b (
    ends (λ d. (list : List Action) × (IsMultistageList steps b list × ((threshold : ℕ) × (IsThresholdOf threshold steps b list
    × (d ≡ accept (write (list_pieces (names_of b) list ++ certificate_text.pieces (certified.Places threshold)))))))))))

abbrev pub DecidesPlanMultistage : ℕ → List ℕ → Decision → Type 0
DecidesPlanMultistage steps book d = Decided (plan_multistage_table steps book) d

-- The texts of the DiskRevolve list, and of its tables. It is for memory and an unlimited disk, and is read from the
-- greatest disk tables.
abbrev pub plan_disk_table : ℕ → List ℕ → Table
plan_disk_table steps book =
    over_book book (λ (b : BookCosts).
    needs (room b 0 steps ≤ 64) (out_of_range (room b 0 steps) 64 9) (
    needs (length b.levels ≡ 2) (no_plan steps (total_room b steps) 2) (
    needs (slice_get (slots_of b) 1 ≡ Some Unlimited) (no_plan steps (total_room b steps) 3) (
    ends (λ d. (t : DiskRows) × (AreDiskTablesFor steps b t × (IsGreatestDisk steps b (disk_tables_in t)
    × ((list : List Action) × (IsDiskWritten steps b (disk_tables_in t) list
    × (d ≡ accept (write (list_pieces (names_of b) list ++ certificate_text.pieces (certified.Disk t)))))))))))))

abbrev pub DecidesPlanDisk : ℕ → List ℕ → Decision → Type 0
DecidesPlanDisk steps book d = Decided (plan_disk_table steps book) d

-- the text of the list of H-Revolve, read from the greatest tables, and of these tables
abbrev pub plan_hrevolve_table : ℕ → List ℕ → Table
plan_hrevolve_table steps book =
    over_book book (λ (b : BookCosts).
    tabulates steps b (
    needs (nested.HasNestedPlan steps b) (no_plan steps (total_room b steps) 1) (
    ends (λ d. (t : TableRows) × (AreTablesFor steps b t × (IsGreatest steps b (tables_in t)
    × ((list : List Action) × (IsWritten steps b (tables_in t) list
    × (d ≡ accept (write (list_pieces (names_of b) list ++ certificate_text.pieces (certified.Nested t))))))))))))

abbrev pub DecidesPlanHrevolve : ℕ → List ℕ → Decision → Type 0
DecidesPlanHrevolve steps book d = Decided (plan_hrevolve_table steps book) d

-- the text of the list of a kind
abbrev pub plan_table : PlanKind → ℕ → List ℕ → Table
plan_table Revolve steps book = plan_revolve_table steps book
plan_table Multistage steps book = plan_multistage_table steps book
plan_table Disk steps book = plan_disk_table steps book
plan_table Hrevolve steps book = plan_hrevolve_table steps book

abbrev pub DecidesPlan : PlanKind → ℕ → List ℕ → Decision → Type 0
DecidesPlan kind steps book d = Decided (plan_table kind steps book) d

-- The text of the periodic list for the two levels of a book. The faster level has a slot where it is used, and the
-- slower has room for its images.
abbrev pub plan_periodic_table : ℕ → ℕ → List ℕ → Table
plan_periodic_table steps period book =
    over_book book (λ (b : BookCosts).
    needs (length b.levels ≡ 2) (no_plan steps (total_room b steps) 2) (
    needs (2 ≤ steps → 2 ≤ period → 1 ≤ room b 0 steps) (no_plan steps (total_room b steps) 1) (
    needs (HasSlots (slots_at b 1) (images steps period)) (no_plan steps (total_room b steps) 4)
    (does (write (list_pieces (names_of b) (periodic_list steps period b)))))))

abbrev pub DecidesPlanPeriodic : ℕ → ℕ → List ℕ → Decision → Type 0
DecidesPlanPeriodic steps period book d = Decided (plan_periodic_table steps period book) d
