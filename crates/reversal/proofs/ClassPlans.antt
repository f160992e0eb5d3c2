-- What is written of a plan of H-Revolve, of DiskRevolve, and of a multistage plan, costs the least of its class.
use Rattle.std.proofs.Common.{◌≡◌, ℕ, zero, suc, ◌+◌, ◌-◌, ◌*◌, ◌≤◌, ◌++◌, Bool, true, false, List, length, refl, sym, ◌∙◌, ap, subst, arith}
use Rattle.plan_types.specs.declared.action.Action.{Action}
use Rattle.level_book.specs.BookCosts.{BookCosts, slots_of, names_of, room, total_room}
use Rattle.level_book.specs.BookFaults.{IsBookText}
use Rattle.level_book.specs.CostFold.{cost}
use Rattle.level_book.specs.Valid.{Valid}
use Rattle.level_book.specs.NestedClass.{Nested as IsNested}
use Rattle.level_book.specs.UnderTable.{Entry, number, Tables, sum_of, write_cost, read_cost, top_entry}
use Rattle.hrevolve_gen.specs.HRevolveList.{Part, one, faster, split, Reads, IsWritten}
use Rattle.hrevolve_gen.proofs.NestedLists.{written_costs, written_nested}
use Rattle.revolve_gen.specs.Multistage.{IsMultistage}
use Rattle.multistage_gen.proofs.ClassMembership.{planned_in_class, revolve_short}
use Rattle.multistage_gen.proofs.LeastCost.{planned_least}
use Rattle.revolve_gen.proofs.MultistageValidity.{multistage_valid}
use Rattle.cert_text.specs.declared.certificate.Certificate.{Certificate}
use Rattle.cert_text.specs.declared.certificate.Certificate.TheVariants.{Places, Nested, Disk}
use Rattle.cert_text.specs.Meaning.{HasText}
use Rattle.cost_tables.specs.TableRows.{TableRows, TablesFit, FastestTablesFit, tables_in}
use Rattle.disk_gen.specs.DiskRows.{DiskRows, disk_tables_in}
use Rattle.cert_text.specs.Canonical as certificate_text
use Rattle.bound_cert.specs.Acceptance.{IsAccepted}
use Rattle.bound_cert.proofs.Decidability.{threshold_low}
use Rattle.bound_cert.proofs.ThresholdFit.{planned_fits}
use Rattle.bound_cert.proofs.Texts.{nested_has_text, disk_has_text}
use Rattle.class_bounds.proofs.NestedCosts.{nested_least}
use Rattle.class_bounds.proofs.DiskCosts.{disk_least as disk_list_least}
use Rattle.level_book.specs.DiskClass.{Disk as IsDisk}
use Rattle.level_book.specs.DiskUnderTable.{DiskTables, disk_top_entry}
use Rattle.disk_gen.specs.DiskPlans.{HasDiskPlan}
use Rattle.disk_gen.specs.DiskRevolveList.{HeldPart, finally, again, DiskPart, alone, parted, fast_tables, ReadsHeld, ReadsDisk, IsDiskWritten}
use Rattle.disk_gen.proofs.DiskCosts.{written_disk_costs}
use Rattle.disk_gen.proofs.DiskMembership.{written_in_class}
use Rattle.reversal.specs.Job.{Job, write}
use Rattle.reversal.specs.Table.{accept}
use Rattle.reversal.specs.CommandPlan.{DecidesPlanDisk, DecidesPlanHrevolve, DecidesPlanMultistage}
use Rattle.endings.specs.Outcomes.{bad_book}
use Rattle.reversal.specs.Plans.{list_pieces}
use Rattle.reversal.specs.WrittenPlans.{SaysAgain}
use Rattle.reversal.proofs.Lengths.{written_few, disk_written_few}
use Rattle.reversal.proofs.PlanRoundTrip.{read_again}
use Rattle.reversal.proofs.BookTexts.{some_level, costs_rise, within_limits}
use Rattle.reversal.proofs.DecisionLaws.{read_said, need_met, tabulate_met, job_or}

-- the entry of a stretch whose first state is in work, or held
abbrev entry_of : Tables → Bool → ℕ → ℕ → ℕ → Entry
entry_of t false = t.fresh
entry_of t true = t.held

-- an entry that a part is read from is a number
read_number : (steps : ℕ) (book : BookCosts) (t : Tables) (p : Part) (held : Bool) (k l m : ℕ) → Reads steps book t held k l m p → (v : ℕ) × (entry_of t held k l m ≡ number v)
read_number steps book t one false k l m is = (book.forward + book.reverse, is.1)
read_number steps book t one true k l m is = (read_cost book k + book.forward + book.reverse, is.1)
read_number steps book t (faster p) held zero l m is = absurd is
read_number steps book t (faster p) false (suc k) l m is =
    let below = read_number steps book t p false k l (room book k steps) is.2 in
    (below.0, is.1 ∙ below.1)
read_number steps book t (faster p) true (suc k) l m is =
    let below = read_number steps book t p false k l (room book k steps) is.2 in
    (read_cost book (suc k) + 0 + below.0, is.1 ∙ ap (sum_of (read_cost book (suc k)) (number 0)) below.1)
read_number steps book t (split j p q) false k l zero is = absurd is
read_number steps book t (split j p q) false k l (suc m) is =
    let later = read_number steps book t p false k (l - j) m is.3 in
    let sooner = read_number steps book t q true k j m is.4 in
    let n = write_cost book k + j * book.forward in
    (n + later.0 + sooner.0, is.2 ∙ (λ i. sum_of n (later.1 i) (sooner.1 i)))
read_number steps book t (split j p q) true k l m is =
    let later = read_number steps book t p false k (l - j) m is.3 in
    let sooner = read_number steps book t q true k j m is.4 in
    let n = read_cost book k + j * book.forward in
    (n + later.0 + sooner.0, is.2 ∙ (λ i. sum_of n (later.1 i) (sooner.1 i)))

top_number : (steps : ℕ) (book : BookCosts) (t : Tables) (list : List Action) → IsWritten steps book t list → (v : ℕ) × (top_entry steps book t ≡ number v)
top_number zero book t list is = (0, refl)
top_number (suc n) book t list is = read_number (suc n) book t is.0 false _ (suc n) _ is.1

-- what is written of a list and of a certificate with a text says them again
said_again : (steps : ℕ) (book : List ℕ) (b : BookCosts) (list : List Action) (c : Certificate) (job : Job) → job ≡ write (list_pieces (names_of b) list ++ certificate_text.pieces c) → steps ≤ 1000000 → IsBookText book b → length list ≤ 16777216 →
    Valid steps (slots_of b) list → HasText steps b c → SaysAgain steps b job list c
said_again steps book b list c job is short is_book few valid has =
    subst (λ (j : Job). SaysAgain steps b j list c) (sym is) (λ shown. read_again steps book b list c short is_book few valid has)

-- a plan of H-Revolve is nested, its certificate is accepted for it, no nested list costs less, and it is read again
pub hrevolve_least : (steps : ℕ) (book : List ℕ) (job : Job) → steps ≤ 2048 → DecidesPlanHrevolve steps book (accept job) →
    (b : BookCosts) × IsBookText book b × (list : List Action) × (t : TableRows) × (job ≡ write (list_pieces (names_of b) list ++ certificate_text.pieces (Nested t))) × IsNested steps (slots_of b) list
    × IsAccepted list steps b (Nested t) × ((other : List Action) → IsNested steps (slots_of b) other → cost list b ≤ cost other b) × SaysAgain steps b job list (Nested t)
hrevolve_least steps book job short h =
    let b = read_said (IsBookText book) _ bad_book job _ h in
    let narrow = tabulate_met steps b.0 job _ b.1.1 in
    let plan = need_met _ _ job _ narrow.1 in
    let t = plan.1.0 in
    let are = plan.1.1.0 in
    let greatest = plan.1.1.1.0 in
    let fits : TablesFit steps b.0 = record { few = short; narrow = narrow.0 } in
    let has = nested_has_text steps b.0 t (within_limits book b.0 b.1.0) fits are.0 are.1 greatest in
    let list = plan.1.1.1.1.0 in
    let is = plan.1.1.1.1.1.0 in
    let done : job ≡ write (list_pieces (names_of b.0) list ++ certificate_text.pieces (Nested t)) = ap (job_or job) plan.1.1.1.1.1.1 in
    let some = some_level book b.0 b.1.0 in
    let top = top_number steps b.0 (tables_in t) list is in
    let costs = top.1 ∙ ap (λ n. number n) (sym (written_costs steps b.0 (tables_in t) list top.0 is top.1)) in
    let member = written_nested steps b.0 (tables_in t) list some is in
    let few = written_few steps b.0 (tables_in t) list is in (
      b.0,
      b.1.0,
      list,
      t,
      done,
      member,
      (member.0, (fits, are.0), member, greatest.under, costs),
      (λ other nested. nested_least steps b.0 (tables_in t) list other some greatest.under costs nested),
      said_again steps book b.0 list (Nested t) job done (omega (arith, short)) b.1.0 (omega (arith, few, short)) member.0 has,
    )

-- ---- disk tables

-- the same of a stretch whose first state is held on level 1, and of one whose first state is in work
held_number : (steps : ℕ) (book : BookCosts) (t : DiskTables) (l : ℕ) (p : HeldPart) → ReadsHeld steps book t l p → (v : ℕ) × (t.disk_held l ≡ number v)
held_number steps book t l (finally p) is =
    let below = read_number steps book (fast_tables t) p false 0 l (room book 0 steps) is.1 in
    (read_cost book 1 + 0 + below.0, is.0 ∙ ap (sum_of (read_cost book 1) (number 0)) below.1)
held_number steps book t l (again i p q) is =
    let later = read_number steps book (fast_tables t) p false 0 (l - i) (room book 0 steps) is.3 in
    let sooner = held_number steps book t i q is.4 in
    let n = read_cost book 1 + i * book.forward in
    (n + later.0 + sooner.0, is.2 ∙ (λ j. sum_of n (later.1 j) (sooner.1 j)))

disk_number : (steps : ℕ) (book : BookCosts) (t : DiskTables) (l : ℕ) (p : DiskPart) → ReadsDisk steps book t l p → (v : ℕ) × (t.disk_fresh l ≡ number v)
disk_number steps book t l (alone p) is =
    let below = read_number steps book (fast_tables t) p false 0 l (room book 0 steps) is.1 in
    (below.0, is.0 ∙ below.1)
disk_number steps book t l (parted j p q) is =
    let later = disk_number steps book t (l - j) p is.3 in
    let sooner = held_number steps book t j q is.4 in
    let n = write_cost book 1 + j * book.forward in
    (n + later.0 + sooner.0, is.2 ∙ (λ i. sum_of n (later.1 i) (sooner.1 i)))

disk_top_number : (steps : ℕ) (book : BookCosts) (t : DiskTables) (list : List Action) → IsDiskWritten steps book t list → (v : ℕ) × (disk_top_entry steps t ≡ number v)
disk_top_number zero book t list is = (0, refl)
disk_top_number (suc n) book t list is = disk_number (suc n) book t (suc n) is.0 is.1

-- a plan of DiskRevolve is in the disk class, its certificate is accepted for it, no list of the class costs less, and it is read again
pub disk_least : (steps : ℕ) (book : List ℕ) (job : Job) → steps ≤ 8192 → DecidesPlanDisk steps book (accept job) →
    (b : BookCosts) × IsBookText book b × (list : List Action) × (t : DiskRows) × (job ≡ write (list_pieces (names_of b) list ++ certificate_text.pieces (Disk t))) × IsDisk steps (slots_of b) list
    × IsAccepted list steps b (Disk t) × ((other : List Action) → IsDisk steps (slots_of b) other → cost list b ≤ cost other b) × SaysAgain steps b job list (Disk t)
disk_least steps book job short h =
    let b = read_said (IsBookText book) _ bad_book job _ h in
    let few = need_met _ _ job _ b.1.1 in
    let two = need_met _ _ job _ few.1 in
    let unlimited = need_met _ _ job _ two.1 in
    let t = unlimited.1.0 in
    let are = unlimited.1.1.0 in
    let greatest = unlimited.1.1.1.0 in
    let list = unlimited.1.1.1.1.0 in
    let is = unlimited.1.1.1.1.1.0 in
    let done : job ≡ write (list_pieces (names_of b.0) list ++ certificate_text.pieces (Disk t)) = ap (job_or job) unlimited.1.1.1.1.1.1 in
    let plan : HasDiskPlan b.0 = record { two = two.0; unlimited = unlimited.0 } in
    let fits : FastestTablesFit steps b.0 = record { few = short; narrow = few.0 } in
    let has = disk_has_text steps b.0 t (within_limits book b.0 b.1.0) fits (record { sized = are.0; plan = plan }) are.1 greatest in
    let top = disk_top_number steps b.0 (disk_tables_in t) list is in
    let costs = top.1 ∙ ap (λ n. number n) (sym (written_disk_costs steps b.0 (disk_tables_in t) list top.0 is top.1)) in
    let member = written_in_class steps b.0 (disk_tables_in t) list plan is in
    let long = disk_written_few steps b.0 (disk_tables_in t) list is in (
      b.0,
      b.1.0,
      list,
      t,
      done,
      member,
      (member.nested.0, (fits, are.0), member, greatest.under, costs),
      (λ other class. disk_list_least steps b.0 (disk_tables_in t) list other greatest.under costs class),
      said_again steps book b.0 list (Disk t) job done (omega (arith, short)) b.1.0 (omega (arith, long, short)) member.nested.0 has,
    )

-- a multistage plan is in its class, its certificate is accepted for it, no list of the class costs less, and it is read again
pub multistage_least : (steps : ℕ) (book : List ℕ) (job : Job) → DecidesPlanMultistage steps book (accept job) →
    (b : BookCosts) × IsBookText book b × (list : List Action) × (threshold : ℕ) × (job ≡ write (list_pieces (names_of b) list ++ certificate_text.pieces (Places threshold))) × IsMultistage steps b list
    × IsAccepted list steps b (Places threshold) × ((other : List Action) → IsMultistage steps b other → cost list b ≤ cost other b) × (steps ≤ 1000000 → SaysAgain steps b job list (Places threshold))
multistage_least steps book job h =
    let b = read_said (IsBookText book) _ bad_book job _ h in
    let two = need_met _ _ job _ b.1.1 in
    let plan = need_met _ _ job _ two.1 in
    let list = plan.1.0 in
    let is = plan.1.1.0 in
    let threshold = plan.1.1.1.0 in
    let of = plan.1.1.1.1.0 in
    let done : job ≡ write (list_pieces (names_of b.0) list ++ certificate_text.pieces (Places threshold)) = ap (job_or job) plan.1.1.1.1.1 in
    let member = planned_in_class steps b.0 list is in
    let valid = multistage_valid steps b.0 list member in
    let few : steps ≤ 1000000 → length list ≤ 16777216 = λ short. subst (λ (l : List Action). length l ≤ 16777216) (sym is.planned.is) (revolve_short is.level steps (total_room b.0 steps) is.plan short) in
    let rise = costs_rise book b.0 is.fast is.slow b.1.0 is.two in (
      b.0,
      b.1.0,
      list,
      threshold,
      done,
      member,
      (valid, planned_fits threshold steps b.0 list of is),
      (λ other other_member. planned_least steps b.0 list other is rise.0 rise.1 other_member),
      (λ short. said_again steps book b.0 list (Places threshold) job done short b.1.0 (few short) valid (threshold_low threshold steps b.0 list short (within_limits book b.0 b.1.0) is of)),
    )
