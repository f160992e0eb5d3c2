-- What a request comes to: one decision, and of a list that is performed that it is valid.
use Rattle.std.proofs.Common.{◌≡◌, ◌⊎◌, inl, inr, ℕ, ◌+◌, ◌<◌, ◌≤◌, ◌++◌, max, Bool, true, false, cond, nat_le, List, [], ◌∷◌, length, map, append-nil, Option, None, Some, slice_get, Result, Ok, Err, IsErrAnd, IfErr, refl, sym, ◌∙◌, ap, subst, arith}
use Rattle.std.specs.Prelude.{codes, decimal}
use Rattle.std.proofs.lemmas.Bool.{leb-true, leb-false}
use Rattle.std.proofs.lemmas.List.Folds.{fold-map}
use Rattle.std.proofs.lemmas.List.Sums.{sum_by-append, sum_by-cons}
use Rattle.plan_types.specs.declared.action.Action.{Action}
use Rattle.level_book.specs.declared.book.Slots.{Slots}
use Rattle.level_book.specs.BookCosts.{BookCosts, slots_of, names_of, room, total_room}
use Rattle.level_book.specs.BookFaults.{IsBookText}
use Rattle.level_book.specs.Valid.{Valid, BrokenAt}
use Rattle.action_text.specs.ScheduleText.{IsSchedule}
use Rattle.rv_machine.specs.MachineState.{MachineState}
use Rattle.reverse_runner.specs.KeepersSeen.{HaveRoom}
use Rattle.endings.specs.declared.outcome.Outcome.{Outcome}
use Rattle.requests.specs.Request.{Choice, says_raw, stack_pages, unit_count, Command, Request}
use Rattle.endings.specs.Outcomes.{no_memory, not_least, unreadable, too_long as longer, bad_program, bad_journal, bad_book, bad_text, invalid, bad_certificate, bad_script, out_of_range, no_plan}
use Rattle.revolve_gen.specs.Plans.{HasPlan}
use Rattle.revolve_gen.specs.RevolveList.{revolve_list}
use Rattle.requests.specs.Operands.{limit_of}
use Rattle.requests.specs.Inputs.{Input, inputs_of}
use Rattle.requests.specs.Loaded.{Loaded, loaded_of}
use Rattle.requests.specs.InputOutcome.{Reading, all, too_long, not_there, with_front, reading}
use Rattle.multistage_gen.specs.MultistageList.{IsMultistageList}
use Rattle.bound_cert.specs.Thresholds.{IsThresholdOf}
use Rattle.cert_text.specs.declared.certificate.Certificate.TheVariants as certified
use Rattle.cert_text.specs.Canonical as certificate_text
use Rattle.level_book.specs.UnderTable.{IsGreatest}
use Rattle.cost_tables.specs.TableRows.{TableRows, tables_in}
use Rattle.disk_gen.specs.DiskRows.{DiskRows, disk_tables_in}
use Rattle.hrevolve_gen.specs.Plans as nested
use Rattle.hrevolve_gen.specs.HRevolveList.{IsWritten}
use Rattle.disk_gen.specs.PeriodicList.{images, periodic_list}
use Rattle.disk_gen.specs.Plans.{slots_at, HasSlots}
use Rattle.reversal.specs.NoPlans.{IsUnperiodic, IsUndisked, IsUnnested}
use Rattle.reversal.specs.Plans.{list_pieces, plan_pieces, certificate_of, AreTablesFor, AreDiskTablesFor}
use Rattle.reversal.proofs.RevolvePlan.{plan_valid, plan_certified, revolve_least}
use Rattle.reversal.proofs.PlanRoundTrip.{plan_read_again}
use Rattle.reversal.specs.Demo as demonstration
use Rattle.reversal.specs.CostReport.{list_report}
use Rattle.level_book.specs.declared.book.Slots.TheVariants.{Unlimited}
use Rattle.level_book.specs.DiskUnderTable.{IsGreatestDisk}
use Rattle.disk_gen.specs.DiskRevolveList.{IsDiskWritten}
use Rattle.reversal.specs.Job.{Run, Job, perform, ask as ask_job, seek, write, console, demonstrate}
use Rattle.reversal.specs.Course.{Shown}
use Rattle.reversal.specs.Deeds.{silent_deed, writing, Deed, bytes_of, bytes_written, steps_made}
use Rattle.reversal.specs.Table.{Decision, refuse, accept, Need, Read, Judge, Keep, Plan, IsFirstWide, Tabulate, Table, does, reads, weighs, Decided}
use Rattle.reversal.specs.Decision.{Take, DecidesLoaded, Decides, table_of, course_of}
use Rattle.reversal.specs.CommandAsk.{answer_text}
use Rattle.reversal.specs.CommandConsole.{setting_marks, DecidesConsole}
use Rattle.reverse_console.specs.declared.order.Order.{Order}
use Rattle.reverse_console.specs.Script.{IsScript}
use Rattle.reverse_console.specs.ScriptFaults.{HasFirstFault as ScriptFirst}
use Rattle.reversal.specs.CommandPlan.{DecidesPlanRevolve, DecidesPlanMultistage, DecidesPlanDisk, DecidesPlanHrevolve, DecidesPlanPeriodic}
use Rattle.reversal.specs.InputMeaning.{HasBookFault, IsStartOf, HasProgramFault, AreItemsOf, HasJournalFault, plans_made, over_list, over_valid, over_program, DecidesOver, in_units}
use Rattle.reversal.specs.CommandCost.{DecidesCost}
use Rattle.reversal.specs.CommandCheck.{DecidesCheck}
use Rattle.reversal.specs.CommandCertify.{DecidesCertify, least_line}
use Rattle.reversal.specs.JobModel.{IsRefusal, IsUnbegun, IsUnjudged}
use Rattle.reversal.proofs.Refusals.{IsRefusing}
use Rattle.cert_text.specs.declared.certificate.Certificate.{Certificate}
use Rattle.cert_text.specs.Meaning.{IsCertificateText}
use Rattle.cert_text.specs.Faults.{HasFirstFault as CertificateFirst}
use Rattle.bound_cert.specs.declared.verdict.Reason.{Reason}
use Rattle.bound_cert.specs.Acceptance.{class_of, IsAccepted, IsFirstReason, IsLeastOf}
use Rattle.level_book.specs.CostFold.{forward}
use Rattle.bound_cert.proofs.VerdictUniqueness.{accepted_least}
use Rattle.level_book.specs.declared.book.Level.{Level}
use Rattle.reversal.proofs.BookTexts.{some_level, costs_rise}
use Rattle.reversal.proofs.CertificateCheck.{weigh_met}
use Rattle.reversal.proofs.KeeperCheck.{keep_refuses, keep_accepts, keep_passes}
use Rattle.action_text.specs.Faults.{HasFirstFault}
use Rattle.reversal.proofs.QuestionDeeds.{bytes_asked, steps_asked}
use Rattle.reversal.proofs.Tables.{IsMet, asks, performs, seeks, writes, moves, shows, one_decided, comes_to}
use Rattle.reversal.proofs.TableSoundness.{tables_sound}
use Rattle.reversal.proofs.ListDeeds.{bytes_performed, steps_performed}

-- ---- a decision is unique

take_one : (place : ℕ) (is : List Input) (given : List (Option (List ℕ))) (c d : Decision) (Below Other : List (List ℕ) → Type 0) → ((bytes : List (List ℕ)) → Below bytes → Other bytes → c ≡ d) →
    Take place is given c Below → Take place is given d Other → c ≡ d
take_one place [] given c d Below Other one h g = one [] h g
take_one place (i ∷ is) [] c d Below Other one h g = h ∙ sym g
take_one place (i ∷ is) (None ∷ given) c d Below Other one h g = h ∙ sym g
take_one place (i ∷ is) (Some bytes ∷ given) c d Below Other one h g = elim h [
  | inl x ↦ elim g [ inl y ↦ x.1 ∙ sym y.1 | inr y ↦ absurd (x.0 y.0) ]
  | inr x ↦ elim g [
    | inl y ↦ absurd (y.0 x.0)
    | inr y ↦ take_one (place + 1) is given c d (λ more. Below (bytes ∷ more)) (λ more. Other (bytes ∷ more)) (λ more. one (bytes ∷ more)) x.1 y.1
  ]
]

pub one_decision : (r : Request) (given : List (Option (List ℕ))) (slots : List ℕ) (c d : Decision) → Decides r given slots c → Decides r given slots d → c ≡ d
one_decision r given slots c d = take_one 1 (inputs_of r.command) given c d _ _ (λ bytes.
    let l = loaded_of (inputs_of r.command) bytes in one_decided (table_of r.options r.command l slots) (tables_sound r.options r.command l slots) c d)

-- ---- what an accepted job is

abbrev accepts : Decision → Type 0
accepts (refuse e) = ⊥
accepts (accept j) = Unit {0}

accept_refuse : (j : Job) (e : Outcome) → accept j ≡ refuse e → ⊥
accept_refuse j e h = subst accepts h tt

abbrev pub job_or : Job → Decision → Job
job_or i (refuse e) = i
job_or i (accept j) = j

take_met : (place : ℕ) (is : List Input) (given : List (Option (List ℕ))) (job : Job) (Below : List (List ℕ) → Type 0) → Take place is given (accept job) Below → (bytes : List (List ℕ)) × Below bytes
take_met place [] given job Below h = ([], h)
take_met place (i ∷ is) [] job Below h = absurd (accept_refuse job (unreadable place) h)
take_met place (i ∷ is) (None ∷ given) job Below h = absurd (accept_refuse job (unreadable place) h)
take_met place (i ∷ is) (Some bytes ∷ given) job Below h = elim h [
  | inl n ↦ absurd (accept_refuse job (longer place (limit_of i.kind)) n.1)
  | inr y ↦ let more = take_met (place + 1) is given job (λ others. Below (bytes ∷ others)) y.1 in (bytes ∷ more.0, more.1)
]

read_met : {A F : Type 0} (IsText : A → Type 0) (HasFault : F → Type 0) (ended : F → Outcome) (job : Job) (Below : A → Type 0) → Read IsText HasFault ended (accept job) Below → (x : A) × Below x
read_met IsText HasFault ended job Below h = elim h [
  | inl n ↦ absurd (accept_refuse job (ended n.0) n.2)
  | inr y ↦ (y.0, y.2)
]

judge_met : (steps : ℕ) (slots : List Slots) (list : List Action) (job : Job) (Below : Type 0) → Judge steps slots list (accept job) Below → Valid steps slots list × Below
judge_met steps slots list job Below h = elim h [
  | inl n ↦ absurd (accept_refuse job (invalid n.0 n.2 n.1) n.5)
  | inr y ↦ y
]

pub need_met : (Holds : Type 0) (e : Outcome) (job : Job) (Below : Type 0) → Need Holds e (accept job) Below → Holds × Below
need_met Holds e job Below h = elim h [ inl n ↦ absurd (accept_refuse job e n.1) | inr y ↦ y ]

pub tabulate_met : (steps : ℕ) (b : BookCosts) (job : Job) (Below : Type 0) → Tabulate steps b (accept job) Below → ((k : ℕ) → k < length b.levels → room b k steps ≤ 64) × Below
tabulate_met steps b job Below h = elim h [ inl n ↦ absurd (accept_refuse job _ n.1.1) | inr y ↦ y ]

-- what a line reads, with what it says
pub read_said : {A F : Type 0} (IsText : A → Type 0) (HasFault : F → Type 0) (ended : F → Outcome) (job : Job) (Below : A → Type 0) → Read IsText HasFault ended (accept job) Below → (x : A) × (IsText x × Below x)
read_said IsText HasFault ended job Below h = elim h [
  | inl n ↦ absurd (accept_refuse job (ended n.0) n.2)
  | inr y ↦ (y.0, (y.1, y.2))
]

-- a list that is certified is the least of its class
pub certified_least : (steps : ℕ) (book schedule certificate : List ℕ) (job : Job) → DecidesCertify steps book schedule certificate (accept job) →
    (b : BookCosts) × IsBookText book b × (list : List Action) × IsSchedule (names_of b) schedule list × Valid steps (slots_of b) list
    × (k : Certificate) × IsCertificateText steps b certificate k × (job ≡ write (least_line (class_of k) ∷ [])) × IsLeastOf (class_of k) steps b list
certified_least steps book schedule certificate job h =
    let b = read_said (IsBookText book) _ bad_book job _ h in
    let list = read_said (IsSchedule (names_of b.0) schedule) _ bad_text job _ b.1.1 in
    let valid = judge_met _ _ _ job _ list.1.1 in
    let k = read_said (IsCertificateText steps b.0 certificate) _ bad_certificate job _ valid.1 in
    let weighed = weigh_met steps b.0 list.0 k.0 job _ k.1.1 in
    let rise : (fast slow : Level) → b.0.levels ≡ fast ∷ slow ∷ [] → (fast.write ≤ slow.write) × (fast.read ≤ slow.read) = λ fast slow two. costs_rise book b.0 fast slow b.1.0 two in
    (b.0, b.1.0, list.0, list.1.0, valid.0, k.0, k.1.0, ap (job_or job) weighed.1, accepted_least list.0 steps b.0 k.0 (some_level book b.0 b.1.0) rise weighed.0)

-- a plan is the least, and its certificate is accepted
pub planned_least : (steps : ℕ) (book : List ℕ) (job : Job) → DecidesPlanRevolve steps book (accept job) →
    (b : BookCosts) × IsBookText book b × (job ≡ write (plan_pieces steps b)) × Valid steps (slots_of b) (revolve_list steps b) × IsAccepted (revolve_list steps b) steps b (certificate_of steps b)
    × ((other : List Action) → Valid steps (slots_of b) other → forward (revolve_list steps b) ≤ forward other)
planned_least steps book job h =
    let b = read_said (IsBookText book) _ bad_book job _ h in
    let plan = need_met _ _ job _ b.1.1 in
    let accepted = plan_certified steps b.0 plan.0 in
    (b.0, b.1.0, ap (job_or job) plan.1, plan_valid steps b.0 plan.0, accepted, revolve_least steps b.0 accepted)

-- and it is read again as it was written
pub planned_again : (steps : ℕ) (book : List ℕ) (job : Job) → steps ≤ 1000000 → DecidesPlanRevolve steps book (accept job) →
    (b : BookCosts) × IsBookText book b × ((shown : Shown) → IsSchedule (names_of b) ((course_of job).output shown) (revolve_list steps b) × IsCertificateText steps b ((course_of job).output shown) (certificate_of steps b))
planned_again steps book job short h =
    let b = read_said (IsBookText book) _ bad_book job _ h in
    let plan = need_met _ _ job _ b.1.1 in
    let P : Shown → Job → Type 0 = λ shown j. IsSchedule (names_of b.0) ((course_of j).output shown) (revolve_list steps b.0) × IsCertificateText steps b.0 ((course_of j).output shown) (certificate_of steps b.0) in
    (b.0, b.1.0, λ shown. subst (P shown) (sym (ap (job_or job) plan.1)) (plan_read_again steps book b.0 short b.1.0 plan.0))

-- a job that is accepted may be done
loaded_met : (options : List Choice) (command : Command) (l : Loaded) (slots : List ℕ) (job : Job) → DecidesLoaded options command l slots (accept job) → IsMet job
loaded_met options command l slots job h = elim (comes_to (table_of options command l slots) (tables_sound options command l slots) (accept job) h) [
  | inl x ↦ absurd (accept_refuse job x.0 x.1.0)
  | inr x ↦ subst IsMet (sym (ap (job_or job) x.1.0)) x.1.1
]

-- silent deeds write nothing, and make their forward steps
pub silent_bytes : (list : List Action) (ds : List Deed) → bytes_written (map silent_deed list ++ ds) ≡ bytes_written ds
silent_bytes [] ds = refl
silent_bytes (a ∷ list) ds = silent_bytes list ds

pub silent_steps : (list : List Action) → steps_made (map silent_deed list) ≡ forward list
silent_steps list = fold-map (λ n (d : Deed). n + d.steps) silent_deed 0 list

-- what a job's deeds write is its output
abbrev WritesOutput : Shown → Job → Type 0
WritesOutput shown job = bytes_written ((course_of job).deeds shown) ≡ (course_of job).output shown

-- what a search writes is its answer
seek_output : (text : List ℕ) → (text ++ []) ++ [] ≡ text
seek_output text = append-nil (text ++ []) ∙ append-nil text

met_output : (job : Job) → IsMet job → (shown : Shown) → WritesOutput shown job
met_output job (performs run valid is) shown = subst (WritesOutput shown) (sym is) (bytes_performed shown.states run.unit run.steps run.slots run.list valid)
met_output job (asks question run within valid is) shown = subst (WritesOutput shown) (sym is) (bytes_asked shown question run within valid)
met_output job (seeks first journal steps workers digest is) shown = subst (WritesOutput shown) (sym is) (seek_output (answer_text shown.answer))
met_output job (writes texts is) shown = subst (WritesOutput shown) (sym is) (append-nil (bytes_of texts))
met_output job (moves first journal p orders is) shown = subst (WritesOutput shown) (sym is) refl
met_output job (shows number first steps slots is) shown =
    let text = demonstration.summary number first steps slots in
    subst (WritesOutput shown) (sym is) (silent_bytes (demonstration.demo_list steps slots) (writing (text ∷ []) ∷ []) ∙ append-nil (text ++ []) ∙ append-nil text)

-- the deeds of a job that was decided write its output
pub deeds_output : (r : Request) (given : List (Option (List ℕ))) (slots : List ℕ) (job : Job) → Decides r given slots (accept job) → (shown : Shown) → WritesOutput shown job
deeds_output r given slots job h =
    let met = take_met 1 (inputs_of r.command) given job (λ bytes. DecidesLoaded r.options r.command (loaded_of (inputs_of r.command) bytes) slots (accept job)) h in
    met_output job (loaded_met r.options r.command (loaded_of (inputs_of r.command) met.0) slots job met.1)

pub deeds_steps : (shown : Shown) (job : Job) → steps_made ((course_of job).deeds shown) ≡ (course_of job).steps shown
deeds_steps shown (perform run) = steps_performed shown.states run.unit run.steps run.list
deeds_steps shown (ask_job question run) = steps_asked shown question run
deeds_steps shown (seek first journal steps workers digest) = omega arith
deeds_steps shown (write texts) = refl
deeds_steps shown (console first journal p orders) = sum_by-cons (λ (d : Deed). d.steps) (setting_marks p) shown.orders
deeds_steps shown (demonstrate number first steps slots) =
    sum_by-append (λ (d : Deed). d.steps) (map silent_deed (demonstration.demo_list steps slots)) (writing (demonstration.summary number first steps slots ∷ []) ∷ [])
    ∙ omega (arith, silent_steps (demonstration.demo_list steps slots))

-- ---- from what was read to a decision

chosen : {A : Type 0} (b : Bool) (x y z : A) → cond b x y ≡ z → ((b ≡ true) × (x ≡ z)) ⊎ ((b ≡ false) × (y ≡ z))
chosen true x y z e = inl (refl, e)
chosen false x y z e = inr (refl, e)

abbrev bytes_or : List (List ℕ) → Reading → List (List ℕ)
bytes_or other (all bytes) = bytes
bytes_or other _ = other

abbrev long_or : Outcome → Reading → Outcome
long_or other (too_long place limit) = longer place limit
long_or other _ = other

front_all : (front : List (List ℕ)) (r : Reading) (bytes : List (List ℕ)) → with_front front r ≡ all bytes → (rest : List (List ℕ)) × (r ≡ all rest) × (front ++ rest ≡ bytes)
front_all front (all rest) bytes e = (rest, refl, ap (bytes_or bytes) e)
front_all front (too_long place limit) bytes e = absurd (cc)
front_all front (not_there place) bytes e = absurd (cc)

front_long : (front : List (List ℕ)) (r : Reading) (p l : ℕ) → with_front front r ≡ too_long p l → r ≡ too_long p l
front_long front (all rest) p l e = absurd (cc)
front_long front (too_long place limit) p l e = e
front_long front (not_there place) p l e = absurd (cc)

-- what was read is decided by
pub read_decides : (place : ℕ) (is : List Input) (given : List (Option (List ℕ))) (bytes : List (List ℕ)) (d : Decision) (Below : List (List ℕ) → Type 0) → reading place is given ≡ all bytes → Below bytes → Take place is given d Below
read_decides place [] given bytes d Below e h = subst Below (sym (ap (bytes_or bytes) e)) h
read_decides place (i ∷ is) [] bytes d Below e h = absurd (cc)
read_decides place (i ∷ is) (None ∷ given) bytes d Below e h = absurd (cc)
read_decides place (i ∷ is) (Some b ∷ given) bytes d Below e h = elim (chosen (nat_le (length b) (limit_of i.kind)) (with_front (b ∷ []) (reading (place + 1) is given)) (too_long place (limit_of i.kind)) (all bytes) e) [
  | inl fits ↦
      let rest = front_all (b ∷ []) (reading (place + 1) is given) bytes fits.1 in
      inr (leb-true (length b) (limit_of i.kind) fits.0, read_decides (place + 1) is given rest.0 d (λ others. Below (b ∷ others)) rest.1 (subst Below (sym rest.2) h))
  | inr long ↦ absurd (too_long_all place (limit_of i.kind) bytes long.1)
]
  where
    too_long_all : (place limit : ℕ) (bytes : List (List ℕ)) → too_long place limit ≡ all bytes → ⊥
    too_long_all place limit bytes e = absurd (cc)

-- one that is too long is refused
pub long_decides : (place : ℕ) (is : List Input) (given : List (Option (List ℕ))) (p l : ℕ) (Below : List (List ℕ) → Type 0) → reading place is given ≡ too_long p l → Take place is given (refuse (longer p l)) Below
long_decides place [] given p l Below e = absurd (cc)
long_decides place (i ∷ is) [] p l Below e = absurd (cc)
long_decides place (i ∷ is) (None ∷ given) p l Below e = absurd (cc)
long_decides place (i ∷ is) (Some b ∷ given) p l Below e = elim (chosen (nat_le (length b) (limit_of i.kind)) (with_front (b ∷ []) (reading (place + 1) is given)) (too_long place (limit_of i.kind)) (too_long p l) e) [
  | inl fits ↦ inr (leb-true (length b) (limit_of i.kind) fits.0, long_decides (place + 1) is given p l (λ others. Below (b ∷ others)) (front_long (b ∷ []) (reading (place + 1) is given) p l fits.1))
  | inr long ↦ let after = leb-false (length b) (limit_of i.kind) long.0 in inl (λ fits. absurd (omega (arith, fits, after)), ap (λ x. refuse x) (sym (ap (long_or (longer p l)) long.1)))
]

-- ---- from the steps of deciding to a decision

pub refuse_by : (e f : Outcome) → e ≡ f → refuse e ≡ refuse f
refuse_by e f h = ap (λ x. refuse x) h

-- a line refuses, or passes on to the lines below
pub read_refuses : {A F : Type 0} (IsText : A → Type 0) (HasFault : F → Type 0) (ended : F → Outcome) (e : Outcome) (Below : A → Type 0) → IsRefusal HasFault ended e → (e ≡ no_memory) ⊎ Read IsText HasFault ended (refuse e) Below
read_refuses IsText HasFault ended e Below h = elim h [
  | inl memory ↦ inl memory
  | inr fault ↦ inr (inl (fault.0, fault.1, refuse_by e (ended fault.0) fault.2))
]

pub read_passes : {A F : Type 0} (IsText : A → Type 0) (HasFault : F → Type 0) (ended : F → Outcome) (e : Outcome) (Below : A → Type 0) (x : A) → IsText x → (e ≡ no_memory) ⊎ Below x → (e ≡ no_memory) ⊎ Read IsText HasFault ended (refuse e) Below
read_passes IsText HasFault ended e Below x is h = elim h [
  | inl memory ↦ inl memory
  | inr below ↦ inr (inr (x, is, below))
]

-- the ending is of a book that has no plan for so many steps
abbrev pub IsUnplanned : ℕ → BookCosts → Outcome → Type 0
IsUnplanned steps b e = (e ≡ no_memory) ⊎ ((HasPlan steps (total_room b steps) → ⊥) × (e ≡ no_plan steps (total_room b steps) 1))

pub plan_refuses : (steps : ℕ) (b : BookCosts) (e : Outcome) (Below : Type 0) → IsUnplanned steps b e → (e ≡ no_memory) ⊎ Plan steps b (refuse e) Below
plan_refuses steps b e Below h = elim h [
  | inl memory ↦ inl memory
  | inr none ↦ inr (inl (none.0, refuse_by e (no_plan steps (total_room b steps) 1) none.1))
]

pub plan_passes : (steps : ℕ) (b : BookCosts) (e : Outcome) (Below : Type 0) → HasPlan steps (total_room b steps) → (e ≡ no_memory) ⊎ Below → (e ≡ no_memory) ⊎ Plan steps b (refuse e) Below
plan_passes steps b e Below has h = elim h [ inl memory ↦ inl memory | inr below ↦ inr (inr (has, below)) ]

-- the ending is of a list that is broken
abbrev pub IsBroken : ℕ → List Slots → List Action → Outcome → Type 0
IsBroken steps slots list e =
    (e ≡ no_memory) ⊎ ((place : ℕ) × (rule : ℕ) × (level : ℕ) × (e ≡ invalid place level rule) × BrokenAt steps slots list place rule level × (Valid steps slots list → ⊥))

pub judge_refuses : (steps : ℕ) (slots : List Slots) (list : List Action) (e : Outcome) (Below : Type 0) → IsBroken steps slots list e → (e ≡ no_memory) ⊎ Judge steps slots list (refuse e) Below
judge_refuses steps slots list e Below h = elim h [
  | inl memory ↦ inl memory
  | inr broken ↦ inr (inl (broken.0, broken.1, broken.2, broken.4, broken.5, refuse_by e (invalid broken.0 broken.2 broken.1) broken.3))
]

-- what holds of an error that another was made into
pub on_error : {A : Type 0} (r : Result A Outcome) (P Q : Outcome → Type 0) → IsErrAnd r P → ((e : Outcome) → P e → Q e) → IfErr r Q
on_error (Ok x) P Q h f = tt
on_error (Err e) P Q h f = f e h

-- ---- a decision to refuse has a status of its own

abbrev ended_or : Outcome → Decision → Outcome
ended_or e (refuse f) = f
ended_or e (accept j) = e

refuse_accept : (e : Outcome) (j : Job) → refuse e ≡ accept j → ⊥
refuse_accept e j h = accept_refuse j e (sym h)

same_ended : (e f : Outcome) → refuse e ≡ refuse f → e ≡ f
same_ended e f h = ap (ended_or e) h

pub decided_refusal : (options : List Choice) (command : Command) (l : Loaded) (slots : List ℕ) (e : Outcome) → DecidesLoaded options command l slots (refuse e) → IsRefusing e
decided_refusal options command l slots e h = elim (comes_to (table_of options command l slots) (tables_sound options command l slots) (refuse e) h) [
  | inl x ↦ subst IsRefusing (sym (same_ended e x.0 x.1.0)) x.1.1
  | inr x ↦ absurd (refuse_accept e x.0 x.1.0)
]

-- ---- the lines of a run, and of a judgement

module _ (options : List Choice) (program : List ℕ) (journal : Option (List ℕ)) (e : Outcome) where
  pub unbegun_by_program : IsRefusal (HasProgramFault (says_raw options) (stack_pages options) program) bad_program e → IsUnbegun options program journal e
  unbegun_by_program h = read_refuses (IsStartOf (says_raw options) (stack_pages options) program) (HasProgramFault (says_raw options) (stack_pages options) program) bad_program e _ h

  pub unbegun_by_journal : (start : MachineState) → IsStartOf (says_raw options) (stack_pages options) program start → IsRefusal (HasJournalFault journal) bad_journal e → IsUnbegun options program journal e
  unbegun_by_journal start is_start h =
      read_passes (IsStartOf (says_raw options) (stack_pages options) program) (HasProgramFault (says_raw options) (stack_pages options) program) bad_program e _ start is_start
      (read_refuses (AreItemsOf journal) (HasJournalFault journal) bad_journal e _ h)

  -- such a refusal is one whatever the lines below say
  pub unbegun_refuses : (below : MachineState → List (List ℕ) → Table) → IsUnbegun options program journal e → (e ≡ no_memory) ⊎ Decided (over_program options program journal below) (refuse e)
  unbegun_refuses below h = elim h [
    | inl memory ↦ inl memory
    | inr refused ↦ inr (elim refused [
      | inl fault ↦ inl fault
      | inr read ↦ inr (read.0, read.1, elim read.2 [ inl fault ↦ inl fault | inr items ↦ absurd items.2 ])
    ])
  ]

-- the list of a run may be made, where it is
abbrev pub CanBeMade : ℕ → BookCosts → Option (List ℕ) → Type 0
CanBeMade steps b None = HasPlan steps (total_room b steps)
CanBeMade steps b (Some schedule) = Unit {0}

made_decides : (steps : ℕ) (b : BookCosts) (schedule : Option (List ℕ)) (below : Table) (d : Decision) → CanBeMade steps b schedule → Decided below d → Decided (plans_made steps b schedule below) d
made_decides steps b None below d has h = inr (has, h)
made_decides steps b (Some schedule) below d has h = h

-- the list of a run: it is read and valid, or made
abbrev pub IsListFor : ℕ → BookCosts → Option (List ℕ) → List Action → Type 0
IsListFor steps b None list = list ≡ revolve_list steps b
IsListFor steps b (Some schedule) list = IsSchedule (names_of b) schedule list × Valid steps (slots_of b) list

list_decides : (steps : ℕ) (b : BookCosts) (schedule : Option (List ℕ)) (below : List Action → Table) (d : Decision) (list : List Action) → IsListFor steps b schedule list → Decided (below list) d → Decided (over_list steps b schedule below) d
list_decides steps b None below d list is h = subst (λ (l : List Action). Decided (below l) d) is h
list_decides steps b (Some schedule) below d list is h = inr (list, is.0, inr (is.1, h))

module _ (make : Run → Job) (options : List Choice) (steps : ℕ) (program : List ℕ) (journal : Option (List ℕ)) (book : List ℕ) (schedule : Option (List ℕ)) (counts : List ℕ) where
  abbrev RefusedOver : Outcome → Type 0
  RefusedOver e = (e ≡ no_memory) ⊎ DecidesOver make options steps program journal book schedule counts (refuse e)

  -- what stands behind the items of the recorded input, and before the program
  abbrev last_lines : BookCosts → MachineState → List (List ℕ) → List Action → Table
  last_lines b start items list = does (make (in_units (unit_count options) start items steps (slots_of b) list))

  abbrev program_lines : BookCosts → Table
  program_lines b = over_program options program journal (λ start items. over_list steps b schedule (last_lines b start items))

  pub over_by_book : (e : Outcome) → IsRefusal (HasBookFault book) bad_book e → RefusedOver e
  over_by_book e h = read_refuses (IsBookText book) (HasBookFault book) bad_book e _ h

  module _ (e : Outcome) (b : BookCosts) (is_book : IsBookText book b) where
    pub over_by_keepers : Keep steps (slots_of b) counts (refuse e) ⊥ → RefusedOver e
    over_by_keepers h = inr (inr (b, is_book, keep_refuses steps (slots_of b) counts (refuse e) _ h))

    module _ (room : HaveRoom steps (slots_of b) counts) where
      pub over_behind_keepers : (e ≡ no_memory) ⊎ Decided (plans_made steps b schedule (program_lines b)) (refuse e) → RefusedOver e
      over_behind_keepers h = read_passes (IsBookText book) (HasBookFault book) bad_book e _ b is_book (keep_passes steps (slots_of b) counts e _ room h)

      module _ (has : CanBeMade steps b schedule) where
        behind_plans : (e ≡ no_memory) ⊎ Decided (program_lines b) (refuse e) → RefusedOver e
        behind_plans h = over_behind_keepers (elim h [ inl memory ↦ inl memory | inr below ↦ inr (made_decides steps b schedule (program_lines b) (refuse e) has below) ])

        pub over_by_beginning : IsUnbegun options program journal e → RefusedOver e
        over_by_beginning h = behind_plans (unbegun_refuses options program journal e (λ start items. over_list steps b schedule (last_lines b start items)) h)

        module _ (start : MachineState) (is_start : IsStartOf (says_raw options) (stack_pages options) program start) where
          behind_program : (e ≡ no_memory) ⊎ Read (AreItemsOf journal) (HasJournalFault journal) bad_journal (refuse e) (λ items. Decided (over_list steps b schedule (last_lines b start items)) (refuse e)) → RefusedOver e
          behind_program h =
              behind_plans (read_passes (IsStartOf (says_raw options) (stack_pages options) program) (HasProgramFault (says_raw options) (stack_pages options) program) bad_program e _ start is_start h)

          pub over_by_list : (items : List (List ℕ)) → AreItemsOf journal items → (e ≡ no_memory) ⊎ Decided (over_list steps b schedule (last_lines b start items)) (refuse e) → RefusedOver e
          over_by_list items are_items h = behind_program (read_passes (AreItemsOf journal) (HasJournalFault journal) bad_journal e _ items are_items h)

  pub over_accepted : (b : BookCosts) (start : MachineState) (items : List (List ℕ)) (list : List Action) → IsBookText book b → HaveRoom steps (slots_of b) counts → CanBeMade steps b schedule →
      IsStartOf (says_raw options) (stack_pages options) program start → AreItemsOf journal items → IsListFor steps b schedule list →
      DecidesOver make options steps program journal book schedule counts (accept (make (in_units (unit_count options) start items steps (slots_of b) list)))
  over_accepted b start items list is_book room has is_start are_items is_list =
      let d = accept (make (in_units (unit_count options) start items steps (slots_of b) list)) in
      inr (
        b,
        is_book,
        keep_accepts steps (slots_of b) counts _ _ room (made_decides steps b schedule (program_lines b) d has
            (inr (start, is_start, inr (items, are_items, list_decides steps b schedule (last_lines b start items) d list is_list refl)))),
      )

-- ---- the lines of a run that is moved about in

module _ (options : List Choice) (steps : ℕ) (program : List ℕ) (journal : Option (List ℕ)) (book script counts : List ℕ) where
  abbrev Refuses : Outcome → Type 0
  Refuses e = (e ≡ no_memory) ⊎ DecidesConsole options steps program journal book script counts (refuse e)

  pub console_by_book : (e : Outcome) → IsRefusal (HasBookFault book) bad_book e → Refuses e
  console_by_book e h = read_refuses (IsBookText book) (HasBookFault book) bad_book e _ h

  module _ (e : Outcome) (b : BookCosts) (is_book : IsBookText book b) where
    pub console_by_keepers : Keep (max steps 1) (slots_of b) counts (refuse e) ⊥ → Refuses e
    console_by_keepers h = inr (inr (b, is_book, keep_refuses (max steps 1) (slots_of b) counts (refuse e) _ h))

    module _ (room : HaveRoom (max steps 1) (slots_of b) counts) where
      pub console_by_slots : (1 ≤ total_room b (max steps 1) → ⊥) → e ≡ no_plan steps (total_room b steps) 1 → Refuses e
      console_by_slots none is =
          read_passes (IsBookText book) (HasBookFault book) bad_book e _ b is_book
          (keep_passes (max steps 1) (slots_of b) counts e _ room
          (inr (inl (none, refuse_by e (no_plan steps (total_room b steps) 1) is))))

      module _ (slots : 1 ≤ total_room b (max steps 1)) where
        -- by what stands behind the slots
        behind_slots : (Below : Type 0) → (e ≡ no_memory) ⊎ Below → (e ≡ no_memory) ⊎ Need (1 ≤ total_room b (max steps 1)) (no_plan steps (total_room b steps) 1) (refuse e) Below
        behind_slots Below h = elim h [ inl memory ↦ inl memory | inr below ↦ inr (inr (slots, below)) ]

        pub console_by_beginning : IsUnbegun options program journal e → Refuses e
        console_by_beginning h =
            read_passes (IsBookText book) (HasBookFault book) bad_book e _ b is_book
            (keep_passes (max steps 1) (slots_of b) counts e _ room
            (behind_slots _
            (unbegun_refuses options program journal e (λ start items. reads (IsScript steps script) (ScriptFirst steps script) bad_script (λ orders. does (console start items (record { slots = slots_of b; count = steps }) orders))) h)))

        module _ (start : MachineState) (is_start : IsStartOf (says_raw options) (stack_pages options) program start) where
          pub console_by_script : (items : List (List ℕ)) → AreItemsOf journal items → IsRefusal (ScriptFirst steps script) bad_script e → Refuses e
          console_by_script items are_items h =
              read_passes (IsBookText book) (HasBookFault book) bad_book e _ b is_book
              (keep_passes (max steps 1) (slots_of b) counts e _ room
              (behind_slots _
              (read_passes (IsStartOf (says_raw options) (stack_pages options) program) (HasProgramFault (says_raw options) (stack_pages options) program) bad_program e _ start is_start
              (read_passes (AreItemsOf journal) (HasJournalFault journal) bad_journal e _ items are_items
              (read_refuses (IsScript steps script) (ScriptFirst steps script) bad_script e _ h)))))

  pub console_accepted : (b : BookCosts) (start : MachineState) (items : List (List ℕ)) (orders : List Order) → IsBookText book b → HaveRoom (max steps 1) (slots_of b) counts → 1 ≤ total_room b (max steps 1) →
      IsStartOf (says_raw options) (stack_pages options) program start → AreItemsOf journal items → IsScript steps script orders →
      DecidesConsole options steps program journal book script counts (accept (console start items (record { slots = slots_of b; count = steps }) orders))
  console_accepted b start items orders is_book room slots is_start are_items give =
      inr (b, is_book, keep_accepts (max steps 1) (slots_of b) counts _ _ room (inr (slots, inr (start, is_start, inr (items, are_items, inr (orders, give, refl))))))

pub plan_by_book : (steps : ℕ) (book : List ℕ) (e : Outcome) → IsRefusal (HasBookFault book) bad_book e → (e ≡ no_memory) ⊎ DecidesPlanRevolve steps book (refuse e)
plan_by_book steps book e h = read_refuses (IsBookText book) (HasBookFault book) bad_book e _ h

pub plan_by_plan : (steps : ℕ) (book : List ℕ) (e : Outcome) (b : BookCosts) → IsBookText book b → IsUnplanned steps b e → (e ≡ no_memory) ⊎ DecidesPlanRevolve steps book (refuse e)
plan_by_plan steps book e b is_book h = read_passes (IsBookText book) (HasBookFault book) bad_book e _ b is_book (plan_refuses steps b e _ h)

pub plan_accepted : (steps : ℕ) (book : List ℕ) (b : BookCosts) → IsBookText book b → HasPlan steps (total_room b steps) → DecidesPlanRevolve steps book (accept (write (plan_pieces steps b)))
plan_accepted steps book b is_book has = inr (b, is_book, inr (has, refl))

-- the ending is of a book that has no multistage list for so many steps
abbrev pub IsUnstaged : ℕ → BookCosts → Outcome → Type 0
IsUnstaged steps b e =
    (e ≡ no_memory)
    ⊎ ((length b.levels ≡ 2 → ⊥) × (e ≡ no_plan steps (total_room b steps) 2))
    ⊎ ((length b.levels ≡ 2) × (HasPlan steps (total_room b steps) → ⊥) × (e ≡ no_plan steps (total_room b steps) 1))

pub multistage_by_book : (steps : ℕ) (book : List ℕ) (e : Outcome) → IsRefusal (HasBookFault book) bad_book e → (e ≡ no_memory) ⊎ DecidesPlanMultistage steps book (refuse e)
multistage_by_book steps book e h = read_refuses (IsBookText book) (HasBookFault book) bad_book e _ h

pub multistage_by_plan : (steps : ℕ) (book : List ℕ) (e : Outcome) (b : BookCosts) → IsBookText book b → IsUnstaged steps b e → (e ≡ no_memory) ⊎ DecidesPlanMultistage steps book (refuse e)
multistage_by_plan steps book e b is_book h = elim h [
  | inl memory ↦ inl memory
  | inr none ↦ elim none [
    | inl levels ↦ inr (inr (b, is_book, inl (levels.0, refuse_by e _ levels.1)))
    | inr slots ↦ inr (inr (b, is_book, inr (slots.0, inl (slots.1, refuse_by e _ slots.2))))
  ]
]

pub multistage_accepted : (steps : ℕ) (book : List ℕ) (b : BookCosts) (list : List Action) (threshold : ℕ) → IsBookText book b → IsMultistageList steps b list → IsThresholdOf threshold steps b list →
    DecidesPlanMultistage steps book (accept (write (list_pieces (names_of b) list ++ certificate_text.pieces (certified.Places threshold))))
multistage_accepted steps book b list threshold is_book is of = inr (b, is_book, inr (ap length is.two, inr (is.plan, (list, (is, (threshold, (of, refl)))))))

-- ---- the lines of a plan of H-Revolve

pub hrevolve_by_book : (steps : ℕ) (book : List ℕ) (e : Outcome) → IsRefusal (HasBookFault book) bad_book e → (e ≡ no_memory) ⊎ DecidesPlanHrevolve steps book (refuse e)
hrevolve_by_book steps book e h = read_refuses (IsBookText book) (HasBookFault book) bad_book e _ h

pub hrevolve_by_room : (steps : ℕ) (book : List ℕ) (e : Outcome) (b : BookCosts) (level : ℕ) → IsBookText book b → IsFirstWide steps b level → e ≡ out_of_range (room b level steps) 64 9 → DecidesPlanHrevolve steps book (refuse e)
hrevolve_by_room steps book e b level is_book wide is = inr (b, is_book, inl (level, (wide, refuse_by e _ is)))

pub hrevolve_by_plan : (steps : ℕ) (book : List ℕ) (e : Outcome) (b : BookCosts) → IsBookText book b → ((k : ℕ) → k < length b.levels → room b k steps ≤ 64) → (e ≡ no_memory) ⊎ IsUnnested steps b e →
    (e ≡ no_memory) ⊎ DecidesPlanHrevolve steps book (refuse e)
hrevolve_by_plan steps book e b is_book narrow h = elim h [
  | inl memory ↦ inl memory
  | inr none ↦ inr (inr (b, is_book, inr (narrow, inl (none.0, refuse_by e _ none.1))))
]

pub hrevolve_accepted : (steps : ℕ) (book : List ℕ) (b : BookCosts) (t : TableRows) (list : List Action) → IsBookText book b → ((k : ℕ) → k < length b.levels → room b k steps ≤ 64) → nested.HasNestedPlan steps b →
    AreTablesFor steps b t → IsGreatest steps b (tables_in t) → IsWritten steps b (tables_in t) list → DecidesPlanHrevolve steps book (accept (write (list_pieces (names_of b) list ++ certificate_text.pieces (certified.Nested t))))
hrevolve_accepted steps book b t list is_book narrow planned has greatest is = inr (b, is_book, inr (narrow, inr (planned, (t, (has, (greatest, (list, (is, refl))))))))

-- ---- the lines of a plan of DiskRevolve

pub disk_by_book : (steps : ℕ) (book : List ℕ) (e : Outcome) → IsRefusal (HasBookFault book) bad_book e → (e ≡ no_memory) ⊎ DecidesPlanDisk steps book (refuse e)
disk_by_book steps book e h = read_refuses (IsBookText book) (HasBookFault book) bad_book e _ h

pub disk_by_room : (steps : ℕ) (book : List ℕ) (e : Outcome) (b : BookCosts) → IsBookText book b → 64 < room b 0 steps → e ≡ out_of_range (room b 0 steps) 64 9 → DecidesPlanDisk steps book (refuse e)
disk_by_room steps book e b is_book wide is = inr (b, is_book, inl (λ few. absurd (omega (arith, few, wide)), refuse_by e _ is))

pub disk_by_plan : (steps : ℕ) (book : List ℕ) (e : Outcome) (b : BookCosts) → IsBookText book b → room b 0 steps ≤ 64 → (e ≡ no_memory) ⊎ IsUndisked steps b e → (e ≡ no_memory) ⊎ DecidesPlanDisk steps book (refuse e)
disk_by_plan steps book e b is_book few h = elim h [
  | inl memory ↦ inl memory
  | inr none ↦ elim none [
    | inl levels ↦ inr (inr (b, is_book, inr (few, inl (levels.0, refuse_by e _ levels.1))))
    | inr counted ↦ inr (inr (b, is_book, inr (few, inr (counted.0, inl (counted.1, refuse_by e _ counted.2)))))
  ]
]

pub disk_accepted : (steps : ℕ) (book : List ℕ) (b : BookCosts) (t : DiskRows) (list : List Action) → IsBookText book b → room b 0 steps ≤ 64 → length b.levels ≡ 2 → slice_get (slots_of b) 1 ≡ Some Unlimited →
    AreDiskTablesFor steps b t → IsGreatestDisk steps b (disk_tables_in t) → IsDiskWritten steps b (disk_tables_in t) list →
    DecidesPlanDisk steps book (accept (write (list_pieces (names_of b) list ++ certificate_text.pieces (certified.Disk t))))
disk_accepted steps book b t list is_book few two unlimited has greatest is = inr (b, is_book, inr (few, inr (two, inr (unlimited, (t, (has, (greatest, (list, (is, refl)))))))))

-- ---- the lines of a periodic plan

pub periodic_by_book : (steps period : ℕ) (book : List ℕ) (e : Outcome) → IsRefusal (HasBookFault book) bad_book e → (e ≡ no_memory) ⊎ DecidesPlanPeriodic steps period book (refuse e)
periodic_by_book steps period book e h = read_refuses (IsBookText book) (HasBookFault book) bad_book e _ h

pub periodic_by_plan : (steps period : ℕ) (book : List ℕ) (e : Outcome) (b : BookCosts) → IsBookText book b → (e ≡ no_memory) ⊎ IsUnperiodic steps period b e → (e ≡ no_memory) ⊎ DecidesPlanPeriodic steps period book (refuse e)
periodic_by_plan steps period book e b is_book h = elim h [
  | inl memory ↦ inl memory
  | inr none ↦ elim none [
    | inl levels ↦ inr (inr (b, is_book, inl (levels.0, refuse_by e _ levels.1)))
    | inr others ↦ elim others [
      | inl fast ↦ inr (inr (b, is_book, inr (fast.0, inl (fast.1, refuse_by e _ fast.2))))
      | inr slow ↦ inr (inr (b, is_book, inr (slow.0, inr (slow.1, inl (slow.2, refuse_by e _ slow.3)))))
    ]
  ]
]

pub periodic_accepted : (steps period : ℕ) (book : List ℕ) (b : BookCosts) → IsBookText book b → length b.levels ≡ 2 → (2 ≤ steps → 2 ≤ period → 1 ≤ room b 0 steps) → HasSlots (slots_at b 1) (images steps period) →
    DecidesPlanPeriodic steps period book (accept (write (list_pieces (names_of b) (periodic_list steps period b))))
periodic_accepted steps period book b is_book two fast slow = inr (b, is_book, inr (two, inr (fast, inr (slow, refl))))

-- ---- the lines of a valid list

pub unjudged_by_book : (steps : ℕ) (book schedule : List ℕ) (e : Outcome) → IsRefusal (HasBookFault book) bad_book e → IsUnjudged steps book schedule e
unjudged_by_book steps book schedule e h = read_refuses (IsBookText book) (HasBookFault book) bad_book e _ h

pub unjudged_by_text : (steps : ℕ) (book schedule : List ℕ) (e : Outcome) (b : BookCosts) → IsBookText book b → IsRefusal (HasFirstFault (names_of b) schedule) bad_text e → IsUnjudged steps book schedule e
unjudged_by_text steps book schedule e b is_book h =
    read_passes (IsBookText book) (HasBookFault book) bad_book e _ b is_book
    (read_refuses (IsSchedule (names_of b) schedule) (HasFirstFault (names_of b) schedule) bad_text e _ h)

pub unjudged_by_rules : (steps : ℕ) (book schedule : List ℕ) (e : Outcome) (b : BookCosts) (list : List Action) → IsBookText book b → IsSchedule (names_of b) schedule list → IsBroken steps (slots_of b) list e → IsUnjudged steps book schedule e
unjudged_by_rules steps book schedule e b list is_book is_list h =
    read_passes (IsBookText book) (HasBookFault book) bad_book e _ b is_book
    (read_passes (IsSchedule (names_of b) schedule) (HasFirstFault (names_of b) schedule) bad_text e _ list is_list
    (judge_refuses steps (slots_of b) list e _ h))

-- such a refusal is one whatever the lines below say
pub valid_refuses : (steps : ℕ) (book schedule : List ℕ) (below : BookCosts → List Action → Table) (e : Outcome) → IsUnjudged steps book schedule e → (e ≡ no_memory) ⊎ Decided (over_valid steps book schedule below) (refuse e)
valid_refuses steps book schedule below e h = elim h [
  | inl memory ↦ inl memory
  | inr refused ↦ inr (elim refused [
    | inl fault ↦ inl fault
    | inr read ↦ inr (
      read.0,
      read.1,
      elim read.2 [
        | inl fault ↦ inl fault
        | inr text ↦ inr (text.0, text.1, elim text.2 [ inl broken ↦ inl broken | inr valid ↦ absurd valid.1 ])
      ],
    )
  ])
]

judge_passes : (steps : ℕ) (slots : List Slots) (list : List Action) (e : Outcome) (Below : Type 0) → Valid steps slots list → (e ≡ no_memory) ⊎ Below → (e ≡ no_memory) ⊎ Judge steps slots list (refuse e) Below
judge_passes steps slots list e Below valid h = elim h [
  | inl memory ↦ inl memory
  | inr below ↦ inr (inr (valid, below))
]

-- what refuses a valid list
pub valid_passes : (steps : ℕ) (book schedule : List ℕ) (below : BookCosts → List Action → Table) (e : Outcome) (b : BookCosts) (list : List Action) → IsBookText book b → IsSchedule (names_of b) schedule list →
    Valid steps (slots_of b) list → (e ≡ no_memory) ⊎ Decided (below b list) (refuse e) → (e ≡ no_memory) ⊎ Decided (over_valid steps book schedule below) (refuse e)
valid_passes steps book schedule below e b list is_book is_list valid h =
    read_passes (IsBookText book) (HasBookFault book) bad_book e _ b is_book
    (read_passes (IsSchedule (names_of b) schedule) (HasFirstFault (names_of b) schedule) bad_text e _ list is_list
    (judge_passes steps (slots_of b) list e _ valid h))

-- ---- the line of a check

pub check_refuses : (steps : ℕ) (book schedule : List ℕ) (e : Outcome) → IsUnjudged steps book schedule e → (e ≡ no_memory) ⊎ DecidesCheck steps book schedule (refuse e)
check_refuses steps book schedule e h = valid_refuses steps book schedule (λ b list. does (write ((codes "valid " ++ decimal (length list) ++ codes "\n") ∷ []))) e h

pub check_accepted : (steps : ℕ) (book schedule : List ℕ) (b : BookCosts) (list : List Action) → IsBookText book b → IsSchedule (names_of b) schedule list → Valid steps (slots_of b) list →
    DecidesCheck steps book schedule (accept (write ((codes "valid " ++ decimal (length list) ++ codes "\n") ∷ [])))
check_accepted steps book schedule b list is_book is_list valid = inr (b, is_book, inr (list, is_list, inr (valid, refl)))

-- ---- the lines of a price

pub cost_refuses : (steps : ℕ) (book schedule : List ℕ) (e : Outcome) → IsUnjudged steps book schedule e → (e ≡ no_memory) ⊎ DecidesCost steps book schedule (refuse e)
cost_refuses steps book schedule e h = valid_refuses steps book schedule (λ b list. does (write (list_report b list))) e h

pub cost_accepted : (steps : ℕ) (book schedule : List ℕ) (b : BookCosts) (list : List Action) (lines : List (List ℕ)) → IsBookText book b → IsSchedule (names_of b) schedule list → Valid steps (slots_of b) list → lines ≡ list_report b list →
    DecidesCost steps book schedule (accept (write lines))
cost_accepted steps book schedule b list lines is_book is_list valid is = inr (b, is_book, inr (list, is_list, inr (valid, ap (λ l. accept (write l)) is)))

-- ---- the lines of a certificate

abbrev certificate_lines : ℕ → List ℕ → BookCosts → List Action → Table
certificate_lines steps certificate b list =
    reads (IsCertificateText steps b certificate) (CertificateFirst steps b certificate) bad_certificate (λ k. weighs steps b list k (does (write (least_line (class_of k) ∷ []))))

pub certify_refuses : (steps : ℕ) (book schedule certificate : List ℕ) (e : Outcome) → IsUnjudged steps book schedule e → (e ≡ no_memory) ⊎ DecidesCertify steps book schedule certificate (refuse e)
certify_refuses steps book schedule certificate e h = valid_refuses steps book schedule (certificate_lines steps certificate) e h

pub certify_by_certificate : (steps : ℕ) (book schedule certificate : List ℕ) (e : Outcome) (b : BookCosts) (list : List Action) → IsBookText book b → IsSchedule (names_of b) schedule list → Valid steps (slots_of b) list →
    IsRefusal (CertificateFirst steps b certificate) bad_certificate e → (e ≡ no_memory) ⊎ DecidesCertify steps book schedule certificate (refuse e)
certify_by_certificate steps book schedule certificate e b list is_book is_list valid h =
    valid_passes steps book schedule (certificate_lines steps certificate) e b list is_book is_list valid
    (read_refuses (IsCertificateText steps b certificate) (CertificateFirst steps b certificate) bad_certificate e _ h)

pub certify_by_weight : (steps : ℕ) (book schedule certificate : List ℕ) (b : BookCosts) (list : List Action) (k : Certificate) (reason : Reason) → IsBookText book b → IsSchedule (names_of b) schedule list → Valid steps (slots_of b) list → IsCertificateText steps b certificate k →
    IsFirstReason list steps b k reason → (not_least reason ≡ no_memory) ⊎ DecidesCertify steps book schedule certificate (refuse (not_least reason))
certify_by_weight steps book schedule certificate b list k reason is_book is_list valid is_certificate first =
    valid_passes steps book schedule (certificate_lines steps certificate) (not_least reason) b list is_book is_list valid
    (read_passes (IsCertificateText steps b certificate) (CertificateFirst steps b certificate) bad_certificate (not_least reason) _ k is_certificate
    (inr (inl (reason, first, refl))))

pub certify_accepted : (steps : ℕ) (book schedule certificate : List ℕ) (b : BookCosts) (list : List Action) (k : Certificate) → IsBookText book b → IsSchedule (names_of b) schedule list → Valid steps (slots_of b) list → IsCertificateText steps b certificate k →
    IsAccepted list steps b k → DecidesCertify steps book schedule certificate (accept (write (least_line (class_of k) ∷ [])))
certify_accepted steps book schedule certificate b list k is_book is_list valid is_certificate accepted =
    inr (b, is_book, inr (list, is_list, inr (valid, inr (k, is_certificate, inr (accepted, refl)))))
