-- A request comes to a decision: no table has a hole.
use Rattle.std.proofs.Common.{◌/◌, ◌%◌, ◌≡◌, ◌⊎◌, inl, inr, ℕ, zero, suc, ◌+◌, ◌<◌, ◌≤◌, ◌++◌, max, Bool, true, false, List, [], ◌∷◌, length, map, Option, None, Some, slice_get, slice_index_or, refl, subst, arith}
use Rattle.std.specs.Prelude.{codes, decimal}
use Rattle.std.specs.List.{AllByRecursion, flat_map}
use Rattle.std.proofs.lemmas.Bool.{cases_lt, cases_eq}
use Rattle.plan_types.specs.declared.action.Action.{Action}
use Rattle.level_book.specs.declared.book.Slots.{Slots}
use Rattle.level_book.specs.declared.book.Slots.TheVariants.{Count, Unlimited}
use Rattle.level_book.specs.declared.fault.BookFault.{BookFault}
use Rattle.level_book.specs.BookCosts.{BookCosts, slots_of, names_of, least, room, total_room, plain}
use Rattle.level_book.specs.BookFaults.{IsBookText}
use Rattle.level_book.specs.Valid.{Valid}
use Rattle.level_book.proofs.Decidability.{decided}
use Rattle.level_book.proofs.OneBook.{text_names}
use Rattle.cost_tables.specs.TableRows.{tables_in}
use Rattle.cost_tables.proofs.TableExistence.{greatest_exist}
use Rattle.cost_tables.proofs.Recurrences.{exact_within}
use Rattle.action_text.specs.ScheduleText.{IsSchedule}
use Rattle.action_text.specs.Faults.{HasFirstFault}
use Rattle.action_text.proofs.WholeText.{schedule_or_fault}
use Rattle.schedule_rules.proofs.RuleLaws.{valid_unbroken}
use Rattle.schedule_rules.proofs.Decidability.{valid_or_broken}
use Rattle.elf_load.proofs.StartExistence.{start_or_fault, raw_start_or_fault}
use Rattle.elf_load.specs.declared.fault.ElfFault.{ElfFault}
use Rattle.elf_load.specs.declared.fault.ElfFault.TheVariants.{RawLength}
use Rattle.elf_load.specs.Raw.{AreWords}
use Rattle.rv_asm.specs.Source.{Means, HasFault}
use Rattle.rv_asm.proofs.SourceLaws.{meaning_or_fault}
use Rattle.input_journal.specs.declared.fault.JournalFault.{JournalFault}
use Rattle.input_journal.proofs.JournalUniqueness.{journal_or_fault}
use Rattle.reverse_runner.specs.KeepersSeen.{HaveRoom}
use Rattle.rv_machine.specs.MachineState.{MachineState}
use Rattle.revolve_gen.specs.Plans.{HasPlan}
use Rattle.revolve_gen.specs.RevolveList.{revolve_list}
use Rattle.hrevolve_gen.specs.Plans as nested
use Rattle.hrevolve_gen.proofs.ListExistence.{list_exists}
use Rattle.multistage_gen.proofs.PlanExistence.{plan_exists}
use Rattle.disk_gen.specs.PeriodicList.{images, periodic_list}
use Rattle.disk_gen.specs.Plans.{slots_at, HasSlots}
use Rattle.disk_gen.specs.DiskPlans.{HasDiskPlan}
use Rattle.disk_gen.specs.DiskRows.{disk_tables_in}
use Rattle.disk_gen.proofs.DiskExactness.{fast_exact, disk_exact}
use Rattle.disk_gen.proofs.DiskExistence.{greatest_disk_exist, disk_list_exists}
use Rattle.cert_text.specs.declared.certificate.Certificate.{Certificate}
use Rattle.cert_text.specs.declared.certificate.Certificate.TheVariants as certified
use Rattle.cert_text.specs.Canonical as certificate_text
use Rattle.cert_text.specs.Meaning.{IsCertificateText}
use Rattle.cert_text.specs.Faults.{HasFirstFault as CertificateFirst}
use Rattle.cert_text.proofs.TextLaws.{certificate_or_fault}
use Rattle.bound_cert.specs.Acceptance.{class_of}
use Rattle.bound_cert.proofs.Decidability.{accepted_or_refused, threshold_exists}
use Rattle.endings.specs.declared.outcome.Outcome.{Outcome}
use Rattle.endings.specs.Outcomes.{few_keepers, small_keeper, unreadable, too_long, bad_program, bad_journal, bad_book, bad_text, invalid, bad_certificate, bad_source, bad_script, out_of_range, no_plan, not_least}
use Rattle.requests.specs.declared.bounds.Bounded.{Bounded}
use Rattle.requests.specs.declared.kind.PlanKind.{PlanKind}
use Rattle.requests.specs.declared.kind.PlanKind.TheVariants.{Revolve, Multistage, Disk, Hrevolve}
use Rattle.requests.specs.Request.{Choice, Command, run, plan, plan_periodic, check, certify, cost, ask, find, asm, disasm, console as console_command, demo, worker_count, plan_limit, says_raw, stack_pages, unit_count}
use Rattle.requests.specs.Operands.{Schedule, by_name, within, limit_of}
use Rattle.requests.specs.declared.input_kind.InputKind.{InputKind}
use Rattle.requests.specs.declared.input_kind.InputKind.TheVariants as input
use Rattle.requests.specs.Loaded.{Loaded, nothing, with_bytes, loaded_after, loaded_of}
use Rattle.requests.specs.Bounds.{option_numbers, command_numbers, IsWithin}
use Rattle.requests.specs.Inputs.{Input, inputs_of}
use Rattle.reversal.specs.Plans.{list_pieces, plan_pieces}
use Rattle.reversal.specs.CostReport.{list_report}
use Rattle.reversal.specs.Job.{Run as ARun, Job, write, console, perform, ask as ask_job, seek, demonstrate}
use Rattle.reversal.specs.Contents.{AreBytes, IsContent, DecisionsExist}
use Rattle.reversal.specs.Table.{Decision, refuse, accept, Need, Read, Judge, Keep, Plan, Tabulate, Weigh, Decided}
use Rattle.reversal.specs.Decision.{Take, DecidesLoaded}
use Rattle.reversal.specs.InputMeaning.{HasBookFault, IsStartOf, HasProgramFault, AreItemsOf, HasJournalFault, DecidesOver, in_units, schedule_text, over_loaded}
use Rattle.reverse_console.specs.Script.{IsScript}
use Rattle.reverse_console.specs.ScriptFaults.{HasFirstFault as ScriptFirst}
use Rattle.reverse_console.proofs.ScriptWhole.{script_or_fault}
use Rattle.reversal.specs.CommandConsole.{DecidesConsole}
use Rattle.reversal.specs.CommandFind.{find_table}
use Rattle.reversal.specs.CommandAsm.{word_bytes, listing, DecidesAsm, DecidesDisasm}
use Rattle.reversal.specs.Listing.{word_line}
use Rattle.reversal.specs.CommandPlan.{DecidesPlan, DecidesPlanRevolve, DecidesPlanMultistage, DecidesPlanDisk, DecidesPlanHrevolve, DecidesPlanPeriodic}
use Rattle.reversal.specs.CommandCheck.{DecidesCheck}
use Rattle.reversal.specs.CommandCost.{DecidesCost}
use Rattle.reversal.specs.CommandCertify.{DecidesCertify, least_line}
use Rattle.reversal.specs.CommandDemo.{DecidesDemo}
use Rattle.reversal.proofs.BookTexts.{some_level, within_limits}
use Rattle.reversal.proofs.DemoStart.{demo_start}
use Rattle.reversal.proofs.WordLists.{some_words, lines_are_canonical}

-- ---- what is so or isn't

abbrev pub IsKnown : Type 0 → Type 0
IsKnown P = P ⊎ (P → ⊥)

-- an implication from what is known
if_known : (P Q : Type 0) → IsKnown P → IsKnown Q → IsKnown (P → Q)
if_known P Q (inl p) (inl q) = inl (λ _. q)
if_known P Q (inl p) (inr other) = inr (λ f. other (f p))
if_known P Q (inr other) q = inl (λ p. absurd (other p))

not_known : (P : Type 0) → IsKnown P → IsKnown (P → ⊥)
not_known P (inl p) = inr (λ other. other p)
not_known P (inr other) = inl other

pub at_most : (m n : ℕ) → IsKnown (m ≤ n)
at_most m n = elim (cases_lt n m) [ inl above ↦ inr (λ le. absurd (omega (arith, above, le))) | inr le ↦ inl le ]

-- the first number of those below n of which something holds, or it holds of none
abbrev pub FirstOrNone : (ℕ → Type 0) → ℕ → Type 0
FirstOrNone P n = ((i : ℕ) × (i < n) × P i × ((k : ℕ) → k < i → P k → ⊥)) ⊎ ((i : ℕ) → i < n → P i → ⊥)

pub first_or_none : (P : ℕ → Type 0) → ((i : ℕ) → IsKnown (P i)) → (n : ℕ) → FirstOrNone P n
first_or_none P known zero = inr (λ i low. absurd (omega (arith, low)))
first_or_none P known (suc n) = elim (first_or_none P known n) [
  | inl found ↦ inl (found.0, omega (arith, found.1), found.2, found.3)
  | inr none ↦ elim (known n) [
    | inl here ↦ inl (n, omega arith, here, none)
    | inr other ↦ inr (λ i low. elim (cases_lt i n) [
      | inl lt ↦ none i lt
      | inr ge ↦ let e : n ≡ i = omega (arith, ge, low) in let Q : ℕ → Type 0 = λ k. P k → ⊥ in subst Q e other
    ])
  ]
]

-- ---- the lines of the tables: where what stands below comes to a decision, so does the line

abbrev pub SomeDecision : (Decision → Type 0) → Type 0
SomeDecision Below = (d : Decision) × Below d

pub read_comes : {A F : Type 0} (IsText : A → Type 0) (HasFault : F → Type 0) (ended : F → Outcome) (Below : A → Decision → Type 0) → ((x : A) × IsText x) ⊎ ((f : F) × HasFault f) → ((x : A) → IsText x → SomeDecision (Below x)) →
    SomeDecision (λ d. Read IsText HasFault ended d (λ x. Below x d))
read_comes IsText HasFault ended Below (inl x) below = let d = below x.0 x.1 in (d.0, inr (x.0, x.1, d.1))
read_comes IsText HasFault ended Below (inr f) below = (refuse (ended f.0), inl (f.0, f.1, refl))

pub need_comes : (Holds : Type 0) (e : Outcome) (Below : Decision → Type 0) → IsKnown Holds → (Holds → SomeDecision Below) → SomeDecision (λ d. Need Holds e d (Below d))
need_comes Holds e Below (inl holds) below = let d = below holds in (d.0, inr (holds, d.1))
need_comes Holds e Below (inr other) below = (refuse e, inl (other, refl))

pub judge_comes : (steps : ℕ) (slots : List Slots) (list : List Action) (Below : Decision → Type 0) → (Valid steps slots list → SomeDecision Below) → SomeDecision (λ d. Judge steps slots list d (Below d))
judge_comes steps slots list Below below = elim (valid_or_broken steps slots list) [
  | inl valid ↦ (let d = below valid in (d.0, inr (valid, d.1)))
  | inr b ↦ (refuse (invalid b.0 b.2 b.1), inl (b.0, b.1, b.2, b.3, (λ valid. valid_unbroken steps slots list valid b.0 b.1 b.2 b.3), refl))
]

pub plan_known : (steps c : ℕ) → IsKnown (HasPlan steps c)
plan_known steps c = if_known (2 ≤ steps) (1 ≤ c) (at_most 2 steps) (at_most 1 c)

pub plan_comes : (steps : ℕ) (b : BookCosts) (Below : Decision → Type 0) → (HasPlan steps (total_room b steps) → SomeDecision Below) → SomeDecision (λ d. Plan steps b d (Below d))
plan_comes steps b Below below = need_comes (HasPlan steps (total_room b steps)) (no_plan steps (total_room b steps) 1) Below (plan_known steps (total_room b steps)) below

-- the first keeper that is too small, or there is none
pub keep_comes : (steps : ℕ) (slots : List Slots) (counts : List ℕ) (Below : Decision → Type 0) → SomeDecision Below → SomeDecision (λ d. Keep steps slots counts d (Below d))
keep_comes steps slots counts Below below = elim (at_most (length slots) (length counts)) [
  | inr few ↦ (refuse (few_keepers (length slots) (length counts)), inl (few, refl))
  | inl many ↦
      let wants : ℕ → ℕ = λ k. least (slice_index_or slots k (Count 0)) steps in
      let has : ℕ → ℕ = λ k. slice_index_or counts k 0 in
      elim (first_or_none (λ k. has k < wants k) (λ k. at_most (suc (has k)) (wants k)) (length slots)) [
        | inl small ↦
            let before : (k : ℕ) → k < small.0 → wants k ≤ has k = λ k low. elim (cases_lt (has k) (wants k)) [ inl less ↦ absurd (small.3 k low less) | inr enough ↦ enough ] in
            (refuse (small_keeper small.0 (has small.0)), inr (many, inl (small.0, (record { within = small.1; small = small.2; before = before }, refl))))
        | inr none ↦
            let enough : HaveRoom steps slots counts =
            λ k low. (omega (arith, low, many), elim (cases_lt (has k) (wants k)) [ inl less ↦ absurd (none k low less) | inr enough ↦ enough ]) in
            (below.0, inr (many, inr (enough, below.1)))
      ]
]

-- the first level that is too wide, or there is none
pub tabulate_comes : (steps : ℕ) (b : BookCosts) (Below : Decision → Type 0) → (((k : ℕ) → k < length b.levels → room b k steps ≤ 64) → SomeDecision Below) → SomeDecision (λ d. Tabulate steps b d (Below d))
tabulate_comes steps b Below below = elim (first_or_none (λ k. 64 < room b k steps) (λ k. at_most 65 (room b k steps)) (length b.levels)) [
  | inl wide ↦
      let before : (k : ℕ) → k < wide.0 → room b k steps ≤ 64 = λ k low. elim (cases_lt 64 (room b k steps)) [ inl more ↦ absurd (wide.3 k low more) | inr few ↦ few ] in
      (refuse (out_of_range (room b wide.0 steps) 64 9), inl (wide.0, (record { within = wide.1; wide = wide.2; before = before }, refl)))
  | inr none ↦
      let narrow : (k : ℕ) → k < length b.levels → room b k steps ≤ 64 = λ k low. elim (cases_lt 64 (room b k steps)) [ inl more ↦ absurd (none k low more) | inr few ↦ few ] in
      let d = below narrow in
      (d.0, inr (narrow, d.1))
]

-- ---- the inputs

-- where all bytes that are there come to a decision, so does what is there
pub take_comes : (place : ℕ) (is : List Input) (given : List (Option (List ℕ))) (Below : List (List ℕ) → Decision → Type 0) → AllByRecursion IsContent given →
    ((bytes : List (List ℕ)) → length bytes ≡ length is → AllByRecursion AreBytes bytes → SomeDecision (Below bytes)) → SomeDecision (λ d. Take place is given d (λ bytes. Below bytes d))
take_comes place [] given Below contents below = below [] refl tt
take_comes place (i ∷ is) [] Below contents below = (refuse (unreadable place), refl)
take_comes place (i ∷ is) (None ∷ given) Below contents below = (refuse (unreadable place), refl)
take_comes place (i ∷ is) (Some bytes ∷ given) Below contents below =
    need_comes (length bytes ≤ limit_of i.kind) (too_long place (limit_of i.kind)) (λ d. Take (place + 1) is given d (λ others. Below (bytes ∷ others) d)) (at_most (length bytes) (limit_of i.kind))
    (λ short. take_comes (place + 1) is given (λ others. Below (bytes ∷ others)) contents.1 (λ others count are. below (bytes ∷ others) (omega (arith, count)) (contents.0, are)))

-- ---- what the inputs say

-- the text of a book
book_or_fault : (bytes : List ℕ) → ((b : BookCosts) × IsBookText bytes b) ⊎ ((fault : BookFault) × HasBookFault bytes fault)
book_or_fault bytes = elim (decided bytes) [ inl b ↦ inl b | inr f ↦ inr (f.0, (f.2, f.1)) ]

book_comes : (bytes : List ℕ) (Below : BookCosts → Decision → Type 0) → ((b : BookCosts) → IsBookText bytes b → SomeDecision (Below b)) →
    SomeDecision (λ d. Read (IsBookText bytes) (HasBookFault bytes) bad_book d (λ b. Below b d))
book_comes bytes Below below = read_comes (IsBookText bytes) (HasBookFault bytes) bad_book Below (book_or_fault bytes) below

start_or_its_fault : (raw : Bool) (stack : ℕ) (bytes : List ℕ) → ((s : MachineState) × IsStartOf raw stack bytes s) ⊎ ((f : ElfFault) × HasProgramFault raw stack bytes f)
start_or_its_fault true stack bytes = raw_start_or_fault bytes stack
start_or_its_fault false stack bytes = start_or_fault bytes stack

items_or_fault : (journal : Option (List ℕ)) → IsContent journal → ((items : List (List ℕ)) × AreItemsOf journal items) ⊎ ((f : JournalFault) × HasJournalFault journal f)
items_or_fault None content = inl ([], refl)
items_or_fault (Some bytes) content = journal_or_fault bytes content

list_comes : (book bytes : List ℕ) (b : BookCosts) (Below : List Action → Decision → Type 0) → IsBookText book b → ((list : List Action) → SomeDecision (Below list)) →
    SomeDecision (λ d. Read (IsSchedule (names_of b) bytes) (HasFirstFault (names_of b) bytes) bad_text d (λ list. Below list d))
list_comes book bytes b Below is below = read_comes (IsSchedule (names_of b) bytes) (HasFirstFault (names_of b) bytes) bad_text Below (schedule_or_fault (names_of b) (text_names book b is) bytes) (λ list is_list. below list)

-- ---- the tables

-- a program, and its recorded input
program_comes : (options : List Choice) (program : List ℕ) (journal : Option (List ℕ)) (Below : MachineState → List (List ℕ) → Decision → Type 0) → IsContent journal → ((start : MachineState) (items : List (List ℕ)) → SomeDecision (Below start items)) →
    SomeDecision (λ d. Read (IsStartOf (says_raw options) (stack_pages options) program) (HasProgramFault (says_raw options) (stack_pages options) program) bad_program d (λ start. Read (AreItemsOf journal) (HasJournalFault journal) bad_journal d (λ items. Below start items d)))
program_comes options program journal Below content below =
    let raw = says_raw options in
    let stack = stack_pages options in
    read_comes (IsStartOf raw stack program) (HasProgramFault raw stack program) bad_program _ (start_or_its_fault raw stack program) (λ start is_start.
    read_comes (AreItemsOf journal) (HasJournalFault journal) bad_journal _ (items_or_fault journal content) (λ items are_items. below start items))

pub over_comes : (make : ARun → Job) (options : List Choice) (steps : ℕ) (program : List ℕ) (journal : Option (List ℕ)) (book : List ℕ) (schedule : Option (List ℕ)) (counts : List ℕ) → IsContent journal → AreBytes book →
    SomeDecision (DecidesOver make options steps program journal book schedule counts)
over_comes make options steps program journal book None counts content are =
    book_comes book _ (λ b is_book.
    keep_comes steps (slots_of b) counts _ (
    plan_comes steps b _ (λ plan.
    program_comes options program journal _ content (λ start items.
    (accept (make (in_units (unit_count options) start items steps (slots_of b) (revolve_list steps b))), refl)))))
over_comes make options steps program journal book (Some schedule) counts content are =
    book_comes book _ (λ b is_book.
    keep_comes steps (slots_of b) counts _ (
    program_comes options program journal _ content (λ start items.
    list_comes book schedule b _ is_book (λ list.
    judge_comes steps (slots_of b) list _ (λ valid. (accept (make (in_units (unit_count options) start items steps (slots_of b) list)), refl))))))

pub find_comes : (options : List Choice) (steps : ℕ) (digest program : List ℕ) (journal : Option (List ℕ)) → IsContent journal → SomeDecision (Decided (find_table options steps digest program journal))
find_comes options steps digest program journal content = program_comes options program journal _ content (λ start items. (accept (seek start items steps (worker_count options) digest), refl))

pub console_comes : (options : List Choice) (steps : ℕ) (program : List ℕ) (journal : Option (List ℕ)) (book script counts : List ℕ) → IsContent journal → AreBytes book →
    SomeDecision (DecidesConsole options steps program journal book script counts)
console_comes options steps program journal book script counts content are =
    book_comes book _ (λ b is_book.
    keep_comes (max steps 1) (slots_of b) counts _ (
    need_comes (1 ≤ total_room b (max steps 1)) (no_plan steps (total_room b steps) 1) _ (at_most 1 (total_room b (max steps 1))) (λ slots.
    program_comes options program journal _ content (λ start items.
    read_comes (IsScript steps script) (ScriptFirst steps script) bad_script _ (script_or_fault steps script) (λ orders give.
    (accept (console start items (record { slots = slots_of b; count = steps }) orders), refl))))))

pub asm_comes : (source : List ℕ) → SomeDecision (DecidesAsm source)
asm_comes source = read_comes (Means source) (HasFault source) bad_source _ (meaning_or_fault source) (λ words means. (accept (write (word_bytes words ∷ [])), refl))

words_known : (bytes : List ℕ) → IsKnown (AreWords bytes)
words_known bytes = elim (at_most 1 (length bytes)) [
  | inr none ↦ inr (λ are. none are.some)
  | inl some ↦ elim (cases_eq (length bytes % 4) 0) [ inl whole ↦ inl (record { some = some; whole = whole }) | inr other ↦ inr (λ are. other are.whole) ]
]

pub disasm_comes : (program : List ℕ) → AreBytes program → SomeDecision (DecidesDisasm program)
disasm_comes program are = need_comes (AreWords program) (bad_program (RawLength (length program))) _ (words_known program) (λ whole.
    let words = some_words (length program / 4) program (omega (arith, whole.whole)) are in
    let lines = map word_line words.0 in
    (accept (write (listing lines)), record { words = words.0; bytes = words.1.1; lines = lines; canonical = lines_are_canonical words.0 words.1.0; does = refl }))

pub plan_revolve_comes : (steps : ℕ) (book : List ℕ) → AreBytes book → SomeDecision (DecidesPlanRevolve steps book)
plan_revolve_comes steps book are =
    book_comes book _ (λ b is_book.
    plan_comes steps b _ (λ plan. (accept (write (plan_pieces steps b)), refl)))

pub check_comes : (steps : ℕ) (book schedule : List ℕ) → AreBytes book → SomeDecision (DecidesCheck steps book schedule)
check_comes steps book schedule are =
    book_comes book _ (λ b is_book.
    list_comes book schedule b _ is_book (λ list.
    judge_comes steps (slots_of b) list _ (λ valid. (accept (write ((codes "valid " ++ decimal (length list) ++ codes "\n") ∷ [])), refl))))

pub cost_comes : (steps : ℕ) (book schedule : List ℕ) → AreBytes book → SomeDecision (DecidesCost steps book schedule)
cost_comes steps book schedule are =
    book_comes book _ (λ b is_book.
    list_comes book schedule b _ is_book (λ list.
    judge_comes steps (slots_of b) list _ (λ valid. (accept (write (list_report b list)), refl))))

slots_known : (slots : Slots) (n : ℕ) → IsKnown (HasSlots slots n)
slots_known (Count s) n = at_most n s
slots_known Unlimited n = inl tt

pub periodic_comes : (steps period : ℕ) (book : List ℕ) → AreBytes book → SomeDecision (DecidesPlanPeriodic steps period book)
periodic_comes steps period book are =
    book_comes book _ (λ b is_book.
    need_comes (length b.levels ≡ 2) (no_plan steps (total_room b steps) 2) _ (cases_eq (length b.levels) 2) (λ two.
    need_comes (2 ≤ steps → 2 ≤ period → 1 ≤ room b 0 steps) (no_plan steps (total_room b steps) 1) _
    (if_known (2 ≤ steps) (2 ≤ period → 1 ≤ room b 0 steps) (at_most 2 steps) (if_known (2 ≤ period) (1 ≤ room b 0 steps) (at_most 2 period) (at_most 1 (room b 0 steps)))) (λ fast.
    need_comes (HasSlots (slots_at b 1) (images steps period)) (no_plan steps (total_room b steps) 4) _ (slots_known (slots_at b 1) (images steps period)) (λ slow.
    (accept (write (list_pieces (names_of b) (periodic_list steps period b))), refl)))))

-- ---- plans over costs

pub multistage_comes : (steps : ℕ) (book : List ℕ) → AreBytes book → SomeDecision (DecidesPlanMultistage steps book)
multistage_comes steps book are =
    book_comes book _ (λ b is_book.
    need_comes (length b.levels ≡ 2) (no_plan steps (total_room b steps) 2) _ (cases_eq (length b.levels) 2) (λ two.
    plan_comes steps b _ (λ plan.
    let list = plan_exists steps b two plan in
    let threshold = threshold_exists steps b list.0 list.1 in
    (accept (write (list_pieces (names_of b) list.0 ++ certificate_text.pieces (certified.Places threshold.0))), (list.0, (list.1, (threshold.0, (threshold.1, refl))))))))

unlimited_known : (o : Option Slots) → IsKnown (o ≡ Some Unlimited)
unlimited_known None = inr (λ e. cc)
unlimited_known (Some (Count n)) = inr (λ e. cc)
unlimited_known (Some Unlimited) = inl refl

pub disk_comes : (steps : ℕ) (book : List ℕ) → steps ≤ 8192 → AreBytes book → SomeDecision (DecidesPlanDisk steps book)
disk_comes steps book short are =
    book_comes book _ (λ b is_book.
    need_comes (room b 0 steps ≤ 64) (out_of_range (room b 0 steps) 64 9) _ (at_most (room b 0 steps) 64) (λ few.
    need_comes (length b.levels ≡ 2) (no_plan steps (total_room b steps) 2) _ (cases_eq (length b.levels) 2) (λ two.
    need_comes (slice_get (slots_of b) 1 ≡ Some Unlimited) (no_plan steps (total_room b steps) 3) _ (unlimited_known (slice_get (slots_of b) 1)) (λ unlimited.
    let limits = within_limits book b is_book in
    let plan : HasDiskPlan b = record { two = two; unlimited = unlimited } in
    let t = greatest_disk_exist steps b plan short limits in
    let tables = disk_tables_in t.0 in
    let list = disk_list_exists steps b tables plan (fast_exact steps b tables plan t.3 short limits) (disk_exact steps b tables plan t.3 short limits) in
    (accept (write (list_pieces (names_of b) list.0 ++ certificate_text.pieces (certified.Disk t.0))), (t.0, ((t.1, t.2), (t.3, (list.0, (list.1, refl))))))))))

nested_plan_known : (steps : ℕ) (b : BookCosts) → IsKnown (nested.HasNestedPlan steps b)
nested_plan_known steps b = elim (at_most 2 steps) [
  | inr few ↦ inl (λ none. few none.0)
  | inl more ↦ elim (first_or_none (λ k. 1 ≤ room b k steps) (λ k. at_most 1 (room b k steps)) (length b.levels)) [
    | inl some ↦ inl (λ none. let empty = none.1 some.0 some.1 in let slot = some.2 in absurd (omega (arith, empty, slot)))
    | inr none ↦ inr (λ plan. plan (more, λ k low. elim (cases_lt 0 (room b k steps)) [ inl slot ↦ absurd (none k low slot) | inr empty ↦ omega (arith, empty) ]))
  ]
]

pub hrevolve_comes : (steps : ℕ) (book : List ℕ) → steps ≤ 2048 → AreBytes book → SomeDecision (DecidesPlanHrevolve steps book)
hrevolve_comes steps book short are =
    book_comes book _ (λ b is_book.
    tabulate_comes steps b _ (λ narrow.
    need_comes (nested.HasNestedPlan steps b) (no_plan steps (total_room b steps) 1) _ (nested_plan_known steps b) (λ plan.
    let limits = within_limits book b is_book in
    let few : steps ≤ 8192 = omega (arith, short) in
    let t = greatest_exist steps b few limits in
    let tables = tables_in t.0 in
    let list = list_exists steps b tables (exact_within steps b tables few limits t.3) (some_level book b is_book) plan in
    (accept (write (list_pieces (names_of b) list.0 ++ certificate_text.pieces (certified.Nested t.0))), (t.0, ((t.1, t.2), (t.3, (list.0, (list.1, refl)))))))))

pub kind_comes : (kind : PlanKind) (steps : ℕ) (book : List ℕ) → IsWithin (within (plan_limit kind) steps) → AreBytes book → SomeDecision (DecidesPlan kind steps book)
kind_comes Revolve steps book within are = plan_revolve_comes steps book are
kind_comes Multistage steps book within are = multistage_comes steps book are
kind_comes Disk steps book within are = disk_comes steps book within.1 are
kind_comes Hrevolve steps book within are = hrevolve_comes steps book within.1 are

-- ---- certificates

weigh_comes : (steps : ℕ) (b : BookCosts) (list : List Action) (c : Certificate) (Below : Decision → Type 0) → Valid steps (slots_of b) list → SomeDecision Below → SomeDecision (λ d. Weigh steps b list c d (Below d))
weigh_comes steps b list c Below valid below = elim (accepted_or_refused list steps b c valid) [
  | inl accepted ↦ (below.0, inr (accepted, below.1))
  | inr reason ↦ (refuse (not_least reason.0), inl (reason.0, reason.1, refl))
]

pub certify_comes : (steps : ℕ) (book schedule certificate : List ℕ) → AreBytes book → SomeDecision (DecidesCertify steps book schedule certificate)
certify_comes steps book schedule certificate are =
    book_comes book _ (λ b is_book.
    list_comes book schedule b _ is_book (λ list.
    judge_comes steps (slots_of b) list _ (λ valid.
    read_comes (IsCertificateText steps b certificate) (CertificateFirst steps b certificate) bad_certificate _ (certificate_or_fault steps b certificate) (λ c is_certificate.
    weigh_comes steps b list c _ valid (accept (write (least_line (class_of c) ∷ [])), refl)))))

-- ---- a demonstration

pub demo_comes : (number steps slots : ℕ) → SomeDecision (DecidesDemo number steps slots)
demo_comes number steps slots =
    plan_comes steps (plain slots) _ (λ plan. let first = demo_start number in (accept (demonstrate number first.0 steps slots), (first.0, first.1, refl)))

-- ---- by what was read

-- what was read is bytes
record AreRead (l : Loaded) : Type 0 where
  pub program : AreBytes l.program
  pub journal : IsContent l.journal
  pub book : AreBytes l.book
  pub schedule : AreBytes l.schedule
  pub certificate : AreBytes l.certificate
  pub source : AreBytes l.source
  pub words : AreBytes l.words
  pub script : AreBytes l.script

read_more : (kind : InputKind) (bytes : List ℕ) (l : Loaded) → AreBytes bytes → AreRead l → AreRead (with_bytes kind bytes l)
read_more input.Program bytes l are r = record { program = are; journal = r.journal; book = r.book; schedule = r.schedule; certificate = r.certificate; source = r.source; words = r.words; script = r.script }
read_more input.Journal bytes l are r = record { program = r.program; journal = are; book = r.book; schedule = r.schedule; certificate = r.certificate; source = r.source; words = r.words; script = r.script }
read_more input.Book bytes l are r = record { program = r.program; journal = r.journal; book = are; schedule = r.schedule; certificate = r.certificate; source = r.source; words = r.words; script = r.script }
read_more input.Schedule bytes l are r = record { program = r.program; journal = r.journal; book = r.book; schedule = are; certificate = r.certificate; source = r.source; words = r.words; script = r.script }
read_more input.Certificate bytes l are r = record { program = r.program; journal = r.journal; book = r.book; schedule = r.schedule; certificate = are; source = r.source; words = r.words; script = r.script }
read_more input.Source bytes l are r = record { program = r.program; journal = r.journal; book = r.book; schedule = r.schedule; certificate = r.certificate; source = are; words = r.words; script = r.script }
read_more input.Words bytes l are r = record { program = r.program; journal = r.journal; book = r.book; schedule = r.schedule; certificate = r.certificate; source = r.source; words = are; script = r.script }
read_more input.Script bytes l are r = record { program = r.program; journal = r.journal; book = r.book; schedule = r.schedule; certificate = r.certificate; source = r.source; words = r.words; script = are }

read_after : (l : Loaded) (is : List Input) (bytes : List (List ℕ)) → AllByRecursion AreBytes bytes → AreRead l → AreRead (loaded_after l is bytes)
read_after l [] bytes all r = r
read_after l (i ∷ is) [] all r = r
read_after l (i ∷ is) (b ∷ bytes) all r = read_after (with_bytes i.kind b l) is bytes all.1 (read_more i.kind b l all.0 r)

all_read : (is : List Input) (bytes : List (List ℕ)) → AllByRecursion AreBytes bytes → AreRead (loaded_of is bytes)
all_read is bytes all =
    read_after nothing is bytes all (record { program = tt; journal = tt; book = tt; schedule = tt; certificate = tt; source = tt; words = tt; script = tt })

-- ---- all commands

over_loaded_comes : (make : ARun → Job) (options : List Choice) (schedule : Schedule) (steps : ℕ) (l : Loaded) (slots : List ℕ) → AreRead l →
    SomeDecision (λ d. Decided (over_loaded make options schedule steps l slots) d)
over_loaded_comes make options schedule steps l slots are = over_comes make options steps l.program l.journal l.book (schedule_text schedule l) slots are.journal are.book

loaded_comes : (options : List Choice) (command : Command) (l : Loaded) (slots : List ℕ) → AllByRecursion IsWithin (command_numbers (unit_count options) command) → AreRead l →
    SomeDecision (DecidesLoaded options command l slots)
loaded_comes options (run c) l slots within are = over_loaded_comes perform options c.schedule c.run.steps l slots are
loaded_comes options (plan c) l slots within are = kind_comes c.kind c.steps l.book within.0 are.book
loaded_comes options (plan_periodic c) l slots within are = periodic_comes c.steps c.period l.book are.book
loaded_comes options (check c) l slots within are = check_comes c.steps l.book l.schedule are.book
loaded_comes options (certify c) l slots within are = certify_comes c.steps l.book l.schedule l.certificate are.book
loaded_comes options (cost c) l slots within are = cost_comes c.steps l.book l.schedule are.book
loaded_comes options (ask c) l slots within are =
    let d = over_loaded_comes (ask_job c.question) options (by_name c.schedule) c.run.steps l slots are in (d.0, (within.1.0, d.1))
loaded_comes options (find c) l slots within are = find_comes options c.steps c.digest l.program l.journal are.journal
loaded_comes options (asm c) l slots within are = asm_comes l.source
loaded_comes options (disasm c) l slots within are = disasm_comes l.words are.words
loaded_comes options (console_command c) l slots within are = console_comes options c.steps l.program l.journal l.book l.script slots are.journal are.book
loaded_comes options (demo c) l slots within are = demo_comes c.number c.steps c.slots

command_comes : (options : List Choice) (command : Command) (given : List (Option (List ℕ))) (slots : List ℕ) → AllByRecursion IsWithin (command_numbers (unit_count options) command) → AllByRecursion IsContent given →
    SomeDecision (λ d. Take 1 (inputs_of command) given d (λ bytes. DecidesLoaded options command (loaded_of (inputs_of command) bytes) slots d))
command_comes options command given slots within contents =
    take_comes 1 (inputs_of command) given (λ bytes. DecidesLoaded options command (loaded_of (inputs_of command) bytes) slots) contents
    (λ bytes count are. loaded_comes options command (loaded_of (inputs_of command) bytes) slots within (all_read (inputs_of command) bytes are))

-- the numbers of a command are among those of its request
all_behind : (xs ys : List Bounded) → AllByRecursion IsWithin (xs ++ ys) → AllByRecursion IsWithin ys
all_behind [] ys all = all
all_behind (x ∷ xs) ys all = all_behind xs ys all.1

pub decision_exists : DecisionsExist
decision_exists r within given contents slots =
    command_comes r.options r.command given slots (all_behind (flat_map option_numbers r.options) (command_numbers (unit_count r.options) r.command) within) contents
