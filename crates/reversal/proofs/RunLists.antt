-- The list of a run by Revolve is the least, and a periodic list is valid and is read again as it was made.
use Rattle.std.proofs.Common.{◌≡◌, ℕ, zero, suc, ◌+◌, ◌≤◌, List, [], length, append-nil, Option, None, sym, ◌∙◌, ap, subst, arith}
use Rattle.plan_types.specs.declared.action.Action.{Action}
use Rattle.level_book.specs.BookCosts.{BookCosts, slots_of, names_of, total_room}
use Rattle.level_book.specs.BookFaults.{IsBookText}
use Rattle.level_book.specs.CostFold.{forward}
use Rattle.level_book.specs.Valid.{Valid}
use Rattle.level_book.proofs.OneBook.{text_names}
use Rattle.action_text.specs.ScheduleText.{IsSchedule}
use Rattle.action_text.specs.Canonical.{text_of}
use Rattle.action_text.proofs.CanonicalRoundTrip.{canonical_read}
use Rattle.binomials.specs.Advances.{least_advances}
use Rattle.rv_machine.specs.MachineState.{MachineState}
use Rattle.revolve_gen.specs.RevolveList.{revolve_list}
use Rattle.revolve_gen.proofs.Books.{book_right}
use Rattle.disk_gen.specs.PeriodicList.{periodic_list}
use Rattle.disk_gen.specs.Plans.{HasPeriodicPlan}
use Rattle.disk_gen.proofs.PeriodicValidity.{periodic_valid}
use Rattle.disk_gen.proofs.Lengths.{periodic_counted}
use Rattle.requests.specs.Request.{Choice, says_raw, stack_pages, unit_count}
use Rattle.endings.specs.Outcomes.{bad_book, bad_program, bad_journal}
use Rattle.reversal.specs.Job.{Job, perform, write}
use Rattle.reversal.specs.Course.{Shown}
use Rattle.reversal.specs.Deeds.{bytes_of}
use Rattle.reversal.specs.Table.{accept}
use Rattle.reversal.specs.InputMeaning.{IsStartOf, AreItemsOf, DecidesOver, in_units}
use Rattle.reversal.specs.CommandPlan.{DecidesPlanPeriodic}
use Rattle.reversal.specs.Plans.{list_pieces}
use Rattle.reversal.proofs.DecisionLaws.{read_said, need_met, job_or}
use Rattle.reversal.proofs.KeeperCheck.{keep_met}
use Rattle.reversal.proofs.RevolvePlan.{as_many, plan_valid, plan_certified, revolve_least}
use Rattle.reversal.proofs.PlanRoundTrip.{list_text_is}
use Rattle.reversal.proofs.ActionSpelling.{valid_spelled}
use Rattle.reversal.specs.Decision.{course_of}

-- what a run by Revolve comes to
pub run_least : (options : List Choice) (steps : ℕ) (program : List ℕ) (journal : Option (List ℕ)) (book counts : List ℕ) (job : Job) → DecidesOver perform options steps program journal book None counts (accept job) →
    (b : BookCosts) × IsBookText book b × (start : MachineState) × IsStartOf (says_raw options) (stack_pages options) program start × (items : List (List ℕ)) × AreItemsOf journal items
    × (job ≡ perform (in_units (unit_count options) start items steps (slots_of b) (revolve_list steps b))) × Valid steps (slots_of b) (revolve_list steps b) × (1 ≤ steps → forward (revolve_list steps b) ≡ steps + least_advances steps (total_room b steps))
    × ((other : List Action) → Valid steps (slots_of b) other → forward (revolve_list steps b) ≤ forward other)
run_least options steps program journal book counts job h =
    let b = read_said (IsBookText book) _ bad_book job _ h in
    let kept = keep_met steps (slots_of b.0) counts job _ b.1.1 in
    let plan = need_met _ _ job _ kept.1 in
    let start = read_said (IsStartOf (says_raw options) (stack_pages options) program) _ bad_program job _ plan.1 in
    let items = read_said (AreItemsOf journal) _ bad_journal job _ start.1.1 in (
      b.0,
      b.1.0,
      start.0,
      start.1.0,
      items.0,
      items.1.0,
      ap (job_or job) items.1.1,
      plan_valid steps b.0 plan.0,
      (book_right steps b.0 plan.0).1.forward_steps,
      revolve_least steps b.0 (plan_certified steps b.0 plan.0),
    )

-- ---- a periodic list

periodic_few : (steps period : ℕ) (b : BookCosts) → steps ≤ 1000000 → 1 ≤ period → HasPeriodicPlan steps period b → length (periodic_list steps period b) ≤ 16777216
periodic_few zero period b short some plan = omega arith
periodic_few (suc n) period b short some plan = let counted = periodic_counted (suc n) period b (omega arith) some plan in omega (arith, counted, short)

periodic_read : (steps period : ℕ) (book : List ℕ) (b : BookCosts) → steps ≤ 1000000 → 1 ≤ period → IsBookText book b → HasPeriodicPlan steps period b → IsSchedule (names_of b) (bytes_of (list_pieces (names_of b) (periodic_list steps period b))) (periodic_list steps period b)
periodic_read steps period book b short some is plan =
    let names = names_of b in
    let list = periodic_list steps period b in
    let spelled = valid_spelled steps (slots_of b) names list short (as_many b) (periodic_valid steps period b some plan) in
    let read = canonical_read names (text_names book b is) list (periodic_few steps period b short some plan) spelled [] tt in
    let P : List ℕ → Type 0 = λ l. IsSchedule names l list in
    subst P (append-nil (text_of names list) ∙ sym (list_text_is names list)) read

pub periodic_again : (steps period : ℕ) (book : List ℕ) (job : Job) → steps ≤ 1000000 → 1 ≤ period → DecidesPlanPeriodic steps period book (accept job) →
    (b : BookCosts) × IsBookText book b × (job ≡ write (list_pieces (names_of b) (periodic_list steps period b))) × Valid steps (slots_of b) (periodic_list steps period b)
    × ((shown : Shown) → IsSchedule (names_of b) ((course_of job).output shown) (periodic_list steps period b))
periodic_again steps period book job short some h =
    let b = read_said (IsBookText book) _ bad_book job _ h in
    let two = need_met _ _ job _ b.1.1 in
    let fast = need_met _ _ job _ two.1 in
    let slow = need_met _ _ job _ fast.1 in
    let plan : HasPeriodicPlan steps period b.0 = record { two = two.0; fast = fast.0; slow = slow.0 } in
    let done : job ≡ write (list_pieces (names_of b.0) (periodic_list steps period b.0)) = ap (job_or job) slow.1 in
    let P : Shown → Job → Type 0 = λ shown j. IsSchedule (names_of b.0) ((course_of j).output shown) (periodic_list steps period b.0) in
    (b.0, b.1.0, done, periodic_valid steps period b.0 some plan, λ shown. subst (P shown) (sym done) (periodic_read steps period book b.0 short some b.1.0 plan))
