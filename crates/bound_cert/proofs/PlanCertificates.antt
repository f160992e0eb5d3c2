-- The certificates of lists that are planned are accepted.
use Rattle.std.proofs.Common.{◌≡◌, ℕ, ◌+◌, ◌≤◌, ◌<◌, List, length, sym, subst, ap, ◌∙◌, arith}
use Rattle.plan_types.specs.declared.action.Action.{Action}
use Rattle.level_book.specs.BookCosts.{BookCosts, IsWithinLimits, total_room}
use Rattle.level_book.specs.UnderTable.{number, IsGreatest, top_entry}
use Rattle.level_book.specs.DiskUnderTable.{IsGreatestDisk}
use Rattle.cost_tables.specs.TableRows.{TableRows, AreFor, TablesFit, FastestTablesFit, tables_in}
use Rattle.cost_tables.proofs.Recurrences.{exact_within}
use Rattle.hrevolve_gen.specs.Plans as nested
use Rattle.hrevolve_gen.specs.HRevolveList.{IsWritten}
use Rattle.hrevolve_gen.proofs.NoPlans.{top_none}
use Rattle.hrevolve_gen.proofs.PartReads.{few_steps, some_of}
use Rattle.hrevolve_gen.proofs.NestedLists.{written_costs, written_nested}
use Rattle.disk_gen.specs.DiskRows.{DiskRows, AreDiskFor, disk_tables_in}
use Rattle.disk_gen.specs.DiskRevolveList.{IsDiskWritten}
use Rattle.disk_gen.proofs.DiskExactness.{disk_exact}
use Rattle.disk_gen.proofs.DiskCosts.{top_some, written_disk_costs}
use Rattle.disk_gen.proofs.DiskMembership.{written_in_class}
use Rattle.binomials.specs.Advances.{repeats, least_advances}
use Rattle.revolve_gen.specs.Plans.{HasPlan}
use Rattle.revolve_gen.specs.RevolveList.{revolve_list}
use Rattle.revolve_gen.proofs.Books.{book_right}
use Rattle.cert_text.specs.declared.certificate.Certificate.TheVariants.{Revolve, Nested, Disk}
use Rattle.bound_cert.specs.Acceptance.{IsNumberOf, IsAccepted}
use Rattle.bound_cert.proofs.Numbers.{at_repeats}

pub few_accepted : (steps : ℕ) (book : BookCosts) (value : ℕ) → HasPlan steps (total_room book steps) → steps ≤ 1 → value ≡ steps → IsAccepted (revolve_list steps book) steps book (Revolve 0 value)
few_accepted steps book value plan few is =
    let right = book_right steps book plan in
    (right.0, right.1.at_most_one few ∙ sym is, omega arith)

pub many_accepted : (steps : ℕ) (book : BookCosts) (slots k value : ℕ) → HasPlan steps (total_room book steps) → 1 < steps → slots ≡ total_room book steps → k ≡ repeats steps slots → value ≡ steps + least_advances steps slots →
    IsAccepted (revolve_list steps book) steps book (Revolve k value)
many_accepted steps book slots k value plan more slots_are k_is value_is =
    let c : ℕ = total_room book steps in
    let right = book_right steps book plan in
    let value_at : value ≡ steps + least_advances steps c = value_is ∙ ap (λ (s : ℕ). steps + least_advances steps s) slots_are in
    let k_at : k ≡ repeats steps c = k_is ∙ ap (repeats steps) slots_are in
    let number : IsNumberOf steps c k value =
    subst (λ (v : ℕ). IsNumberOf steps c k v) (sym value_at) (subst (λ (r : ℕ). IsNumberOf steps c r (steps + least_advances steps c)) (sym k_at) (at_repeats steps c (omega arith) (plan more))) in
    (right.0, right.1.forward_steps (omega arith) ∙ sym value_at, number)

pub nested_accepted : (list : List Action) (steps : ℕ) (book : BookCosts) (t : TableRows) → 0 < length book.levels → IsWithinLimits book → TablesFit steps book → AreFor steps book t → IsGreatest steps book (tables_in t) →
    nested.HasNestedPlan steps book → IsWritten steps book (tables_in t) list → IsAccepted list steps book (Nested t)
nested_accepted list steps book t some limits fits sized greatest plan written =
    let exact = exact_within steps book (tables_in t) (few_steps steps fits.few) limits greatest in
    let member = written_nested steps book (tables_in t) list some written in
    let top = some_of (top_entry steps book (tables_in t)) (λ never. plan (top_none steps book (tables_in t) exact some never)) in
    (member.0, (fits, sized), member, greatest.under, top.1 ∙ ap (λ (n : ℕ). number n) (sym (written_costs steps book (tables_in t) list top.0 written top.1)))

pub disk_accepted : (list : List Action) (steps : ℕ) (book : BookCosts) (t : DiskRows) → IsWithinLimits book → FastestTablesFit steps book → AreDiskFor steps book t → IsGreatestDisk steps book (disk_tables_in t) →
    IsDiskWritten steps book (disk_tables_in t) list → IsAccepted list steps book (Disk t)
disk_accepted list steps book t limits fits for greatest written =
    let exact = disk_exact steps book (disk_tables_in t) for.plan greatest fits.few limits in
    let top = top_some steps book (disk_tables_in t) exact in
    let member = written_in_class steps book (disk_tables_in t) list for.plan written in
    (member.nested.0, (fits, for.sized), member, greatest.under, top.1 ∙ ap (λ (n : ℕ). number n) (sym (written_disk_costs steps book (disk_tables_in t) list top.0 written top.1)))
