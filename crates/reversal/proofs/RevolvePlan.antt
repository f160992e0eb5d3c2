-- The list of Revolve for a book: how long it is, that it is valid and has a text, and that its certificate holds.
use Rattle.std.proofs.Common.{◌≡◌, ℕ, zero, suc, ◌+◌, ◌≤◌, Bool, true, false, cond, nat_le, List, length, refl, sym, ◌∙◌, ap, arith}
use Rattle.std.proofs.lemmas.Bool.{leb-true, leb-false}
use Rattle.std.proofs.lemmas.List.{length-map}
use Rattle.std.specs.List.{AllByRecursion}
use Rattle.level_book.specs.BookCosts.{BookCosts, slots_of, names_of, total_room}
use Rattle.level_book.specs.declared.book.Level.{Level}
use Rattle.level_book.specs.Valid.{Valid}
use Rattle.action_text.specs.Canonical.{HasSpelling}
use Rattle.binomials.specs.Advances.{repeats, least_advances}
use Rattle.cert_text.specs.declared.certificate.Certificate.{Certificate}
use Rattle.cert_text.specs.declared.certificate.Certificate.TheVariants.{Revolve}
use Rattle.revolve_gen.specs.Plans.{HasPlan}
use Rattle.revolve_gen.specs.RevolveList.{revolve_list}
use Rattle.revolve_gen.proofs.Books.{book_right}
use Rattle.plan_types.specs.declared.action.Action.{Action}
use Rattle.level_book.specs.CostFold.{forward}
use Rattle.bound_cert.specs.declared.verdict.Class.TheVariants as class
use Rattle.bound_cert.specs.Acceptance.{class_of, IsAccepted}
use Rattle.bound_cert.proofs.VerdictUniqueness.{none_fewer}
use Rattle.bound_cert.proofs.PlanCertificates.{few_accepted, many_accepted}
use Rattle.reversal.specs.Plans.{certificate_of}
use Rattle.reversal.proofs.ActionSpelling.{valid_spelled}

pub plan_valid : (steps : ℕ) (b : BookCosts) → HasPlan steps (total_room b steps) → Valid steps (slots_of b) (revolve_list steps b)
plan_valid steps b plan = (book_right steps b plan).0

pub plan_few : (steps : ℕ) (b : BookCosts) → steps ≤ 1000000 → HasPlan steps (total_room b steps) → length (revolve_list steps b) ≤ 16777216
plan_few zero b short plan = omega arith
plan_few (suc n) b short plan = let counted = (book_right (suc n) b plan).1.actions (omega arith) in omega (arith, short, counted)

-- a level's name is one of as many as there are levels
pub as_many : (b : BookCosts) → length (slots_of b) ≤ length (names_of b)
as_many b =
    let slots = length-map b.levels (λ (l : Level). l.slots) in
    let names = length-map b.levels (λ (l : Level). l.name) in
    omega (arith, slots, names)

pub plan_spelled : (steps : ℕ) (b : BookCosts) → steps ≤ 1000000 → HasPlan steps (total_room b steps) → AllByRecursion (HasSpelling (names_of b)) (revolve_list steps b)
plan_spelled steps b short plan = valid_spelled steps (slots_of b) (names_of b) (revolve_list steps b) short (as_many b) (plan_valid steps b plan)

-- ---- its certificate

two_or_fewer : (steps : ℕ) (b : Bool) → nat_le steps 1 ≡ b → (x y k : Certificate) → (steps ≤ 1 → k ≡ x) → (2 ≤ steps → k ≡ y) → k ≡ cond (nat_le steps 1) x y
two_or_fewer steps true e x y k few more = few (leb-true steps 1 e) ∙ sym (ap (λ t. cond t x y) e)
two_or_fewer steps false e x y k few more = let above = leb-false steps 1 e in more (omega (arith, above)) ∙ sym (ap (λ t. cond t x y) e)

pub certificate_is : (steps : ℕ) (b : BookCosts) (k : Certificate) → (steps ≤ 1 → k ≡ Revolve 0 steps) → (2 ≤ steps → k ≡ Revolve (repeats steps (total_room b steps)) (steps + least_advances steps (total_room b steps))) → k ≡ certificate_of steps b
certificate_is steps b k few more = two_or_fewer steps (nat_le steps 1) refl (Revolve 0 steps) (Revolve (repeats steps (total_room b steps)) (steps + least_advances steps (total_room b steps))) k few more

accepted_by : (steps : ℕ) (b : BookCosts) (t : Bool) → nat_le steps 1 ≡ t → HasPlan steps (total_room b steps) → IsAccepted (revolve_list steps b) steps b (cond t (Revolve 0 steps) (Revolve (repeats steps (total_room b steps)) (steps + least_advances steps (total_room b steps))))
accepted_by steps b true e plan = few_accepted steps b steps plan (leb-true steps 1 e) refl
accepted_by steps b false e plan = let above = leb-false steps 1 e in many_accepted steps b (total_room b steps) (repeats steps (total_room b steps)) (steps + least_advances steps (total_room b steps)) plan (omega (arith, above)) refl refl refl

pub plan_certified : (steps : ℕ) (b : BookCosts) → HasPlan steps (total_room b steps) → IsAccepted (revolve_list steps b) steps b (certificate_of steps b)
plan_certified steps b plan = accepted_by steps b (nat_le steps 1) refl plan

-- no valid list takes fewer forward steps
pub revolve_least : (steps : ℕ) (b : BookCosts) → IsAccepted (revolve_list steps b) steps b (certificate_of steps b) → (other : List Action) → Valid steps (slots_of b) other → forward (revolve_list steps b) ≤ forward other
revolve_least steps b accepted = none_fewer (revolve_list steps b) steps b (certificate_of steps b) (its_class steps b (nat_le steps 1)) accepted
  where
    its_class : (steps : ℕ) (b : BookCosts) (t : Bool) → class.Valid ≡ class_of (cond t (Revolve 0 steps) (Revolve (repeats steps (total_room b steps)) (steps + least_advances steps (total_room b steps))))
    its_class steps b true = refl
    its_class steps b false = refl
