-- The line of the table that weighs a list by its certificate.
use Rattle.std.proofs.Common.{◌≡◌, ◌⊎◌, inl, inr, refl, ℕ, List, ◌∙◌, sym, ap, arith}
use Rattle.plan_types.specs.declared.action.Action.{Action}
use Rattle.level_book.specs.BookCosts.{BookCosts}
use Rattle.cert_text.specs.declared.certificate.Certificate.{Certificate}
use Rattle.bound_cert.specs.declared.verdict.Reason.{Reason}
use Rattle.bound_cert.specs.declared.verdict.Reason.TheVariants.{Invalid, WrongShape, OutsideClass, Inequality, ValueDiffers}
use Rattle.bound_cert.specs.Acceptance.{IsAccepted}
use Rattle.bound_cert.proofs.VerdictUniqueness.{apart, one_reason}
use Rattle.endings.specs.declared.outcome.Outcome.{Outcome}
use Rattle.reversal.specs.Job.{Job}
use Rattle.endings.specs.Outcomes.{not_least}
use Rattle.endings.specs.Endings.{status_of}
use Rattle.reversal.specs.Table.{Decision, refuse, accept, Weigh}
use Rattle.reversal.proofs.Refusals.{IsRefusing, refusing_past}

pub weigh_one : (steps : ℕ) (book : BookCosts) (list : List Action) (k : Certificate) (c d : Decision) (Below Other : Type 0) → (Below → Other → c ≡ d) → Weigh steps book list k c Below → Weigh steps book list k d Other → c ≡ d
weigh_one steps book list k c d Below Other one h g = elim h [
  | inl x ↦ elim g [
    | inl y ↦ x.2 ∙ ap (λ reason. refuse (not_least reason)) (one_reason list steps book k x.0 y.0 x.1 y.1) ∙ sym y.2
    | inr y ↦ absurd (apart list steps book k x.0 x.1 y.0)
  ]
  | inr x ↦ elim g [ inl y ↦ absurd (apart list steps book k y.0 y.1 x.0) | inr y ↦ one x.1 y.1 ]
]

pub weigh_met : (steps : ℕ) (book : BookCosts) (list : List Action) (k : Certificate) (job : Job) (Below : Type 0) → Weigh steps book list k (accept job) Below → IsAccepted list steps book k × Below
weigh_met steps book list k job Below h = elim h [
  | inl n ↦ absurd (let is : accept job ≡ refuse (not_least n.0) = n.2 in cc)
  | inr y ↦ y
]

-- a refusal by this line has a status of its own
its_status : (reason : Reason) → status_of (not_least reason) ≡ 15
its_status Invalid = refl
its_status WrongShape = refl
its_status OutsideClass = refl
its_status (Inequality entry) = refl
its_status (ValueDiffers cost value) = refl

pub weigh_comes_to : (steps : ℕ) (book : BookCosts) (list : List Action) (k : Certificate) (d : Decision) (Below : Type 0) → Weigh steps book list k d Below → ((e : Outcome) × ((d ≡ refuse e) × IsRefusing e)) ⊎ Below
weigh_comes_to steps book list k d Below h = elim h [
  | inl n ↦ inl (not_least n.0, (n.2, refusing_past (not_least n.0) 15 (its_status n.0) (omega arith) (omega arith)))
  | inr y ↦ inr y.1
]
