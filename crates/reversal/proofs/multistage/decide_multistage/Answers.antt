use Rattle.std.proofs.Common.{◌≡◌, ◌++◌, ℕ, refl, sym, ◌∙◌, subst}
use Rattle.level_book.specs.BookCosts.{slots_of, names_of}
use Rattle.revolve_gen.proofs.MultistageValidity.{multistage_valid}
use Rattle.endings.specs.declared.outcome.Outcome.{Outcome}
use Rattle.reversal.specs.Job.{Job, write}
use Rattle.endings.specs.Outcomes.{bad_book}
use Rattle.reversal.specs.Plans.{list_pieces}
use Rattle.reversal.specs.InputMeaning.{HasBookFault}
use Rattle.reversal.specs.CommandPlan.{DecidesPlanMultistage}
use Rattle.reversal.specs.Table.{accept}
use Rattle.reversal.specs.JobModel.{IsRefusal}
use Rattle.reversal.proofs.ActionSpelling.{valid_spelled}
use Rattle.reversal.proofs.RevolvePlan.{as_many}
use Rattle.reversal.proofs.DecisionLaws.{IsUnstaged, multistage_by_book, multistage_by_plan, multistage_accepted}
use Rattle.cert_text.specs.declared.certificate.Certificate.{Certificate}
use Rattle.cert_text.specs.declared.certificate.Certificate.TheVariants.{Revolve, Places, Nested, Disk}
use Rattle.cert_text.specs.Canonical as certificate_text
use Rattle.bound_cert.specs.Acceptance.{IsPlaces}
use Rattle.reversal.proofs.Decisions.{by_error}
use Rattle.reversal.proofs.multistage.decide_multistage.Goals as goal

-- the threshold that a certificate is
threshold_in : (Holds : ℕ → Type 0) (certificate : Certificate) → IsPlaces Holds certificate → (threshold : ℕ) × (certificate ≡ Places threshold) × Holds threshold
threshold_in Holds (Revolve k value) is = absurd is
threshold_in Holds (Places threshold) is = (threshold, refl, is)
threshold_in Holds (Nested t) is = absurd is
threshold_in Holds (Disk t) is = absurd is

pub returns-in_err-book : goal.returns-in_err-book
returns-in_err-book c counts =
    by_error _ _ c.from_residual.result _ c.from_residual.ensures.1 (λ e gives.
    let same : c.in_err-book.field-0.0 ≡ e = cc in
    let P : Outcome → Type 0 = λ x. IsRefusal (HasBookFault c.args.book.now) bad_book x in
    multistage_by_book c.args.steps c.args.book.now e (subst P same c.in_err-book.ensures.refused))

pub returns-in_err-plan : goal.returns-in_err-plan
returns-in_err-plan c counts =
    by_error _ _ c.from_residual-in_err-plan.result _ c.from_residual-in_err-plan.ensures.1 (λ e gives.
    let same : c.in_err-plan.field-0.0 ≡ e = cc in
    let P : Outcome → Type 0 = λ x. IsUnstaged c.args.steps c.in_ok-book.book x in
    multistage_by_plan c.args.steps c.args.book.now e c.in_ok-book.book c.in_ok-book.ensures.found (subst P same c.in_err-plan.ensures.refused))

pub plan_job-requires : goal.plan_job-requires
plan_job-requires c =
    let b = c.in_ok-book.book in
    let list = c.in_ok-plan.plan.actions in
    valid_spelled c.args.steps (slots_of b) (names_of b) list c.requires.steps (as_many b) (multistage_valid c.args.steps b list c.in_ok-plan.ensures.class)

pub returns : goal.returns
returns c counts =
    let b = c.in_ok-book.book in
    let list = c.in_ok-plan.plan.actions in
    let D : Job → Type 0 = λ j. DecidesPlanMultistage c.args.steps c.args.book.now (accept j) in
    let of = threshold_in _ c.certify_places-certificate.result (c.certify_places-certificate.ensures.threshold c.args.steps b c.in_ok-plan.ensures.places) in
    record {
      accepted = subst D (sym (c.in_ok-job.ensures.job ∙ (λ i. write (list_pieces (names_of b) list ++ certificate_text.pieces (of.1 i)))))
          (multistage_accepted c.args.steps c.args.book.now b list of.0 c.in_ok-book.ensures.found c.in_ok-plan.ensures.list of.2);
      can_be_done = c.in_ok-job.ensures.can_be_done;
      room = c.in_ok-job.ensures.room counts;
      refused = tt;
    }
