use Rattle.std.proofs.Common.{◌≡◌, ◌⊎◌, ◌++◌, inr, List, sym, ◌∙◌, ap, subst, arith}
use Rattle.std.specs.List.{AllByRecursion}
use Rattle.plan_types.specs.declared.action.Action.{Action}
use Rattle.level_book.specs.BookCosts.{slots_of, names_of}
use Rattle.action_text.specs.Canonical.{HasSpelling}
use Rattle.cost_tables.specs.TableRows.{TablesFit}
use Rattle.cert_text.specs.declared.certificate.Certificate.TheVariants.{Nested}
use Rattle.cert_text.specs.Canonical as certificate_text
use Rattle.cert_text.specs.Meaning.{HasText}
use Rattle.endings.specs.declared.outcome.Outcome.{Outcome}
use Rattle.reversal.specs.Job.{Job, write}
use Rattle.endings.specs.Outcomes.{bad_book, no_memory, out_of_range}
use Rattle.reversal.specs.Plans.{list_pieces}
use Rattle.reversal.specs.NoPlans.{IsUnnested}
use Rattle.reversal.specs.InputMeaning.{HasBookFault}
use Rattle.reversal.specs.CommandPlan.{DecidesPlanHrevolve}
use Rattle.reversal.specs.Table.{accept}
use Rattle.reversal.specs.JobModel.{IsRefusal}
use Rattle.reversal.proofs.ActionSpelling.{valid_spelled}
use Rattle.reversal.proofs.RevolvePlan.{as_many}
use Rattle.reversal.proofs.DecisionLaws.{hrevolve_by_book, hrevolve_by_room, hrevolve_by_plan, hrevolve_accepted}
use Rattle.reversal.proofs.Decisions.{by_error}
use Rattle.reversal.proofs.hrevolve.decide_hrevolve.Goals as goal

pub returns-in_err-book : goal.returns-in_err-book
returns-in_err-book g c counts =
    by_error _ _ c.from_residual.result _ c.from_residual.ensures.1 (λ e gives.
    let same : c.in_err-book.field-0.0 ≡ e = cc in
    let P : Outcome → Type 0 = λ x. IsRefusal (HasBookFault c.args.book.now) bad_book x in
    hrevolve_by_book c.args.steps c.args.book.now e (subst P same c.in_err-book.ensures.refused))

pub build-requires-clause-fits : goal.build-requires-clause-fits
build-requires-clause-fits g c κs inside = record { few = c.requires.steps; narrow = c.in_default.ensures }

pub list_for-requires : goal.list_for-requires
list_for-requires g c = c.in_ok-tables.ensures

pub returns-in-Some : goal.returns-in-Some
returns-in-Some g c counts = record { accepted = tt; can_be_done = tt; room = tt; refused = inr (hrevolve_by_room c.args.steps c.args.book.now _ c.in_ok-book.book c.in-Some.level c.in_ok-book.ensures.found c.in-Some.ensures (ap (λ n. out_of_range n 64 9) c.room.ensures)) }

pub returns-in_err-list : goal.returns-in_err-list
returns-in_err-list g c counts =
    by_error _ _ c.from_residual-in_err-list.result _ c.from_residual-in_err-list.ensures.1 (λ e gives.
    let same : c.in_err-list.field-0.0 ≡ e = cc in
    let P : Outcome → Type 0 = λ x. (x ≡ no_memory) ⊎ IsUnnested c.args.steps c.in_ok-book.book x in
    hrevolve_by_plan c.args.steps c.args.book.now e c.in_ok-book.book c.in_ok-book.ensures.found c.in_default.ensures (subst P same c.in_err-list.ensures.refused))

pub plan_job-requires : goal.plan_job-requires
plan_job-requires g c =
    let b = c.in_ok-book.book in
    let S : List Action → Type 0 = λ l. AllByRecursion (HasSpelling (names_of b)) l in
    subst S (sym c.new.ensures) (valid_spelled c.args.steps (slots_of b) (names_of b) c.in_ok-list.list.items (omega (arith, c.requires.steps)) (as_many b) c.in_ok-list.ensures.nested.0)

pub returns : goal.returns
returns g c counts =
    let b = c.in_ok-book.book in
    let t = c.in_ok-tables.tables in
    let fits : TablesFit c.args.steps b = record { few = c.requires.steps; narrow = c.in_default.ensures } in
    let D : Job → Type 0 = λ j. DecidesPlanHrevolve c.args.steps c.args.book.now (accept j) in
    let is : c.certify_nested-certificate.result ≡ Nested t = c.certify_nested-certificate.ensures.value in
    let has : HasText c.args.steps b (Nested t) =
    subst (HasText c.args.steps b) is (c.certify_nested-certificate.ensures.text c.args.steps b c.is_within_limits.ensures fits c.in_ok-tables.ensures.sizes c.in_ok-tables.ensures.greatest) in
    record {
      accepted = subst D (sym (c.in_ok-job.ensures.job ∙ (λ i. write (list_pieces (names_of b) (c.new.ensures i) ++ certificate_text.pieces (is i)))))
          (hrevolve_accepted c.args.steps c.args.book.now b t c.in_ok-list.list.items c.in_ok-book.ensures.found c.in_default.ensures c.in_ok-list.ensures.plan (has.tables.sized, has.tables.shaped) c.in_ok-tables.ensures.greatest c.in_ok-list.ensures.list);
      can_be_done = c.in_ok-job.ensures.can_be_done;
      room = c.in_ok-job.ensures.room counts;
      refused = tt;
    }
