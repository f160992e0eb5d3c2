use Rattle.std.proofs.Common.{◌≡◌, ◌≤◌, List, length, inl, subst, sym, ap, ◌∙◌, [], ◌∷◌}
use Rattle.plan_types.specs.declared.action.Action.{Action}
use Rattle.cert_text.specs.Faults.{HasFirstFault as CertificateFirst}
use Rattle.bound_cert.specs.Acceptance.{IsAccepted, IsFirstReason}
use Rattle.endings.specs.declared.outcome.Outcome.{Outcome}
use Rattle.reversal.specs.Job.{write}
use Rattle.endings.specs.Outcomes.{bad_certificate}
use Rattle.reversal.specs.CommandCertify.{DecidesCertify, least_line}
use Rattle.reversal.specs.Table.{accept}
use Rattle.reversal.specs.JobModel.{IsRefusal, IsUnjudged}
use Rattle.reversal.proofs.DecisionLaws.{certify_refuses, certify_by_certificate, certify_by_weight, certify_accepted}
use Rattle.reversal.proofs.Decisions.{by_error}
use Rattle.reversal.proofs.certifying.decide_certify.Goals as goal

pub check_certificate-requires-clause-few : goal.check_certificate-requires-clause-few
check_certificate-requires-clause-few c =
    let F : List Action → Type 0 = λ l. length l ≤ 16777216 in
    subst F (sym c.deref.ensures.value) c.in_ok-book.ensures.list.few

pub returns-in_err-book : goal.returns-in_err-book
returns-in_err-book c counts =
    by_error _ _ c.from_residual.result _ c.from_residual.ensures.1 (λ e gives.
    let same : c.in_err-book.field-0.0 ≡ e = cc in
    let P : Outcome → Type 0 = λ x. IsUnjudged c.args.steps c.args.book.now c.args.schedule.now x in
    certify_refuses c.args.steps c.args.book.now c.args.schedule.now c.args.certificate.now e (subst P same c.in_err-book.ensures.refused))

pub returns-in_err-certificate : goal.returns-in_err-certificate
returns-in_err-certificate c counts =
    by_error _ _ c.from_residual-in_err-certificate.result _ c.from_residual-in_err-certificate.ensures.1 (λ e gives.
    let same : c.in_err-certificate.field-0.0 ≡ e = cc in
    let valid = c.in_ok-book.ensures in
    let P : Outcome → Type 0 = λ x. IsRefusal (CertificateFirst c.args.steps c.in_ok-book.book c.args.certificate.now) bad_certificate x in
    certify_by_certificate c.args.steps c.args.book.now c.args.schedule.now c.args.certificate.now e c.in_ok-book.book c.in_ok-book.list.items valid.book valid.list valid.valid (subst P same c.in_err-certificate.ensures.refused))

pub returns-in_err-verdict : goal.returns-in_err-verdict
returns-in_err-verdict c counts = by_error _ _ c.from_residual-in_err-verdict.result _ c.from_residual-in_err-verdict.ensures.1 (λ e gives. inl gives)

pub returns-in-Least : goal.returns-in-Least
returns-in-Least c counts =
    let book = c.in_ok-book.book in
    let k = c.in_ok-certificate.certificate in
    let valid = c.in_ok-book.ensures in
    let least = (c.in_ok-verdict.ensures.accepted c.in-Least.class).0 c.in-Least.is in
    let A : List Action → Type 0 = λ l. IsAccepted l c.args.steps book k in
    let P : List _ → Type 0 = λ text. DecidesCertify c.args.steps c.args.book.now c.args.schedule.now c.args.certificate.now (accept (write (text ∷ []))) in
    record {
      accepted = subst P (sym (c.least_line.ensures ∙ ap least_line least.0))
          (certify_accepted c.args.steps c.args.book.now c.args.schedule.now c.args.certificate.now book c.in_ok-book.list.items k valid.book valid.list valid.valid c.in_ok-certificate.ensures.found (subst A c.deref.ensures.value least.1));
      can_be_done = tt;
      room = tt;
      refused = tt;
    }

pub returns : goal.returns
returns c counts =
    let book = c.in_ok-book.book in
    let valid = c.in_ok-book.ensures in
    let first = (c.in_ok-verdict.ensures.refused c.in-Not.reason).0 c.in-Not.is in
    let F : List Action → Type 0 = λ l. IsFirstReason l c.args.steps book c.in_ok-certificate.certificate c.in-Not.reason in
    record {
      accepted = tt;
      can_be_done = tt;
      room = tt;
      refused = certify_by_weight c.args.steps c.args.book.now c.args.schedule.now c.args.certificate.now book c.in_ok-book.list.items c.in_ok-certificate.certificate c.in-Not.reason valid.book valid.list valid.valid c.in_ok-certificate.ensures.found
          (subst F c.deref.ensures.value first);
    }
