use Rattle.std.proofs.Common.{◌≡◌, ◌++◌, List, length, subst, sym, ap, ◌∙◌, arith, [], ◌∷◌}
use Rattle.std.specs.Prelude.{codes, decimal}
use Rattle.endings.specs.declared.outcome.Outcome.{Outcome}
use Rattle.reversal.specs.Job.{write}
use Rattle.reversal.specs.CommandCheck.{DecidesCheck}
use Rattle.reversal.specs.Table.{accept}
use Rattle.reversal.specs.JobModel.{IsUnjudged}
use Rattle.reversal.proofs.DecisionLaws.{check_refuses, check_accepted}
use Rattle.reversal.proofs.Decisions.{by_error}
use Rattle.reversal.proofs.decision.decide_check.Goals as goal

pub returns-in_err-list : goal.returns-in_err-list
returns-in_err-list c counts =
    by_error _ _ c.from_residual.result _ c.from_residual.ensures.1 (λ e gives.
    let same : c.in_err-list.field-0.0 ≡ e = cc in
    let P : Outcome → Type 0 = λ x. IsUnjudged c.args.steps c.args.book.now c.args.schedule.now x in
    check_refuses c.args.steps c.args.book.now c.args.schedule.now e (subst P same c.in_err-list.ensures.refused))

pub returns : goal.returns
returns c counts =
    let P : List _ → Type 0 = λ text. DecidesCheck c.args.steps c.args.book.now c.args.schedule.now (accept (write (text ∷ []))) in
    let valid = c.in_ok-list.ensures in
    let long : c.len.result ≡ length c.in_ok-list.list.items = omega (arith, c.len.ensures, c.in_ok-list.list.ok) in
    record {
      accepted = subst P (sym (c.valid_line.ensures ∙ ap (λ n. codes "valid " ++ decimal n ++ codes "\n") long)) (check_accepted c.args.steps c.args.book.now c.args.schedule.now _ c.in_ok-list.list.items valid.book valid.list valid.valid);
      can_be_done = tt;
      room = tt;
      refused = tt;
    }
