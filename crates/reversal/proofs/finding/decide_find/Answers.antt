use Rattle.std.proofs.Common.{◌≡◌, inr, ℕ, refl, sym, subst, arith, List}
use Rattle.endings.specs.declared.outcome.Outcome.{Outcome}
use Rattle.requests.specs.Request.{says_raw, stack_pages, worker_count}
use Rattle.reversal.specs.Job.{seek}
use Rattle.reversal.specs.Table.{accept, does, Decided}
use Rattle.reversal.specs.InputMeaning.{IsStartOf, AreItemsOf}
use Rattle.reversal.specs.CommandFind.{find_table}
use Rattle.reversal.specs.JobModel.{IsUnbegun, text_of}
use Rattle.requests.specs.InputOutcome.{contents_of}
use Rattle.reversal.proofs.DecisionLaws.{unbegun_refuses}
use Rattle.reversal.proofs.Decisions.{by_error}
use Rattle.reversal.proofs.finding.decide_find.Goals as goal

pub returns-in_err-start : goal.returns-in_err-start
returns-in_err-start c counts =
    let o = c.args.options.now in
    let texts = contents_of c.args.loaded.now in
    by_error _ _ c.from_residual.result _ c.from_residual.ensures.1 (λ e gives.
    let same : c.in_err-start.field-0.0 ≡ e = cc in
    let P : Outcome → Type 0 = λ x. IsUnbegun o c.deref.result.now (text_of c.take.result) x in
    unbegun_refuses o texts.program texts.journal e (λ start items. does (seek start items c.args.find.now.steps (worker_count o) c.args.find.now.digest))
    (subst (λ (t : List ℕ). IsUnbegun o t texts.journal e) c.deref.ensures.value (subst (λ t. IsUnbegun o c.deref.result.now (text_of t) e) c.take.ensures.value (subst P same c.in_err-start.ensures.refused))))

pub returns : goal.returns
returns c counts =
    let texts = contents_of c.args.loaded.now in
    let workers = c.worker_count.ensures in
    let W : ℕ → Type 0 = λ n. Decided (find_table c.args.options.now c.args.find.now.steps c.args.find.now.digest texts.program texts.journal)
    (accept (seek c.in_ok-start.start c.in_ok-start.journal c.args.find.now.steps n c.args.find.now.digest)) in
    record {
      accepted = subst W (sym workers) (inr (c.in_ok-start.start, (subst (λ (t : List ℕ). IsStartOf (says_raw c.args.options.now) (stack_pages c.args.options.now) t c.in_ok-start.start) c.deref.ensures.value c.in_ok-start.ensures.start), inr (c.in_ok-start.journal, (subst (λ t. AreItemsOf (text_of t) c.in_ok-start.journal) c.take.ensures.value c.in_ok-start.ensures.items), refl)));
      can_be_done = record { steps = c.requires.steps; workers = (omega (arith, workers, c.requires.workers.0), omega (arith, workers, c.requires.workers.1)) };
      room = tt;
      refused = tt;
    }
