use Rattle.std.proofs.Common.{◌*◌, ◌≡◌, ◌⊎◌, inl, inr, ℕ, sym, subst}
use Rattle.endings.specs.declared.outcome.Outcome.{Outcome}
use Rattle.endings.specs.Outcomes.{no_memory}
use Rattle.requests.specs.Request.{unit_count}
use Rattle.requests.specs.Operands.{by_name, question_bound}
use Rattle.requests.specs.Bounds.{IsWithin}
use Rattle.requests.specs.InputOutcome.{contents_of}
use Rattle.reversal.specs.Job.{ask}
use Rattle.reversal.specs.Table.{Decided, refuse}
use Rattle.reversal.specs.InputMeaning.{over_loaded}
use Rattle.reversal.proofs.Decisions.{by_error}
use Rattle.reversal.proofs.decision.decide_ask.Goals as goal

pub returns-in_err-over : goal.returns-in_err-over
returns-in_err-over c =
    let job = ask c.args.ask.now.question in
    by_error _ _ c.from_residual.result _ c.from_residual.ensures.1 (λ e gives.
    let same : c.in_err-over.field-0.0 ≡ e = cc in
    let P : Outcome → Type 0 = λ x. (x ≡ no_memory)
    ⊎ Decided (over_loaded job c.args.options.now (by_name c.args.ask.now.schedule.now) c.args.ask.now.run.steps (contents_of c.args.loaded.now) c.args.counts.now) (refuse x) in
    elim (subst P same (c.in_err-over.ensures.refused job)) [
      | inl memory ↦ inl memory
      | inr decides ↦ inr (c.requires.question, decides)
    ])

pub returns : goal.returns
returns c =
    let P : ℕ → Type 0 = λ n. IsWithin (question_bound n c.args.ask.now.question) in
    let same : c.in_ok-over.over.unit * c.in_ok-over.over.steps ≡ unit_count c.args.options.now * c.args.ask.now.run.steps = λ i. c.in_ok-over.ensures.unit i * c.in_ok-over.ensures.steps i in
    record {
      accepted = (c.requires.question, c.in_ok-over.ensures.accepted (ask c.args.ask.now.question));
      can_be_done = record { over = c.in_ok-over.ensures.over; within = subst P (sym same) c.requires.question };
      room = c.in_ok-over.ensures.room;
      refused = tt;
    }
