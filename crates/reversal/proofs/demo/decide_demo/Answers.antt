use Rattle.std.proofs.Common.{◌≡◌, inl, inr, refl, ◌∙◌, ap, subst, arith}
use Rattle.level_book.specs.BookCosts.{BookCosts, plain, total_room}
use Rattle.revolve_gen.specs.Plans.{HasPlan}
use Rattle.endings.specs.declared.outcome.Outcome.{Outcome}
use Rattle.endings.specs.Outcomes.{no_memory}
use Rattle.reversal.proofs.Decisions.{by_error}
use Rattle.reversal.proofs.demo.decide_demo.Goals.{else-steps-ge2-via-then-steps-ge2+else-room-eq0, else-steps-ge2-via-else-steps-ge2}
use Rattle.reversal.proofs.demo.decide_demo.Goals as goal

-- there is a list for so many steps and slots
planned : (c : goal.In_ok-start) → HasPlan c.args.demo.now.steps (total_room (plain c.args.demo.now.slots) c.args.demo.now.steps)
planned c two =
    let room : c.total_room-room.result ≡ total_room (plain c.args.demo.now.slots) c.args.demo.now.steps =
    c.total_room-room.ensures ∙ ap (λ (b : BookCosts). total_room b c.args.demo.now.steps) c.plain.ensures in
    elim c.else-steps-ge2.branch [
      | else-steps-ge2-via-then-steps-ge2+else-room-eq0 w ↦ omega (arith, room, w.if-room-eq0)
      | else-steps-ge2-via-else-steps-ge2 w ↦ omega (arith, two, w.if-steps-ge2)
    ]

pub returns : goal.returns
returns c counts =
    record {
      accepted = inr (planned c, (c.in_ok-start.start, c.in_ok-start.ensures.found, refl));
      can_be_done = record { steps = c.requires.steps; slots = c.requires.slots; plan = planned c };
      room = tt;
      refused = tt;
    }

pub returns-in_err-start : goal.returns-in_err-start
returns-in_err-start c counts =
    by_error _ _ c.from_residual.result _ c.from_residual.ensures.1 (λ e gives.
    let same : c.in_err-start.field-0.0 ≡ e = cc in
    let P : Outcome → Type 0 = λ x. x ≡ no_memory in
    inl (subst P same c.in_err-start.ensures.refused))
