use Rattle.std.proofs.Common.{[], ◌++◌, ◌∷◌, Vec, Global, inl, inr, sym, ap, subst, ◌∙◌, arith}
use Rattle.multistage_gen.specs.declared.numbers.Stretches.{Stretches}
use Rattle.multistage_gen.specs.Numbers.{AreAscending}
use Rattle.multistage_gen.proofs.StretchTraffic.{all_begun}
use Rattle.multistage_gen.proofs.numbers.whole.Goals.{then-steps-gt1+in_ok-push, else-steps-gt1}
use Rattle.multistage_gen.proofs.numbers.whole.Goals as goal

pub returns-clause-counted : goal.returns-clause-counted
returns-clause-counted c slots plan = elim c.if-steps-gt1.branch [
  | then-steps-gt1+in_ok-push w ↦ all_begun c.args.steps slots c.if-steps-gt1.stretches.items plan
      (inr (
        omega (arith, w.if-steps-gt1.true),
        ap (λ (v : Vec Stretches Global). v.items) w.stretches-is ∙ w.in_ok-push.ensures.items ∙ ap (λ items. items ++ record { steps = c.args.steps; count = 1 } ∷ []) c.new-stretches.ensures.items,
      ))
  | else-steps-gt1 w ↦ all_begun c.args.steps slots c.if-steps-gt1.stretches.items plan
      (inl (omega (arith, w.if-steps-gt1.false), ap (λ (v : Vec Stretches Global). v.items) w.stretches-is ∙ c.new-stretches.ensures.items))
]

pub returns-clause-ascending : goal.returns-clause-ascending
returns-clause-ascending c = elim c.if-steps-gt1.branch [
  | then-steps-gt1+in_ok-push w ↦
      (let items = ap (λ (v : Vec Stretches Global). v.items) w.stretches-is ∙ w.in_ok-push.ensures.items ∙ ap (λ items. items ++ record { steps = c.args.steps; count = 1 } ∷ []) c.new-stretches.ensures.items in
      subst AreAscending (sym items) (tt, tt))
  | else-steps-gt1 w ↦ (let items = ap (λ (v : Vec Stretches Global). v.items) w.stretches-is ∙ c.new-stretches.ensures.items in subst AreAscending (sym items) tt)
]
