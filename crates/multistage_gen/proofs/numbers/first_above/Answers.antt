use Rattle.std.proofs.Common.{◌≡◌, ◌-◌, ◌<◌, suc, ℕ, drop, get_or, ap, subst, arith}
use Rattle.std.specs.List.{AllByRecursion}
use Rattle.multistage_gen.specs.declared.numbers.Stretches.{Stretches}
use Rattle.multistage_gen.proofs.StretchOrder.{drop_back, none_before}
use Rattle.multistage_gen.proofs.numbers.first_above.Goals as goal

pub loop-index-preserved : goal.loop-index-preserved
loop-index-preserved c =
    let more : Stretches → Type 0 = λ s. c.args.steps < s.steps in
    let j = c.loop-index.index - 1 in
    let next : c.loop-index.index ≡ suc j = omega (arith, c.loop-index-test.true) in
    record {
      within = omega (arith, c.loop-index.invariant.within);
      behind =
          drop_back more c.args.stretches.now j _ (omega (arith, c.loop-index.invariant.within, c.loop-index-test.true)) c.if-stretches-index.true
          (subst (λ (i : ℕ). AllByRecursion more (drop i c.args.stretches.now)) next c.loop-index.invariant.behind);
    }

pub returns-else-stretches-index-clause-before : goal.returns-else-stretches-index-clause-before
returns-else-stretches-index-clause-before c =
    let none : Stretches = record { steps = 0; count = 0 } in
    none_before c.args.steps c.args.stretches.now c.loop-index.index none c.loop-index.invariant.within c.requires
    (λ j e.
    let at : c.loop-index.index - 1 ≡ j = omega (arith, e) in
    let same = ap (λ (k : ℕ). (get_or c.args.stretches.now k none).steps) at in
    omega (arith, same, c.if-stretches-index.false))
