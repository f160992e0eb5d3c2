use Rattle.std.proofs.Common.{◌+◌, sym, ◌∙◌, ap, arith, add-one, pos, w64}
use lib.IntN.{nat_abs}
use lib.Signed.{lt_z}
use Rattle.std.proofs.lemmas.Int.{to_z-of_z}
use Rattle.binomials.proofs.Ratio.{beta_next, capped}
use Rattle.binomials.proofs.binomial.beta.Goals as goal

pub returns-then-value-cap : goal.returns-then-value-cap
returns-then-value-cap c =
    let l = c.loop-done in
    let same = to_z-of_z w64 c.args.r c.ranges.r in
    capped c.args.c c.args.r _ l.done c.args.cap (ap (λ z. lt_z z (pos 0)) (sym same) ∙ c.if-r-lt0.false) (ap nat_abs same) (omega (arith, c.loop-done-test.true)) (omega (arith, l.invariant.value_is, c.if-value-cap.true))

pub loop-done-preserved : goal.loop-done-preserved
loop-done-preserved c =
    let l = c.loop-done in
    record {
      small = l.invariant.small;
      few = l.invariant.few;
      value_is = beta_next c.args.c l.done l.value (l.done + 1) l.invariant.value_is (add-one l.done);
    }
