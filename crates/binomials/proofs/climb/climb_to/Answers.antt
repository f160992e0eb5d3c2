use Rattle.std.proofs.Common.{◌+◌, ◌-◌, ◌≡◌, ℕ, ap, ◌∙◌, refl, arith, add-one}
use Rattle.binomials.specs.Binomials.{beta_before}
use Rattle.binomials.proofs.Ratio.{beta_next, beta_before_next, repeats_short, one_slot}
use Rattle.binomials.proofs.climb.climb_to.Goals as goal

pub loop-reached-preserved : goal.loop-reached-preserved
loop-reached-preserved c =
    let l = c.loop-reached in
    let before = c.loop-reached.invariant in
    let next = add-one l.repeats in
    record {
      some = before.some;
      small = before.small;
      short = before.short;
      reached_is = beta_next c.args.slots l.repeats l.reached (l.repeats + 1) before.reached_is next;
      before_is = omega (arith, before.reached_is, ap (beta_before c.args.slots) next);
      earlier_is = before.before_is ∙ ap (beta_before c.args.slots) (taken_back l.repeats);
      below_is = beta_before_next c.args.slots l.repeats l.reached l.below (c.args.slots + 1) (l.repeats + 1) before.reached_is before.below_is refl next;
      all_short = c.loop-reached-test.true;
      repeated = repeats_short c.args.slots l.repeats l.reached c.args.steps before.some before.reached_is c.loop-reached-test.true;
      no_more = omega (arith, before.no_more, c.loop-reached-test.true);
    }
  where
    taken_back : (k : ℕ) → k ≡ k + 1 - 1
    taken_back k = omega arith

pub returns : goal.returns
returns c =
    let l = c.loop-reached in
    let is = c.loop-reached.invariant in
    record {
      repeated = record { above = omega (arith, is.before_is, is.all_short); within = omega (arith, is.reached_is, c.loop-reached-test.false) };
      reached = is.reached_is;
      before = is.before_is;
      earlier = is.earlier_is;
      below = is.below_is;
      no_more = is.no_more;
      few = is.repeated;
    }

pub returns-then-slots-eq1 : goal.returns-then-slots-eq1
returns-then-slots-eq1 c =
    one_slot c.args.steps c.args.slots c.saturating_sub.result c.if-slots-eq1.true c.requires.some c.saturating_sub.ensures
