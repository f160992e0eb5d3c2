use Rattle.std.proofs.Common.{ℕ, ◌+◌, ◌-◌, ◌<◌, ◌≤◌, List, length, slice_index, arith, subst}
use Rattle.std.proofs.lemmas.List.{length_push}
use Rattle.table_clauses.specs.Splits.{at_step}
use Rattle.table_clauses.proofs.BelowSplits.{is_below_splits, below_pushed}
use Rattle.table_clauses.proofs.splits.least_splits.Goals as goal

pub loop-r-preserved : goal.loop-r-preserved
loop-r-preserved c =
    let fresh = c.args.fresh.now in let held = c.args.held.now in let r = c.loop-r.r in let n = c.least_split.result in
    let back = c.in_ok-back.back.items in let ahead = c.in_ok-ahead.ahead.items in
    let B : List ℕ → Type 0 = λ back. (i : ℕ) → i < r → n ≤ slice_index back (length back - r + i) + slice_index c.deref-in-loop-r.result.now i in
    let A : List ℕ → Type 0 = λ ahead. (i : ℕ) → i < r → n ≤ slice_index back (length back - r + i) + slice_index ahead i in
    let least = subst A c.deref-in-loop-r.ensures.value (subst B c.deref.ensures.value c.least_split.ensures.least) in
    let below = is_below_splits c.args.forward r n fresh held back ahead c.in_ok-back.ensures c.in_ok-ahead.ensures c.loop-r-test.true c.requires.long least in
    record {
      count = omega (arith, c.loop-r.invariant.count, length_push c.loop-r.least.items n, c.in_ok-push.ensures.len);
      below = below_pushed c.args.forward r n (at_step fresh) (at_step held) c.loop-r.least.items c.push.new.self.items c.loop-r.invariant.count c.loop-r.invariant.below c.least_split.ensures.small below c.in_ok-push.ensures.items;
    }
