use Rattle.std.proofs.Common.{◌≡◌, ℕ, ◌+◌, length, ap, ◌∙◌, arith, Vec, Global}
use Rattle.std.proofs.lemmas.List.{length_push}
use Rattle.table_clauses.specs.Columns.{AreSplitsOf}
use Rattle.table_clauses.proofs.OneMore.{each_more}
use Rattle.table_clauses.proofs.nested.all_splits.Goals as goal

pub loop-k-preserved : goal.loop-k-preserved
loop-k-preserved c =
    let k = c.loop-k.k in let splits = c.loop-k.splits.items in let level = c.in_ok-level_splits.field-0 in
    let P : ℕ → Vec (Vec ℕ Global) Global → Type 0 = λ k level. AreSplitsOf c.args.tables.now c.args.forward k level.items in
    let count : length c.push.new.self.items ≡ k + 1 = ap length c.in_ok-push.ensures.items ∙ length_push splits level ∙ ap (λ n. n + 1) c.loop-k.invariant.count in
    record {
      count = count;
      are = λ j d h.
          each_more P splits c.push.new.self.items level d k j c.in_ok-push.ensures.items c.loop-k.invariant.count (λ lt. c.loop-k.invariant.are j d (omega (arith, c.loop-k.invariant.count)))
          c.in_ok-level_splits.ensures (omega (arith, count));
    }
