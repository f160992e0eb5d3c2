use Rattle.std.proofs.Common.{◌≡◌, ℕ, ◌+◌, ◌*◌, ◌≤◌, ◌^◌, List, All, length, get_or, sym, ap, ◌∙◌, subst}
use Rattle.std.proofs.lemmas.List.{length_push}
use Rattle.std.proofs.lemmas.List.Elements.{All-push}
use Rattle.cost_tables.specs.declared.cost.Cost.TheVariants.{Number}
use Rattle.table_clauses.proofs.OneMore.{each_more}
use Rattle.table_clauses.proofs.column.ahead.Goals as goal

pub loop-i-preserved : goal.loop-i-preserved
loop-i-preserved c =
    let column = c.args.column.now in let forward = c.args.forward in let i = c.loop-i.i in let x = c.clipped_ahead.result in
    let old = c.loop-i.low.items in let new = c.push.new.self.items in let before = c.loop-i.invariant in
    let S : List ℕ → Type 0 = λ low. All (λ n. n ≤ 2 ^ 62) low in
    record {
      count = ap length c.in_ok-push.ensures.items ∙ length_push old x ∙ ap (λ n. n + 1) before.count;
      small = subst S (sym c.in_ok-push.ensures.items) (All-push (λ n. n ≤ 2 ^ 62) old x before.small c.clipped_ahead.ensures.small);
      below = λ j v lt is.
          let P : ℕ → ℕ → Type 0 = λ j n. get_or column j (Number 0) ≡ Number v → n ≤ (j + 1) * forward + v in
          each_more P old new x 0 i j c.in_ok-push.ensures.items before.count (λ h. before.below j v h) (λ e. c.clipped_ahead.ensures.below v e) lt is;
    }
