use Rattle.std.proofs.Common.{◌≡◌, ℕ, List, ◌+◌, ◌-◌, subst, sym, ap, ◌∙◌, get_or, length, arith}
use Rattle.cost_tables.specs.declared.rows.Row.{Row}
use Rattle.cost_tables.specs.Rows.{IsNextRow, AreRows, split_in}
use Rattle.cost_tables.proofs.RowExtension.{level_more}
use Rattle.cost_tables.proofs.rows.push_row.Goals as goal

pub returns-clause-rows : goal.returns-clause-rows
returns-clause-rows c =
    let a = c.args in
    let rows = a.rows.now.items in
    let row = c.in_ok-row.row in
    let splits = c.in_ok-splits.splits.items in
    let Wide : List ℕ → Type 0 = λ xs. IsNextRow (length xs) a.costs.write a.costs.read (get_or a.base.now c.len.result 0) (λ m. get_or xs m 0) row in
    let next = subst Wide c.deref-2.ensures.value c.in_ok-row.ensures in
    let At : ℕ → Type 0 = λ n. IsNextRow n a.costs.write a.costs.read (get_or a.base.now c.len.result 0) (λ m. get_or splits m 0) row in
    let all : a.room - 0 ≡ a.room = omega arith in
    let next = subst At (c.in_ok-splits.ensures.wide ∙ all) next in
    let Low : ℕ → Type 0 = λ r. IsNextRow a.room a.costs.write a.costs.read (get_or a.base.now r 0) (λ m. get_or splits m 0) row in
    let last : c.len.result ≡ length rows = omega (arith, c.len.ensures) in
    let next = subst Low last next in
    let P : List Row → Type 0 = λ rows. AreRows a.room a.costs.forward a.costs.write a.costs.read a.base.now rows in
    subst P (sym c.in_ok-push.ensures.items) (level_more a.room a.costs.forward a.costs.write a.costs.read a.base.now (λ m. get_or splits m 0) rows row c.requires.rows next
    (λ m lt. c.in_ok-splits.ensures.value m (omega arith) ∙ ap (λ m. split_in c.deref.result.now a.costs.forward m) (zero_before m) ∙ ap (λ (rows : List Row). split_in rows a.costs.forward m) c.deref.ensures.value))
  where
    zero_before : (m : ℕ) → 0 + m ≡ m
    zero_before m = omega arith
