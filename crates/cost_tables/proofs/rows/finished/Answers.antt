use Rattle.std.proofs.Common.{◌≡◌, ℕ, ◌+◌, ◌-◌, ◌≤◌, ◌^◌, min, length, get_or, sym, ap, ◌∙◌, subst, arith}
use Rattle.cost_tables.specs.Entries.{fresh_in, held_in, least_after}
use Rattle.cost_tables.specs.Rows.{split_in, partial_in}
use Rattle.cost_tables.proofs.Splits.{split_never}
use Rattle.cost_tables.proofs.RowExtension.{fresh_low_in, held_low_in}
use Rattle.cost_tables.proofs.RowPieces.{piece_more, three_parts}
use Rattle.cost_tables.proofs.rows.finished.Goals as goal

pub least_cost-before-requires-clause-fresh : goal.least_cost-before-requires-clause-fresh
least_cost-before-requires-clause-fresh c = λ r h. fresh_low_in c.args.room c.args.rows.now r c.loop-m.m c.requires.shapes h

pub least_cost-before-requires-clause-held : goal.least_cost-before-requires-clause-held
least_cost-before-requires-clause-held c = λ r h. held_low_in c.args.room c.args.rows.now r c.loop-m.m c.requires.shapes h

pub least_cost-behind-requires-clause-fresh : goal.least_cost-behind-requires-clause-fresh
least_cost-behind-requires-clause-fresh c = λ r h. fresh_low_in c.args.room c.args.rows.now r c.loop-m.m c.requires.shapes h

pub least_cost-behind-requires-clause-held : goal.least_cost-behind-requires-clause-held
least_cost-behind-requires-clause-held c = λ r h. held_low_in c.args.room c.args.rows.now r c.loop-m.m c.requires.shapes h

pub loop-m-preserved : goal.loop-m-preserved
loop-m-preserved c =
    let rows = c.args.rows.now in let m = c.loop-m.m in let forward = c.args.forward in let r = length rows in
    let s = r - c.args.filled in let b = c.max.result in
    let F : ℕ → ℕ = λ q. fresh_in rows q m in
    let H : ℕ → ℕ = λ q. held_in rows q m in
    let x = c.least_cost-before.result in let y = get_or c.args.partial.now m 0 in let z = c.least_cost-behind.result in
    let greater = c.max.ensures in
    let first : s - 0 ≡ s = omega arith in
    let second : c.args.filled - s ≡ b - s = omega arith in
    let same : 0 + m ≡ m = omega arith in
    let value = c.min-in-loop-m.ensures ∙ ap (λ n. min n z) c.min.ensures
    ∙ three_parts forward F H r s b x y z (omega arith) (omega arith) (c.least_cost-before.ensures ∙ ap (λ n. least_after forward F H r 0 n) first)
    (c.requires.partial.value m (omega arith) ∙ ap (λ m. partial_in rows forward c.args.filled r m) same ∙ ap (λ n. least_after forward F H r s n) second) c.least_cost-behind.ensures in
    let low = split_never forward F H r r in
    let P : ℕ → Type 0 = λ n. n ≤ 2 ^ 61 in
    piece_more (split_in rows forward) 0 m c.min-in-loop-m.result c.loop-m.costs.items c.push.new.self.items c.loop-m.invariant (omega arith) value (subst P (sym value) low) c.in_ok-push.ensures.items
