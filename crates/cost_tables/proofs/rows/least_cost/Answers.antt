use Rattle.std.proofs.Common.{◌+◌, ◌*◌, ◌<◌, length, ◌-◌, arith, subst, sym, ◌∙◌, inl, inr}
use Rattle.std.proofs.lemmas.List.Elements.{All-get_or}
use Rattle.cost_tables.specs.declared.rows.Row.{Row}
use Rattle.cost_tables.specs.Entries.{fresh_in, held_in}
use Rattle.cost_tables.proofs.RowReads.{reads_fresh, reads_held}
use Rattle.cost_tables.proofs.RowPieces.{after_more}
use Rattle.cost_tables.proofs.Splits.{step_costs, min_step}
use Rattle.cost_tables.proofs.rows.least_cost.Goals as goal
use Rattle.cost_tables.proofs.rows.least_cost.Goals.{then-cost-least, else-cost-least}

pub overflow_add-cost-in-loop-i : goal.overflow_add-cost-in-loop-i
overflow_add-cost-in-loop-i c =
    let rows = c.args.rows.now in let m = c.args.m in let i = c.loop-i.i in let r = c.args.r - (i + 1) in
    let held_known = c.requires.held_rows (omega arith) in let fresh_known = c.requires.fresh_rows (omega arith) in
    let row = c.index-rows-r.result in
    let Wide : Row → Type 0 = λ row. (m < length row.fresh.items) × (m < length row.held.items) in
    let wide = subst Wide (sym c.index-rows-r.is) (All-get_or Wide rows r row (omega arith) c.requires.wide) in
    let read = reads_fresh rows r m c.index.result.now row (omega arith) c.index-rows-r.is wide.0 c.index.ensures in
    let bound = c.requires.fresh r (omega arith) in
    let cost = step_costs (i + 1) c.args.forward (omega arith) c.requires.forward in
    record { fits = omega arith }

pub overflow_add-cost-in-loop-i-2 : goal.overflow_add-cost-in-loop-i-2
overflow_add-cost-in-loop-i-2 c =
    let rows = c.args.rows.now in let m = c.args.m in let i = c.loop-i.i in let r = c.args.r - (i + 1) in
    let held_known = c.requires.held_rows (omega arith) in let fresh_known = c.requires.fresh_rows (omega arith) in
    let row = c.index-rows-r.result in
    let Wide : Row → Type 0 = λ row. (m < length row.fresh.items) × (m < length row.held.items) in
    let wide = subst Wide (sym c.index-rows-r.is) (All-get_or Wide rows r row (omega arith) c.requires.wide) in
    let read = reads_fresh rows r m c.index.result.now row (omega arith) c.index-rows-r.is wide.0 c.index.ensures in
    let bound = c.requires.fresh r (omega arith) in
    let row' = c.index-rows-i.result in
    let wide' = subst Wide (sym c.index-rows-i.is) (All-get_or Wide rows i row' (omega arith) c.requires.wide) in
    let read' = reads_held rows i m c.index-in-loop-i.result.now row' (omega arith) c.index-rows-i.is wide'.1 c.index-in-loop-i.ensures in
    let bound' = c.requires.held i (omega arith) in
    let cost = step_costs (i + 1) c.args.forward (omega arith) c.requires.forward in
    record { fits = omega arith }

pub loop-i-preserved : goal.loop-i-preserved
loop-i-preserved c =
    let rows = c.args.rows.now in let m = c.args.m in let i = c.loop-i.i in let r = c.args.r - (i + 1) in
    let held_known = c.requires.held_rows (omega arith) in let fresh_known = c.requires.fresh_rows (omega arith) in
    let row = c.index-rows-r.result in
    let Wide : Row → Type 0 = λ row. (m < length row.fresh.items) × (m < length row.held.items) in
    let wide = subst Wide (sym c.index-rows-r.is) (All-get_or Wide rows r row (omega arith) c.requires.wide) in
    let read = reads_fresh rows r m c.index.result.now row (omega arith) c.index-rows-r.is wide.0 c.index.ensures in
    let row' = c.index-rows-i.result in
    let wide' = subst Wide (sym c.index-rows-i.is) (All-get_or Wide rows i row' (omega arith) c.requires.wide) in
    let read' = reads_held rows i m c.index-in-loop-i.result.now row' (omega arith) c.index-rows-i.is wide'.1 c.index-in-loop-i.ensures in
    let x = c.index.result.now in let y = c.index-in-loop-i.result.now in
    min_step c.loop-i.least ((i + 1) * c.args.forward + x + y) _ _ c.loop-i.invariant (λ t. (i + 1) * c.args.forward + sym read t + sym read' t) c.if-cost-least.least
    (elim c.if-cost-least.branch [ then-cost-least w ↦ inl (w.least-is, w.if-cost-least.true) | else-cost-least w ↦ inr (w.least-is, w.if-cost-least.false) ])
    ∙ sym (after_more c.args.forward (λ q. fresh_in rows q m) (λ q. held_in rows q m) c.args.r c.args.low i (omega arith))
