use Rattle.std.proofs.Common.{◌≡◌, ◌+◌, ◌*◌, ◌<◌, ◌≤◌, ◌^◌, arith, subst, sym, ap, length}
use Rattle.std.proofs.lemmas.List.Elements.{All-get_or}
use Rattle.cost_tables.specs.Entries.{held_in}
use Rattle.cost_tables.specs.Rows.{IsRow}
use Rattle.cost_tables.proofs.RowReads.{reads_held}
use Rattle.cost_tables.proofs.NumberColumns.{column_more}
use Rattle.cost_tables.proofs.RowExtension.{held_low_in}
use Rattle.cost_tables.proofs.Splits.{step_costs}
use Rattle.cost_tables.proofs.columns.held_column.Goals as goal

pub loop-i-preserved : goal.loop-i-preserved
loop-i-preserved c =
    let rows = c.args.rows.now in let m = c.args.m in let i = c.loop-i.i in let forward = c.args.forward in
    let row = c.index-rows-i.result in let x = c.index.result.now in
    let within : i < length rows = c.loop-i-test.true in
    let shape : IsRow c.args.room row = subst (IsRow c.args.room) (sym c.index-rows-i.is) (All-get_or (IsRow c.args.room) rows i row within c.requires.shapes) in
    let wide : m < length row.held.items = omega (arith, shape.held_wide, c.requires.m) in
    let value : held_in rows i m ≡ x = reads_held rows i m x row within c.index-rows-i.is wide c.index.ensures in
    let low : held_in rows i m ≤ 2 ^ 62 = held_low_in c.args.room rows i m c.requires.shapes within in
    let cost = step_costs (i + 1) forward (omega arith) c.requires.forward in
    column_more (2 ^ 63) i (λ i. (i + 1) * forward + held_in rows i m) c.loop-i.column.items c.push.new.self.items ((i + 1) * forward + x) c.loop-i.invariant c.in_ok-push.ensures.items
    (ap (λ n. (i + 1) * forward + n) (sym value)) (omega (arith, value, low, cost))
