use Rattle.std.proofs.Common.{◌≡◌, ℕ, ◌+◌, ◌-◌, ◌<◌, ◌≤◌, ◌^◌, arith, subst, sym, length}
use Rattle.std.proofs.lemmas.List.Elements.{All-get_or}
use Rattle.cost_tables.specs.Entries.{fresh_in}
use Rattle.cost_tables.specs.Rows.{IsRow}
use Rattle.cost_tables.proofs.RowReads.{reads_fresh}
use Rattle.cost_tables.proofs.NumberColumns.{column_more}
use Rattle.cost_tables.proofs.RowExtension.{fresh_low_in}
use Rattle.cost_tables.proofs.columns.fresh_column.Goals as goal

pub loop-i-preserved : goal.loop-i-preserved
loop-i-preserved c =
    let rows = c.args.rows.now in let m = c.args.m in let i = c.loop-i.i in let r = length rows - (i + 1) in
    let row = c.index-rows-rows.result in
    let within : r < length rows = omega arith in
    let shape : IsRow c.args.room row = subst (IsRow c.args.room) (sym c.index-rows-rows.is) (All-get_or (IsRow c.args.room) rows r row within c.requires.shapes) in
    let wide : m < length row.fresh.items = omega (arith, shape.fresh_wide, c.requires.m) in
    let value : fresh_in rows r m ≡ c.index.result.now = reads_fresh rows r m c.index.result.now row within c.index-rows-rows.is wide c.index.ensures in
    let low : fresh_in rows r m ≤ 2 ^ 61 = fresh_low_in c.args.room rows r m c.requires.shapes within in
    let P : ℕ → Type 0 = λ n. n ≤ 2 ^ 61 in
    column_more (2 ^ 61) i (λ i. fresh_in rows (length rows - (i + 1)) m) c.loop-i.column.items c.push.new.self.items c.index.result.now c.loop-i.invariant c.in_ok-push.ensures.items (sym value) (subst P value low)
