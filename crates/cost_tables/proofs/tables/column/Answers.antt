use Rattle.std.proofs.Common.{◌≡◌, ℕ, ◌<◌, ◌≤◌, ◌^◌, arith, subst, sym, length, get_or}
use Rattle.std.proofs.lemmas.List.Elements.{All-get_or}
use Rattle.cost_tables.specs.declared.rows.Row.{Row}
use Rattle.cost_tables.specs.Entries.{fresh_in}
use Rattle.cost_tables.specs.Rows.{IsRow, IsColumn}
use Rattle.cost_tables.proofs.RowReads.{reads_fresh}
use Rattle.cost_tables.proofs.NumberColumns.{column_more}
use Rattle.cost_tables.proofs.RowExtension.{fresh_low_in}
use Rattle.cost_tables.proofs.tables.column.Goals as goal

pub loop-row-preserved : goal.loop-row-preserved
loop-row-preserved c =
    let rows = c.args.rows.now in let room = c.args.room in let r = c.loop-row.row-index in
    let row = c.row-item.result in let x = c.index.result.now in
    let within : r < length rows = c.loop-row-test.true in
    let shape : IsRow room row = subst (IsRow room) (sym c.row-item.is) (All-get_or (IsRow room) rows r row within c.requires) in
    let wide : room < length row.fresh.items = omega (arith, shape.fresh_wide) in
    let R : Row → Type 0 = λ row. x ≡ get_or row.fresh.items room x in
    let value : fresh_in rows r room ≡ x = reads_fresh rows r room x row within c.row-item.is wide (subst R c.row-item.is c.index.ensures) in
    let P : ℕ → Type 0 = λ n. n ≤ 2 ^ 61 in
    let low : x ≤ 2 ^ 61 = subst P value (fresh_low_in room rows r room c.requires within) in
    let number : ℕ → ℕ = λ r. fresh_in rows r room in
    let before = c.loop-row.invariant in
    let is : IsColumn (2 ^ 61) r number c.loop-row.column.items = record { long = before.count; low = before.low; value = before.value } in
    let more = column_more (2 ^ 61) r number c.loop-row.column.items c.push.new.self.items x is c.in_ok-push.ensures.items (sym value) low in
    record { count = more.long; low = more.low; value = more.value }
