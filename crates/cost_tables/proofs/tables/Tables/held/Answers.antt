use Rattle.std.proofs.Common.{List, ◌-◌, ◌<◌, ◌≤◌, length, arith, sym, ap, ◌∙◌, subst, get_or}
use Rattle.cost_tables.specs.declared.cells.Cells.{Cells}
use Rattle.cost_tables.specs.TableRows.{TableRows, tables_in}
use Rattle.cost_tables.proofs.CellEntries.{cells_read, wide_at, entry_read}
use Rattle.cost_tables.proofs.tables.Tables.held.Goals as goal

pub index-requires-2 : goal.index-requires-2
index-requires-2 c =
    let t = c.self.inside in let k = c.args.k in
    let K : TableRows → Type 0 = λ v. k < length v.rooms in
    let L : TableRows → Type 0 = λ v. c.args.l ≤ v.steps in
    let known = subst K (sym c.self.view_is) c.requires.k in
    let within = subst L (sym c.self.view_is) c.requires.l.1 in
    let k_in : k < length t.levels.items = omega (arith, c.self.invariant.level_count) in
    let count = sym (ap (λ (cells : List Cells). length cells) (cells_read t.levels.items k c.index.result.now k_in c.index.ensures)) ∙ c.self.invariant.row_count k known in
    omega (arith, c.requires.l.0)

pub index-requires-3 : goal.index-requires-3
index-requires-3 c =
    let t = c.self.inside in let k = c.args.k in let r = c.args.l - 1 in
    let K : TableRows → Type 0 = λ v. k < length v.rooms in
    let L : TableRows → Type 0 = λ v. c.args.l ≤ v.steps in
    let M : TableRows → Type 0 = λ v. c.args.m < get_or v.rooms k 0 in
    let known = subst K (sym c.self.view_is) c.requires.k in
    let within = subst L (sym c.self.view_is) c.requires.l.1 in
    let free = subst M (sym c.self.view_is) c.requires.m in
    let k_in : k < length t.levels.items = omega (arith, c.self.invariant.level_count) in
    let count = sym (ap (λ (cells : List Cells). length cells) (cells_read t.levels.items k c.index.result.now k_in c.index.ensures)) ∙ c.self.invariant.row_count k known in
    let r_in : r < length c.index.result.now.items = omega (arith, c.requires.l.0) in
    let wide = wide_at (get_or t.rooms.items k 0) t.levels.items k r c.index.result.now c.index-2.result.now k_in c.index.ensures r_in c.index-2.ensures (c.self.invariant.shapes k known) in
    omega (arith, wide.fresh_wide, wide.held_wide)

pub returns : goal.returns
returns c =
    let t = c.self.inside in let k = c.args.k in let r = c.args.l - 1 in
    let K : TableRows → Type 0 = λ v. k < length v.rooms in
    let L : TableRows → Type 0 = λ v. c.args.l ≤ v.steps in
    let M : TableRows → Type 0 = λ v. c.args.m < get_or v.rooms k 0 in
    let known = subst K (sym c.self.view_is) c.requires.k in
    let within = subst L (sym c.self.view_is) c.requires.l.1 in
    let free = subst M (sym c.self.view_is) c.requires.m in
    let k_in : k < length t.levels.items = omega (arith, c.self.invariant.level_count) in
    let count = sym (ap (λ (cells : List Cells). length cells) (cells_read t.levels.items k c.index.result.now k_in c.index.ensures)) ∙ c.self.invariant.row_count k known in
    let r_in : r < length c.index.result.now.items = omega (arith, c.requires.l.0) in
    let wide = wide_at (get_or t.rooms.items k 0) t.levels.items k r c.index.result.now c.index-2.result.now k_in c.index.ensures r_in c.index-2.ensures (c.self.invariant.shapes k known) in
    sym (entry_read (λ (c : Cells). c.held.items) t.levels.items k r c.args.m c.index.result.now c.index-2.result.now c.index-3.result.now k_in c.index.ensures r_in c.index-2.ensures (omega (arith, wide.fresh_wide, wide.held_wide)) c.index-3.ensures)
    ∙ ap (λ (v : TableRows). (tables_in v).held k c.args.l c.args.m) c.self.view_is
