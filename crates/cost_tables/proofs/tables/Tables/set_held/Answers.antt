use Rattle.std.proofs.Common.{List, ◌-◌, ◌<◌, ◌≤◌, length, arith, refl, sym, ap, ◌∙◌, subst, get_or}
use Rattle.std.specs.Vec.{with_item}
use Rattle.std.proofs.lemmas.List.{length-set}
use Rattle.cost_tables.specs.declared.cells.Cells.{Cells}
use Rattle.cost_tables.specs.TableRows.{TableRows, entry_at}
use Rattle.cost_tables.proofs.CellEntries.{cells_read, wide_at}
use Rattle.cost_tables.proofs.EntryUpdate.{entry_set, entry_kept, beside, whole_set}
use Rattle.cost_tables.proofs.tables.Tables.set_held.Goals as goal

pub index_mut-requires-2 : goal.index_mut-requires-2
index_mut-requires-2 c =
    let t = c.self.inside in let k = c.args.k in let r = c.args.l - 1 in
    let level = c.index_mut.result.now in
    let K : TableRows → Type 0 = λ v. k < length v.rooms in
    let L : TableRows → Type 0 = λ v. c.args.l ≤ v.steps in
    let known = subst K (sym c.self.view_is) c.requires.k in
    let within = subst L (sym c.self.view_is) c.requires.l.1 in
    let k_in : k < length t.levels.items = omega (arith, c.self.invariant.level_count) in
    let count = sym (ap (λ (cells : List Cells). length cells) (cells_read t.levels.items k level k_in c.index_mut.ensures.value)) ∙ c.self.invariant.row_count k known in
    omega (arith, c.requires.l.0)

pub index_mut-requires-3 : goal.index_mut-requires-3
index_mut-requires-3 c =
    let t = c.self.inside in let k = c.args.k in let r = c.args.l - 1 in
    let level = c.index_mut.result.now in let cells = c.index_mut-2.result.now in
    let K : TableRows → Type 0 = λ v. k < length v.rooms in
    let L : TableRows → Type 0 = λ v. c.args.l ≤ v.steps in
    let M : TableRows → Type 0 = λ v. c.args.m < get_or v.rooms k 0 in
    let known = subst K (sym c.self.view_is) c.requires.k in
    let within = subst L (sym c.self.view_is) c.requires.l.1 in
    let free = subst M (sym c.self.view_is) c.requires.m in
    let k_in : k < length t.levels.items = omega (arith, c.self.invariant.level_count) in
    let count = sym (ap (λ (cells : List Cells). length cells) (cells_read t.levels.items k level k_in c.index_mut.ensures.value)) ∙ c.self.invariant.row_count k known in
    let r_in : r < length level.items = omega (arith, c.requires.l.0) in
    let wide = wide_at (get_or t.rooms.items k 0) t.levels.items k r level cells k_in c.index_mut.ensures.value r_in c.index_mut-2.ensures.value (c.self.invariant.shapes k known) in
    omega (arith, wide.fresh_wide, wide.held_wide)

pub invariant_of-self : goal.invariant_of-self
invariant_of-self c =
    let t = c.self.inside in let k = c.args.k in let r = c.args.l - 1 in
    let level = c.index_mut.result.now in let cells = c.index_mut-2.result.now in
    let K : TableRows → Type 0 = λ v. k < length v.rooms in
    let L : TableRows → Type 0 = λ v. c.args.l ≤ v.steps in
    let M : TableRows → Type 0 = λ v. c.args.m < get_or v.rooms k 0 in
    let known = subst K (sym c.self.view_is) c.requires.k in
    let within = subst L (sym c.self.view_is) c.requires.l.1 in
    let free = subst M (sym c.self.view_is) c.requires.m in
    let k_in : k < length t.levels.items = omega (arith, c.self.invariant.level_count) in
    let count = sym (ap (λ (cells : List Cells). length cells) (cells_read t.levels.items k level k_in c.index_mut.ensures.value)) ∙ c.self.invariant.row_count k known in
    let r_in : r < length level.items = omega (arith, c.requires.l.0) in
    let wide = wide_at (get_or t.rooms.items k 0) t.levels.items k r level cells k_in c.index_mut.ensures.value r_in c.index_mut-2.ensures.value (c.self.invariant.shapes k known) in
    let cells' : Cells = record { fresh = cells.fresh; held = with_item cells.held c.args.m c.args.cost } in
    let level' = with_item level r cells' in
    whole_set t (with_item t.levels k level') k r level level' cells' c.self.invariant known c.index_mut.ensures.value refl refl
    (record { fresh_wide = wide.fresh_wide; held_wide = length-set cells.held.items c.args.m c.args.cost ∙ wide.held_wide })

pub returns-clause-entry : goal.returns-clause-entry
returns-clause-entry c =
    let t = c.self.inside in let k = c.args.k in let r = c.args.l - 1 in
    let level = c.index_mut.result.now in let cells = c.index_mut-2.result.now in
    let K : TableRows → Type 0 = λ v. k < length v.rooms in
    let L : TableRows → Type 0 = λ v. c.args.l ≤ v.steps in
    let M : TableRows → Type 0 = λ v. c.args.m < get_or v.rooms k 0 in
    let known = subst K (sym c.self.view_is) c.requires.k in
    let within = subst L (sym c.self.view_is) c.requires.l.1 in
    let free = subst M (sym c.self.view_is) c.requires.m in
    let k_in : k < length t.levels.items = omega (arith, c.self.invariant.level_count) in
    let count = sym (ap (λ (cells : List Cells). length cells) (cells_read t.levels.items k level k_in c.index_mut.ensures.value)) ∙ c.self.invariant.row_count k known in
    let r_in : r < length level.items = omega (arith, c.requires.l.0) in
    let wide = wide_at (get_or t.rooms.items k 0) t.levels.items k r level cells k_in c.index_mut.ensures.value r_in c.index_mut-2.ensures.value (c.self.invariant.shapes k known) in
    let cells' : Cells = record { fresh = cells.fresh; held = with_item cells.held c.args.m c.args.cost } in
    let level' = with_item level r cells' in
    entry_set (λ (c : Cells). c.held.items) t.levels.items k r c.args.m level level' cells cells' c.args.cost k_in c.index_mut.ensures.value r_in c.index_mut-2.ensures.value refl
    (omega (arith, wide.fresh_wide, wide.held_wide)) refl

pub returns-clause-others : goal.returns-clause-others
returns-clause-others c = λ i j n some other.
    let t = c.self.inside in let k = c.args.k in let r = c.args.l - 1 in
    let level = c.index_mut.result.now in let cells = c.index_mut-2.result.now in
    let K : TableRows → Type 0 = λ v. k < length v.rooms in
    let L : TableRows → Type 0 = λ v. c.args.l ≤ v.steps in
    let M : TableRows → Type 0 = λ v. c.args.m < get_or v.rooms k 0 in
    let known = subst K (sym c.self.view_is) c.requires.k in
    let within = subst L (sym c.self.view_is) c.requires.l.1 in
    let free = subst M (sym c.self.view_is) c.requires.m in
    let k_in : k < length t.levels.items = omega (arith, c.self.invariant.level_count) in
    let count = sym (ap (λ (cells : List Cells). length cells) (cells_read t.levels.items k level k_in c.index_mut.ensures.value)) ∙ c.self.invariant.row_count k known in
    let r_in : r < length level.items = omega (arith, c.requires.l.0) in
    let wide = wide_at (get_or t.rooms.items k 0) t.levels.items k r level cells k_in c.index_mut.ensures.value r_in c.index_mut-2.ensures.value (c.self.invariant.shapes k known) in
    let cells' : Cells = record { fresh = cells.fresh; held = with_item cells.held c.args.m c.args.cost } in
    let level' = with_item level r cells' in
    entry_kept (λ (c : Cells). c.held.items) t.levels.items k r c.args.m level level' cells cells' c.args.cost k_in c.index_mut.ensures.value r_in c.index_mut-2.ensures.value refl
    refl i (j - 1) n (λ same. other (same.0, omega (arith, same.1, some, c.requires.l.0), same.2))
    ∙ ap (λ (v : TableRows). entry_at v.held i (j - 1) n) c.self.view_is

pub returns-clause-fresh : goal.returns-clause-fresh
returns-clause-fresh c =
    let t = c.self.inside in let k = c.args.k in let r = c.args.l - 1 in
    let level = c.index_mut.result.now in let cells = c.index_mut-2.result.now in
    let K : TableRows → Type 0 = λ v. k < length v.rooms in
    let L : TableRows → Type 0 = λ v. c.args.l ≤ v.steps in
    let M : TableRows → Type 0 = λ v. c.args.m < get_or v.rooms k 0 in
    let known = subst K (sym c.self.view_is) c.requires.k in
    let within = subst L (sym c.self.view_is) c.requires.l.1 in
    let free = subst M (sym c.self.view_is) c.requires.m in
    let k_in : k < length t.levels.items = omega (arith, c.self.invariant.level_count) in
    let count = sym (ap (λ (cells : List Cells). length cells) (cells_read t.levels.items k level k_in c.index_mut.ensures.value)) ∙ c.self.invariant.row_count k known in
    let r_in : r < length level.items = omega (arith, c.requires.l.0) in
    let wide = wide_at (get_or t.rooms.items k 0) t.levels.items k r level cells k_in c.index_mut.ensures.value r_in c.index_mut-2.ensures.value (c.self.invariant.shapes k known) in
    let cells' : Cells = record { fresh = cells.fresh; held = with_item cells.held c.args.m c.args.cost } in
    let level' = with_item level r cells' in
    beside (λ (c : Cells). c.fresh.items) t.levels.items k r c.args.m level level' cells cells' c.args.cost k_in c.index_mut.ensures.value r_in c.index_mut-2.ensures.value refl refl
    ∙ ap (λ (v : TableRows). v.fresh) c.self.view_is
