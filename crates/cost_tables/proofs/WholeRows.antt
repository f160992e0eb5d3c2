-- Tables are seen with whole rows.
use Rattle.std.proofs.Common.{◌≡◌, ℕ, zero, suc, ◌+◌, ◌<◌, List, [], ◌∷◌, length, get_or, refl, ap, ◌∙◌, arith, Vec}
use Rattle.std.specs.declared.alloc.Global.{Global}
use Rattle.std.proofs.lemmas.List.{length-map}
use Rattle.level_book.specs.UnderTable.{Entry}
use Rattle.cost_tables.specs.declared.cost.Cost.{Cost}
use Rattle.cost_tables.specs.declared.cells.Cells.{Cells}
use Rattle.cost_tables.specs.declared.tables.Tables.TheInside.{Inside}
use Rattle.cost_tables.specs.TableRows.{value_of}
use Rattle.cost_tables.specs.Shapes.{AreShaped}
use Rattle.cost_tables.specs.TableInvariant.{cells_at, view_of, AreWhole}
use Rattle.cost_tables.proofs.CellEntries.{rows_by, levels_by}

level_seen : (items : Cells → List Cost) (levels : List (Vec Cells Global)) (k : ℕ) → get_or (levels_by items levels) k [] ≡ rows_by items (cells_at levels k)
level_seen items [] k = refl
level_seen items (level ∷ levels) zero = refl
level_seen items (level ∷ levels) (suc k) = level_seen items levels k

row_long : (items : Cells → List Cost) (cells : List Cells) (r n : ℕ) → r < length cells → ((d : Cells) → length (items (get_or cells r d)) ≡ n) → length (get_or (rows_by items cells) r []) ≡ n
row_long items [] r n low wide = absurd (omega arith)
row_long items (c ∷ cells) zero n low wide = length-map (items c) value_of ∙ wide c
row_long items (c ∷ cells) (suc r) n low wide = row_long items cells r n (omega arith) wide

rows_long : (items : Cells → List Cost) (levels : List (Vec Cells Global)) (k n : ℕ) → length (cells_at levels k) ≡ n → length (get_or (levels_by items levels) k []) ≡ n
rows_long items levels k n count =
    ap (λ (rows : List (List Entry)). length rows) (level_seen items levels k) ∙ length-map (cells_at levels k) _ ∙ count

entries_long : (items : Cells → List Cost) (levels : List (Vec Cells Global)) (k r n : ℕ) → r < length (cells_at levels k) → ((d : Cells) → length (items (get_or (cells_at levels k) r d)) ≡ n) →
    length (get_or (get_or (levels_by items levels) k []) r []) ≡ n
entries_long items levels k r n low wide = ap (λ (rows : List (List Entry)). length (get_or rows r [])) (level_seen items levels k) ∙ row_long items (cells_at levels k) r n low wide

pub shaped : (t : Inside) → AreWhole t → AreShaped (view_of t)
shaped t whole = record {
  fresh_levels = length-map t.levels.items _ ∙ whole.level_count;
  held_levels = length-map t.levels.items _ ∙ whole.level_count;
  fresh_rows = λ k low. rows_long (λ c. c.fresh.items) t.levels.items k t.steps (whole.row_count k low);
  held_rows = λ k low. rows_long (λ c. c.held.items) t.levels.items k t.steps (whole.row_count k low);
  fresh_entries = λ k r low within.
      let there : r < length (cells_at t.levels.items k) = omega (arith, whole.row_count k low) in
      entries_long (λ c. c.fresh.items) t.levels.items k r (get_or t.rooms.items k 0 + 1) there (λ d. (whole.shapes k low r d there).fresh_wide);
  held_entries = λ k r low within.
      let there : r < length (cells_at t.levels.items k) = omega (arith, whole.row_count k low) in
      entries_long (λ c. c.held.items) t.levels.items k r (get_or t.rooms.items k 0) there (λ d. (whole.shapes k low r d there).held_wide);
}
