-- Tables are seen with entries of 64 bits.
use Rattle.std.proofs.Common.{ℕ, zero, suc, ◌-◌, ◌<◌, List, [], ◌∷◌, length, map, get_or, arith, All, Vec}
use Rattle.std.specs.declared.alloc.Global.{Global}
use Rattle.level_book.specs.UnderTable.{number}
use Rattle.cost_tables.specs.declared.cost.Cost.{Cost}
use Rattle.cost_tables.specs.declared.cells.Cells.{Cells}
use Rattle.cost_tables.specs.declared.tables.Tables.TheInside.{Inside}
use Rattle.cost_tables.specs.TableRows.{value_of}
use Rattle.cost_tables.specs.Shapes.{IsShort, AreShort}
use Rattle.cost_tables.specs.TableInvariant.{view_of, AreShortCells}
use Rattle.cost_tables.proofs.CellEntries.{rows_by, levels_by}

pub row_short : (costs : List Cost) → All (λ cost. IsShort (value_of cost)) costs → (m : ℕ) → IsShort (get_or (map value_of costs) m (number 0))
row_short [] short m = omega arith
row_short (x ∷ xs) short zero = short 0 x (omega arith)
row_short (x ∷ xs) short (suc m) = row_short xs (λ i d h. short (suc i) d (omega arith)) m

rows_short : (items : Cells → List Cost) (rows : List Cells) → ((r : ℕ) (d : Cells) → r < length rows → All (λ cost. IsShort (value_of cost)) (items (get_or rows r d))) →
    (r m : ℕ) → IsShort (get_or (get_or (rows_by items rows) r []) m (number 0))
rows_short items [] short r m = omega arith
rows_short items (x ∷ xs) short zero m = row_short (items x) (short 0 x (omega arith)) m
rows_short items (x ∷ xs) short (suc r) m = rows_short items xs (λ i d h. short (suc i) d (omega arith)) r m

levels_short : (items : Cells → List Cost) (levels : List (Vec Cells Global)) → ((cells : Cells) → AreShortCells cells → All (λ cost. IsShort (value_of cost)) (items cells)) →
    All (λ level. All AreShortCells level.items) levels → (k r m : ℕ) → IsShort (get_or (get_or (get_or (levels_by items levels) k []) r []) m (number 0))
levels_short items [] own short k r m = omega arith
levels_short items (x ∷ xs) own short zero r m = rows_short items x.items (λ i d h. own (get_or x.items i d) (short 0 x (omega arith) i d h)) r m
levels_short items (x ∷ xs) own short (suc k) r m = levels_short items xs own (λ i d h. short (suc i) d (omega arith)) k r m

pub tables_short : (t : Inside) → All (λ level. All AreShortCells level.items) t.levels.items → AreShort (view_of t)
tables_short t short = record {
  fresh = λ k l m known one le some. levels_short (λ (c : Cells). c.fresh.items) t.levels.items (λ cells is. is.fresh) short k (l - 1) m;
  held = λ k l m known one le some. levels_short (λ (c : Cells). c.held.items) t.levels.items (λ cells is. is.held) short k (l - 1) m;
}
