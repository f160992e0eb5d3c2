-- The entries that are seen are those of the numbers in memory.
use Rattle.std.proofs.Common.{◌≡◌, ℕ, zero, suc, ◌-◌, List, [], ◌∷◌, map, get_or, refl, sym, ap, ◌∙◌, Vec}
use Rattle.std.specs.declared.alloc.Global.{Global}
use Rattle.level_book.specs.UnderTable.{Entry, number}
use Rattle.cost_tables.specs.declared.rows.Row.{Row}
use Rattle.cost_tables.specs.declared.tables.Tables.TheInside.{Inside}
use Rattle.cost_tables.specs.TableRows.{entry_at, tables_in}
use Rattle.cost_tables.specs.Entries.{entry}
use Rattle.cost_tables.specs.Levels.{tables_of}
use Rattle.cost_tables.specs.TableInvariant.{rows_at, fresh_at, held_at, fresh_entries, held_entries, AreLevelsOf, view_of}
use Rattle.cost_tables.proofs.CellEntries.{level_seen}

-- what is read in a list that is seen by a function, where nothing is seen as the default
seen : {X Y : Type 0} (f : X → Y) (xs : List X) (k : ℕ) (d : X) (e : Y) → f d ≡ e → get_or (map f xs) k e ≡ f (get_or xs k d)
seen f [] k d e same = sym same
seen f (x ∷ xs) zero d e same = refl
seen f (x ∷ xs) (suc k) d e same = seen f xs k d e same

row_seen : (items : Row → List ℕ) (rows : List Row) (r : ℕ) → get_or (map (λ (row : Row). map entry (items row)) rows) r [] ≡ map entry (get_or (map items rows) r [])
row_seen items [] r = refl
row_seen items (row ∷ rows) zero = refl
row_seen items (row ∷ rows) (suc r) = row_seen items rows r

fresh_seen : (levels : List (Vec Row Global)) (k r m : ℕ) → entry_at (map (λ (rows : Vec Row Global). fresh_entries rows.items) levels) k r m ≡ entry (fresh_at levels k r m)
fresh_seen levels k r m =
    ap (λ (rows : List (List Entry)). get_or (get_or rows r []) m (number 0)) (level_seen fresh_entries levels k refl)
    ∙ ap (λ (row : List Entry). get_or row m (number 0)) (row_seen (λ (row : Row). row.fresh.items) (rows_at levels k) r)
    ∙ seen entry (get_or (map (λ (row : Row). row.fresh.items) (rows_at levels k)) r []) m 0 (number 0) refl

held_seen : (levels : List (Vec Row Global)) (k r m : ℕ) → entry_at (map (λ (rows : Vec Row Global). held_entries rows.items) levels) k r m ≡ entry (held_at levels k r m)
held_seen levels k r m =
    ap (λ (rows : List (List Entry)). get_or (get_or rows r []) m (number 0)) (level_seen held_entries levels k refl)
    ∙ ap (λ (row : List Entry). get_or row m (number 0)) (row_seen (λ (row : Row). row.held.items) (rows_at levels k) r)
    ∙ seen entry (get_or (map (λ (row : Row). row.held.items) (rows_at levels k)) r []) m 0 (number 0) refl

-- the tables that are seen, where what is kept is made of numbers
pub tables_seen : (t : Inside) (levels : List (Vec Row Global)) → AreLevelsOf levels t.levels.items → tables_in (view_of t) ≡ tables_of (fresh_at levels) (held_at levels)
tables_seen t levels are = λ i. record {
  fresh = λ k l m. (ap (λ (xs : List (List (List Entry))). entry_at xs k (l - 1) m) are.fresh ∙ fresh_seen levels k (l - 1) m) i;
  held = λ k l m. (ap (λ (xs : List (List (List Entry))). entry_at xs k (l - 1) m) are.held ∙ held_seen levels k (l - 1) m) i;
}
