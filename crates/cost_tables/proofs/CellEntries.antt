-- What is kept of the entries, and as what it is seen.
use Rattle.std.proofs.Common.{◌≡◌, ℕ, zero, suc, ◌<◌, ◌≤◌, List, [], ◌∷◌, map, length, get_or, refl, sym, ap, ◌∙◌, subst, arith, All, Vec}
use Rattle.std.specs.declared.alloc.Global.{Global}
use Rattle.std.proofs.lemmas.List.{length-map, get_or-map}
use Rattle.level_book.specs.UnderTable.{Entry, number}
use Rattle.cost_tables.specs.declared.cost.Cost.{Cost}
use Rattle.cost_tables.specs.declared.cells.Cells.{Cells}
use Rattle.cost_tables.specs.declared.rows.Row.{Row}
use Rattle.cost_tables.specs.declared.tables.Tables.TheInside.{Inside}
use Rattle.cost_tables.specs.TableRows.{entry_at, value_of}
use Rattle.cost_tables.specs.Entries.{entry}
use Rattle.cost_tables.specs.Rows.{IsRow}
use Rattle.cost_tables.specs.TableInvariant.{rows_at, cells_at, AreCellsOf, AreLevelsOf, fresh_entries, held_entries, fresh_costs, held_costs, IsWide, AreWhole}

-- the rows of a level, and of all levels, as they are seen
abbrev pub rows_by : (Cells → List Cost) → List Cells → List (List Entry)
rows_by items cells = map (λ (c : Cells). map value_of (items c)) cells

abbrev pub levels_by : (Cells → List Cost) → List (Vec Cells Global) → List (List (List Entry))
levels_by items levels = map (λ (cells : Vec Cells Global). rows_by items cells.items) levels

-- what is kept of a level that is read
pub cells_read : (levels : List (Vec Cells Global)) (k : ℕ) (level : Vec Cells Global) → k < length levels → level ≡ get_or levels k level → cells_at levels k ≡ level.items
cells_read levels k level h is = get_or-map (λ (cells : Vec Cells Global). cells.items) levels k level [] h ∙ ap (λ (cells : Vec Cells Global). cells.items) (sym is)

-- an entry that is read
pub entry_read : (items : Cells → List Cost) (levels : List (Vec Cells Global)) (k r m : ℕ) (level : Vec Cells Global) (cells : Cells) (cost : Cost) → k < length levels → level ≡ get_or levels k level →
    r < length level.items → cells ≡ get_or level.items r cells → m < length (items cells) → cost ≡ get_or (items cells) m cost → entry_at (levels_by items levels) k r m ≡ value_of cost
entry_read items levels k r m level cells cost k_in level_is r_in cells_is m_in cost_is =
    ap (λ (rows : List (List Entry)). get_or (get_or rows r []) m (number 0)) (get_or-map (λ (cells : Vec Cells Global). rows_by items cells.items) levels k level [] k_in ∙ ap (λ (cells : Vec Cells Global). rows_by items cells.items) (sym level_is))
    ∙ ap (λ (row : List Entry). get_or row m (number 0)) (get_or-map (λ (c : Cells). map value_of (items c)) level.items r cells [] r_in ∙ ap (λ (c : Cells). map value_of (items c)) (sym cells_is))
    ∙ get_or-map value_of (items cells) m cost (number 0) m_in
    ∙ ap value_of (sym cost_is)

-- it stands within its row
pub wide_at : (room : ℕ) (levels : List (Vec Cells Global)) (k r : ℕ) (level : Vec Cells Global) (cells : Cells) → k < length levels → level ≡ get_or levels k level → r < length level.items →
    cells ≡ get_or level.items r cells → All (IsWide room) (cells_at levels k) → IsWide room cells
wide_at room levels k r level cells k_in level_is r_in cells_is shapes =
    let P : List Cells → Type 0 = λ cells. All (IsWide room) cells in
    subst (IsWide room) (sym cells_is) (subst P (cells_read levels k level k_in level_is) shapes r cells r_in)

-- the rows of a level that is made of numbers
pub cells_count : (rows : List Row) (cells : List Cells) → AreCellsOf rows cells → length cells ≡ length rows
cells_count rows cells are = sym (length-map cells (λ (c : Cells). map value_of c.fresh.items)) ∙ ap (λ (xs : List (List Entry)). length xs) are.fresh ∙ length-map rows (λ (row : Row). map entry row.fresh.items)

-- one of some
pub some_of : {X : Type 0} (r : ℕ) (xs : List X) → r < length xs → X × Unit {0}
some_of r [] h = absurd (omega arith)
some_of r (x ∷ xs) h = (x, tt)

pub cells_shapes : (room : ℕ) (rows : List Row) (cells : List Cells) → AreCellsOf rows cells → All (IsRow room) rows → All (IsWide room) cells
cells_shapes room rows cells are shapes r d h =
    let within : r < length rows = omega (arith, cells_count rows cells are) in
    let e = (some_of r rows within).0 in
    let row = get_or rows r e in
    let c = get_or cells r d in
    let shape = shapes r e within in
    let fresh = sym (get_or-map (λ (c : Cells). map value_of c.fresh.items) cells r d [] h) ∙ ap (λ (xs : List (List Entry)). get_or xs r []) are.fresh ∙ get_or-map (λ (row : Row). map entry row.fresh.items) rows r e [] within in
    let held = sym (get_or-map (λ (c : Cells). map value_of c.held.items) cells r d [] h) ∙ ap (λ (xs : List (List Entry)). get_or xs r []) are.held ∙ get_or-map (λ (row : Row). map entry row.held.items) rows r e [] within in
    record {
      fresh_wide = sym (length-map c.fresh.items value_of) ∙ ap (λ (xs : List Entry). length xs) fresh ∙ length-map row.fresh.items entry ∙ shape.fresh_wide;
      held_wide = sym (length-map c.held.items value_of) ∙ ap (λ (xs : List Entry). length xs) held ∙ length-map row.held.items entry ∙ shape.held_wide;
    }

-- the levels that are made of numbers
pub levels_count : (levels : List (Vec Row Global)) (cells : List (Vec Cells Global)) → AreLevelsOf levels cells → length cells ≡ length levels
levels_count levels cells are =
    sym (length-map cells (λ (c : Vec Cells Global). fresh_costs c.items)) ∙ ap (λ (xs : List (List (List Entry))). length xs) are.fresh ∙ length-map levels (λ (rows : Vec Row Global). fresh_entries rows.items)

-- a level is seen by a function of what is kept of it
pub cells_seen : (f : List Cells → List (List Entry)) (levels : List (Vec Cells Global)) (k : ℕ) → f [] ≡ [] → get_or (map (λ (cells : Vec Cells Global). f cells.items) levels) k [] ≡ f (cells_at levels k)
cells_seen f [] k same = sym same
cells_seen f (cells ∷ levels) zero same = refl
cells_seen f (cells ∷ levels) (suc k) same = cells_seen f levels k same

-- a level is seen by a function of its rows
pub level_seen : (f : List Row → List (List Entry)) (levels : List (Vec Row Global)) (k : ℕ) → f [] ≡ [] → get_or (map (λ (rows : Vec Row Global). f rows.items) levels) k [] ≡ f (rows_at levels k)
level_seen f [] k same = sym same
level_seen f (rows ∷ levels) zero same = refl
level_seen f (rows ∷ levels) (suc k) same = level_seen f levels k same

pub level_of : (levels : List (Vec Row Global)) (cells : List (Vec Cells Global)) (k : ℕ) → AreLevelsOf levels cells → AreCellsOf (rows_at levels k) (cells_at cells k)
level_of levels cells k are = record {
  fresh = sym (cells_seen fresh_costs cells k refl) ∙ ap (λ (xs : List (List (List Entry))). get_or xs k []) are.fresh ∙ level_seen fresh_entries levels k refl;
  held = sym (cells_seen held_costs cells k refl) ∙ ap (λ (xs : List (List (List Entry))). get_or xs k []) are.held ∙ level_seen held_entries levels k refl;
}

-- tables that are made of numbers are whole
pub whole_of : (t : Inside) (levels : List (Vec Row Global)) → AreLevelsOf levels t.levels.items → 1 ≤ length t.rooms.items → length t.rooms.items ≤ 4 → length levels ≡ length t.rooms.items →
    ((k : ℕ) → k < length t.rooms.items → length (rows_at levels k) ≡ t.steps) → ((k : ℕ) → k < length t.rooms.items → All (IsRow (get_or t.rooms.items k 0)) (rows_at levels k)) → AreWhole t
whole_of t levels are some few count rows shapes = record {
  some_levels = some;
  few_levels = few;
  level_count = levels_count levels t.levels.items are ∙ count;
  row_count = λ k lt. cells_count (rows_at levels k) (cells_at t.levels.items k) (level_of levels t.levels.items k are) ∙ rows k lt;
  shapes = λ k lt. cells_shapes (get_or t.rooms.items k 0) (rows_at levels k) (cells_at t.levels.items k) (level_of levels t.levels.items k are) (shapes k lt);
}

-- so are those of one level
pub fastest_whole : (t : Inside) (rows : Vec Row Global) (wide : ℕ) → t.rooms.items ≡ wide ∷ [] → AreLevelsOf (rows ∷ []) t.levels.items → length rows.items ≡ t.steps → All (IsRow wide) rows.items → AreWhole t
fastest_whole t rows wide rooms are count shapes =
    let one : length t.rooms.items ≡ 1 = ap (λ (rooms : List ℕ). length rooms) rooms in
    let first : get_or t.rooms.items 0 0 ≡ wide = ap (λ (rooms : List ℕ). get_or rooms 0 0) rooms in
    whole_of t (rows ∷ []) are (omega arith) (omega arith) (sym one)
    (λ k lt. let P : ℕ → Type 0 = λ k. length (rows_at (rows ∷ []) k) ≡ t.steps in let e : 0 ≡ k = omega arith in subst P e count)
    (λ k lt.
    let P : ℕ → Type 0 = λ k. All (IsRow (get_or t.rooms.items k 0)) (rows_at (rows ∷ []) k) in
    let Q : ℕ → Type 0 = λ n. All (IsRow n) rows.items in
    let e : 0 ≡ k = omega arith in
    subst P e (subst Q (sym first) shapes))
