-- One entry that is set.
use Rattle.std.proofs.Common.{◌≡◌, ◌≢◌, ℕ, ◌<◌, List, [], map, length, get_or, sym, ap, ◌∙◌, subst, arith, inl, inr, All, Vec}
use Rattle.std.specs.declared.alloc.Global.{Global}
use Rattle.std.proofs.Math.ListN.{set}
use Rattle.std.proofs.Math.Seq.{map-set_same}
use Rattle.std.proofs.lemmas.List.{length-map, length-set, get_or-map, map-set, get_or-set_same, get_or-set_other}
use Rattle.std.proofs.lemmas.List.Elements.{All-set}
use Rattle.std.proofs.lemmas.Bool.{cases_eq}
use Rattle.level_book.specs.UnderTable.{Entry, number}
use Rattle.cost_tables.specs.declared.cost.Cost.{Cost}
use Rattle.cost_tables.specs.declared.cells.Cells.{Cells}
use Rattle.cost_tables.specs.declared.tables.Tables.TheInside.{Inside}
use Rattle.cost_tables.specs.TableRows.{entry_at, value_of}
use Rattle.cost_tables.specs.TableInvariant.{cells_at, IsWide, AreWhole}
use Rattle.cost_tables.proofs.CellEntries.{rows_by, levels_by, cells_read}

module _ (items : Cells → List Cost) (levels : List (Vec Cells Global)) (k r m : ℕ) (level level' : Vec Cells Global) (cells cells' : Cells) (cost : Cost)
    (k_in : k < length levels) (level_is : level ≡ get_or levels k level) (r_in : r < length level.items) (cells_is : cells ≡ get_or level.items r cells)
    (level_set : level'.items ≡ set level.items r cells') where
  abbrev rows : List (List Entry)
  rows = rows_by items level.items

  -- the rows of all levels, with one other
  set_seen : levels_by items (set levels k level') ≡ set (levels_by items levels) k (set rows r (map value_of (items cells')))
  set_seen =
      map-set (λ (cells : Vec Cells Global). rows_by items cells.items) levels k level'
      ∙ ap (λ (new : List (List Entry)). set (levels_by items levels) k new) (ap (λ (cells : List Cells). rows_by items cells) level_set ∙ map-set (λ (c : Cells). map value_of (items c)) level.items r cells')

  -- the rows are those of the level
  rows_are : get_or (levels_by items levels) k [] ≡ rows
  rows_are = get_or-map (λ (cells : Vec Cells Global). rows_by items cells.items) levels k level [] k_in ∙ ap (λ (cells : Vec Cells Global). rows_by items cells.items) (sym level_is)

  row_is : get_or rows r [] ≡ map value_of (items cells)
  row_is = get_or-map (λ (c : Cells). map value_of (items c)) level.items r cells [] r_in ∙ ap (λ (c : Cells). map value_of (items c)) (sym cells_is)

  levels_in : k < length (levels_by items levels)
  levels_in = omega (arith, length-map levels (λ (cells : Vec Cells Global). rows_by items cells.items))

  rows_in : r < length rows
  rows_in = omega (arith, length-map level.items (λ (c : Cells). map value_of (items c)))

  -- the entry that is set
  pub entry_set : m < length (items cells) → items cells' ≡ set (items cells) m cost → entry_at (levels_by items (set levels k level')) k r m ≡ value_of cost
  entry_set m_in cells_set =
      ap (λ (levels : List (List (List Entry))). entry_at levels k r m) set_seen
      ∙ ap (λ (rows : List (List Entry)). get_or (get_or rows r []) m (number 0)) (get_or-set_same (levels_by items levels) k (set rows r (map value_of (items cells'))) [] levels_in)
      ∙ ap (λ (row : List Entry). get_or row m (number 0)) (get_or-set_same rows r (map value_of (items cells')) [] rows_in)
      ∙ ap (λ (row : List Cost). get_or (map value_of row) m (number 0)) cells_set
      ∙ get_or-map value_of (set (items cells) m cost) m cost (number 0) (omega (arith, length-set (items cells) m cost))
      ∙ ap value_of (get_or-set_same (items cells) m cost cost m_in)

  -- another entry of the row
  row_kept : items cells' ≡ set (items cells) m cost → (n : ℕ) → n ≢ m → get_or (map value_of (items cells')) n (number 0) ≡ get_or (map value_of (items cells)) n (number 0)
  row_kept cells_set n ne =
      ap (λ (row : List Cost). get_or (map value_of row) n (number 0)) cells_set
      ∙ ap (λ (row : List Entry). get_or row n (number 0)) (map-set value_of (items cells) m cost)
      ∙ get_or-set_other (map value_of (items cells)) m n (value_of cost) (number 0) ne

  -- another entry of the level
  rows_kept : items cells' ≡ set (items cells) m cost → (j n : ℕ) → ((j ≡ r) × (n ≡ m) → ⊥) → get_or (get_or (set rows r (map value_of (items cells'))) j []) n (number 0) ≡ get_or (get_or rows j []) n (number 0)
  rows_kept cells_set j n other = elim (cases_eq j r) [
    | inl e ↦
        ap (λ (row : List Entry). get_or row n (number 0)) (ap (λ j. get_or (set rows r (map value_of (items cells'))) j []) e ∙ get_or-set_same rows r (map value_of (items cells')) [] rows_in)
        ∙ row_kept cells_set n (λ same. other (e, same))
        ∙ ap (λ (row : List Entry). get_or row n (number 0)) (sym (ap (λ j. get_or rows j []) e ∙ row_is))
    | inr ne ↦ ap (λ (row : List Entry). get_or row n (number 0)) (get_or-set_other rows r j (map value_of (items cells')) [] ne)
  ]

  -- another entry
  pub entry_kept : items cells' ≡ set (items cells) m cost → (i j n : ℕ) → ((i ≡ k) × (j ≡ r) × (n ≡ m) → ⊥) → entry_at (levels_by items (set levels k level')) i j n ≡ entry_at (levels_by items levels) i j n
  entry_kept cells_set i j n other =
      let new = set rows r (map value_of (items cells')) in
      let At : List (List Entry) → Entry = λ rows. get_or (get_or rows j []) n (number 0) in
      ap (λ (levels : List (List (List Entry))). entry_at levels i j n) set_seen
      ∙ elim (cases_eq i k) [
        | inl e ↦
            ap At (ap (λ i. get_or (set (levels_by items levels) k new) i []) e ∙ get_or-set_same (levels_by items levels) k new [] levels_in)
            ∙ rows_kept cells_set j n (λ same. other (e, same.0, same.1))
            ∙ ap At (sym (ap (λ i. get_or (levels_by items levels) i []) e ∙ rows_are))
        | inr ne ↦ ap At (get_or-set_other (levels_by items levels) k i new [] ne)
      ]

  -- what is kept beside
  pub beside : items cells' ≡ items cells → levels_by items (set levels k level') ≡ levels_by items levels
  beside same =
      map-set_same (λ (cells : Vec Cells Global). rows_by items cells.items) levels k level' level
      (ap (λ (cells : List Cells). rows_by items cells) level_set
      ∙ map-set_same (λ (c : Cells). map value_of (items c)) level.items r cells' cells (ap (λ (row : List Cost). map value_of row) same ∙ ap (λ (c : Cells). map value_of (items c)) cells_is)
      ∙ ap (λ (cells : Vec Cells Global). rows_by items cells.items) level_is)

-- what is kept of a level where one row is set
pub cells_set : (P : ℕ → List Cells → Type 0) (levels : List (Vec Cells Global)) (k j : ℕ) (level' : Vec Cells Global) → k < length levels → P k level'.items → P j (cells_at levels j) → P j (cells_at (set levels k level') j)
cells_set P levels k j level' k_in here other =
    let kept = map (λ (cells : Vec Cells Global). cells.items) levels in
    let seen = map-set (λ (cells : Vec Cells Global). cells.items) levels k level' in
    let At : ℕ → Type 0 = λ j. P j (get_or (set kept k level'.items) j []) in
    let Seen : List (List Cells) → Type 0 = λ all. P j (get_or all j []) in
    subst Seen (sym seen) (elim (cases_eq k j) [
      | inl e ↦ subst At e (subst (P k) (sym (get_or-set_same kept k level'.items [] (omega (arith, length-map levels (λ (cells : Vec Cells Global). cells.items))))) here)
      | inr ne ↦ subst (P j) (sym (get_or-set_other kept k j level'.items [] (λ e. ne (sym e)))) other
    ])

pub whole_set : (t : Inside) (levels : Vec (Vec Cells Global) Global) (k r : ℕ) (level level' : Vec Cells Global) (cells' : Cells) → AreWhole t → k < length t.rooms.items → level ≡ get_or t.levels.items k level →
    levels.items ≡ set t.levels.items k level' → level'.items ≡ set level.items r cells' → IsWide (get_or t.rooms.items k 0) cells' → AreWhole (record t { levels = levels })
whole_set t levels k r level level' cells' are known level_is levels_set level_set wide =
    let k_in : k < length t.levels.items = omega (arith, are.level_count) in
    let e = cells_read t.levels.items k level k_in level_is in
    record {
      some_levels = are.some_levels;
      few_levels = are.few_levels;
      level_count = ap (λ (levels : List (Vec Cells Global)). length levels) levels_set ∙ length-set t.levels.items k level' ∙ are.level_count;
      row_count = λ j lt.
          let P : List (Vec Cells Global) → Type 0 = λ levels. length (cells_at levels j) ≡ t.steps in
          subst P (sym levels_set) (cells_set (λ j cells. length cells ≡ t.steps) t.levels.items k j level' k_in
          (ap (λ (cells : List Cells). length cells) level_set ∙ length-set level.items r cells' ∙ ap (λ (cells : List Cells). length cells) (sym e) ∙ are.row_count k known) (are.row_count j lt));
      shapes = λ j lt.
          let P : List (Vec Cells Global) → Type 0 = λ levels. All (IsWide (get_or t.rooms.items j 0)) (cells_at levels j) in
          let Q : List Cells → Type 0 = λ cells. All (IsWide (get_or t.rooms.items k 0)) cells in
          subst P (sym levels_set) (cells_set (λ j cells. All (IsWide (get_or t.rooms.items j 0)) cells) t.levels.items k j level' k_in
          (subst Q (sym level_set) (All-set (IsWide (get_or t.rooms.items k 0)) level.items r cells' wide (subst Q e (are.shapes k known)))) (are.shapes j lt));
    }
