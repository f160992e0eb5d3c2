-- Tables of which each entry is Never.
use Rattle.std.proofs.Common.{◌≡◌, ℕ, ◌+◌, ◌-◌, ◌<◌, ◌≤◌, List, [], ◌∷◌, ◌++◌, map, length, get_or, refl, sym, ap, ◌∙◌, subst, arith, inl, inr, length-append, All, Vec}
use Rattle.std.specs.declared.alloc.Global.{Global}
use Rattle.std.proofs.lemmas.List.{get_or-map}
use Rattle.std.proofs.lemmas.List.Elements.{All-weaker}
use Rattle.std.proofs.lemmas.Bool.{cases_lt}
use Rattle.level_book.specs.BookCosts.{BookCosts, room}
use Rattle.level_book.specs.UnderTable.{Entry, number, never}
use Rattle.cost_tables.specs.declared.cost.Cost.{Cost}
use Rattle.cost_tables.specs.declared.cost.Cost.TheVariants.{Never}
use Rattle.cost_tables.specs.declared.cells.Cells.{Cells}
use Rattle.cost_tables.specs.declared.tables.Tables.TheInside.{Inside}
use Rattle.cost_tables.specs.TableRows.{tables_in, value_of, fastest}
use Rattle.cost_tables.specs.TableUpdates.{AreAllNever}
use Rattle.cost_tables.specs.TableInvariant.{cells_at, fresh_costs, held_costs, view_of, IsWide, IsNeverCells, AreNever, AreWhole}
use Rattle.cost_tables.proofs.CellEntries.{rows_by, cells_seen, some_of}
use Rattle.cost_tables.proofs.FastestLevel.{first_only, same_room}
use Rattle.cost_tables.proofs.LevelExtension.{level_before, level_here}
use Rattle.cost_tables.proofs.RowExtension.{pushed}

-- an entry of a level of Nevers
level_never : (items : Cells → List Cost) (cells : List Cells) (r m : ℕ) (r_in : r < length cells) → All (λ cost. cost ≡ Never) (items (get_or cells r (some_of r cells r_in).0)) → m < length (items (get_or cells r (some_of r cells r_in).0)) →
    get_or (get_or (rows_by items cells) r []) m (number 0) ≡ never
level_never items cells r m r_in all m_in =
    let d = (some_of r cells r_in).0 in
    ap (λ (row : List Entry). get_or row m (number 0)) (get_or-map (λ (c : Cells). map value_of (items c)) cells r d [] r_in)
    ∙ get_or-map value_of (items (get_or cells r d)) m Never (number 0) m_in
    ∙ ap value_of (all m Never m_in)

fresh_never : (room : ℕ) (cells : List Cells) (r m : ℕ) → All (IsNeverCells room) cells → r < length cells → m ≤ room → get_or (get_or (fresh_costs cells) r []) m (number 0) ≡ never
fresh_never room cells r m are r_in le =
    let is = are r (some_of r cells r_in).0 r_in in
    level_never (λ (c : Cells). c.fresh.items) cells r m r_in is.fresh (omega (arith, is.wide.fresh_wide))

held_never : (room : ℕ) (cells : List Cells) (r m : ℕ) → All (IsNeverCells room) cells → r < length cells → m < room → get_or (get_or (held_costs cells) r []) m (number 0) ≡ never
held_never room cells r m are r_in lt =
    let is = are r (some_of r cells r_in).0 r_in in
    level_never (λ (c : Cells). c.held.items) cells r m r_in is.held (omega (arith, is.wide.held_wide))

-- one level more
pub never_more : (steps : ℕ) (book : BookCosts) (k wide : ℕ) (levels levels' : List (Vec Cells Global)) (rooms rooms' : List ℕ) (cells : Vec Cells Global) → AreNever steps book k levels rooms →
    levels' ≡ levels ++ cells ∷ [] → rooms' ≡ rooms ++ wide ∷ [] → wide ≡ room book k steps → length cells.items ≡ steps → All (IsNeverCells wide) cells.items → AreNever steps book (k + 1) levels' rooms'
never_more steps book k wide levels levels' rooms rooms' cells are el er ew count all =
    let added = pushed rooms rooms' wide k er are.room_count in
    let before : (j : ℕ) → j < k → cells_at levels' j ≡ cells_at levels j = λ j lt.
    ap (λ (l : List (Vec Cells Global)). cells_at l j) el ∙ level_before levels cells j (omega (arith, are.count)) in
    let here : cells_at levels' k ≡ cells.items = ap (λ (l : List (Vec Cells Global)). cells_at l k) el ∙ level_here levels cells k are.count in
    record {
      room_count = added.longer;
      rooms_are = λ j lt.
          let P : ℕ → Type 0 = λ j. get_or rooms' j 0 ≡ room book j steps in
          elim (cases_lt j k) [ inl h ↦ added.before j h ∙ are.rooms_are j h | inr h ↦ let e : k ≡ j = omega arith in subst P e (added.here ∙ ew) ];
      count = ap length el ∙ length-append levels (cells ∷ []) ∙ ap (λ n. n + 1) are.count;
      row_count = λ j lt.
          let P : ℕ → Type 0 = λ j. length (cells_at levels' j) ≡ steps in
          elim (cases_lt j k) [
            | inl h ↦ ap (λ (cells : List Cells). length cells) (before j h) ∙ are.row_count j h
            | inr h ↦ let e : k ≡ j = omega arith in subst P e (ap (λ (cells : List Cells). length cells) here ∙ count)
          ];
      cells = λ j lt.
          let P : ℕ → Type 0 = λ j. All (IsNeverCells (room book j steps)) (cells_at levels' j) in
          elim (cases_lt j k) [
            | inl h ↦ let Q : List Cells → Type 0 = λ cells. All (IsNeverCells (room book j steps)) cells in subst Q (sym (before j h)) (are.cells j h)
            | inr h ↦
                let e : k ≡ j = omega arith in
                let Q : List Cells → Type 0 = λ cells. All (IsNeverCells (room book k steps)) cells in
                let R : ℕ → Type 0 = λ n. All (IsNeverCells n) cells.items in
                subst P e (subst Q (sym here) (subst R ew all))
          ];
    }

-- tables of a book's levels are whole
pub never_whole : (book : BookCosts) (t : Inside) → AreNever t.steps book (length book.levels) t.levels.items t.rooms.items → 1 ≤ length book.levels → length book.levels ≤ 4 → AreWhole t
never_whole book t are some few =
    let known : (k : ℕ) → k < length t.rooms.items → k < length book.levels = λ k lt. omega (arith, are.room_count) in
    record {
      some_levels = omega (arith, are.room_count);
      few_levels = omega (arith, are.room_count);
      level_count = are.count ∙ sym are.room_count;
      row_count = λ k lt. are.row_count k (known k lt);
      shapes = λ k lt.
          let wide = room book k t.steps in
          let P : ℕ → Type 0 = λ n. All (IsWide n) (cells_at t.levels.items k) in
          subst P (sym (are.rooms_are k (known k lt))) (All-weaker (IsNeverCells wide) (IsWide wide) (λ c is. is.wide) (cells_at t.levels.items k) (are.cells k (known k lt)));
    }

-- all levels of a book
pub all_never : (steps : ℕ) (book : BookCosts) (t : Inside) → AreNever steps book (length book.levels) t.levels.items t.rooms.items → AreAllNever steps book (tables_in (view_of t))
all_never steps book t are = record {
  fresh = λ k l m known pos le some.
      ap (λ (rows : List (List Entry)). get_or (get_or rows (l - 1) []) m (number 0)) (cells_seen fresh_costs t.levels.items k refl)
      ∙ fresh_never (room book k steps) (cells_at t.levels.items k) (l - 1) m (are.cells k known) (omega (arith, are.row_count k known)) some;
  held = λ k l m known pos le some.
      ap (λ (rows : List (List Entry)). get_or (get_or rows (l - 1) []) m (number 0)) (cells_seen held_costs t.levels.items k refl)
      ∙ held_never (room book k steps) (cells_at t.levels.items k) (l - 1) m (are.cells k known) (omega (arith, are.row_count k known)) some;
}

-- the fastest level alone
pub fastest_never : (steps : ℕ) (book : BookCosts) (t : Inside) (cells : Vec Cells Global) (wide : ℕ) → t.levels.items ≡ cells ∷ [] → length cells.items ≡ steps → wide ≡ room book 0 steps → All (IsNeverCells wide) cells.items →
    AreAllNever steps (fastest book) (tables_in (view_of t))
fastest_never steps book t cells wide el count ew are =
    let here : (k : ℕ) → k < length (fastest book).levels → cells_at t.levels.items k ≡ cells.items = λ k known.
    ap (λ (levels : List (Vec Cells Global)). cells_at levels k) el ∙ (let P : ℕ → Type 0 = λ k. cells_at (cells ∷ []) k ≡ cells.items in subst P (first_only book k known) refl) in
    let free : (k : ℕ) → k < length (fastest book).levels → wide ≡ room (fastest book) k steps = λ k known.
    let P : ℕ → Type 0 = λ k. wide ≡ room (fastest book) k steps in subst P (first_only book k known) (ew ∙ sym (same_room book steps)) in
    record {
      fresh = λ k l m known pos le some.
          ap (λ (rows : List (List Entry)). get_or (get_or rows (l - 1) []) m (number 0)) (cells_seen fresh_costs t.levels.items k refl ∙ ap (λ (cells : List Cells). fresh_costs cells) (here k known))
          ∙ fresh_never wide cells.items (l - 1) m are (omega arith) (omega (arith, free k known));
      held = λ k l m known pos le some.
          ap (λ (rows : List (List Entry)). get_or (get_or rows (l - 1) []) m (number 0)) (cells_seen held_costs t.levels.items k refl ∙ ap (λ (cells : List Cells). held_costs cells) (here k known))
          ∙ held_never wide cells.items (l - 1) m are (omega arith) (omega (arith, free k known));
    }
