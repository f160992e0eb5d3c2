-- One level more.
use Rattle.std.proofs.Common.{◌≡◌, ℕ, zero, suc, ◌+◌, ◌<◌, ◌≤◌, ◌^◌, min, List, [], ◌∷◌, ◌++◌, length, map, get_or, slice_get, refl, sym, ap, ◌∙◌, subst, add-one, arith, inl, inr, length-append, All, Vec, Some}
use Rattle.std.specs.declared.alloc.Global.{Global}
use Rattle.std.proofs.Math.ListN.{get_or-append}
use Rattle.std.proofs.Math.Seq.{get_or-append_seam}
use Rattle.std.proofs.lemmas.List.{map-append, length-map, get_or-map}
use Rattle.std.proofs.lemmas.Bool.{cases_lt}
use Rattle.level_book.specs.declared.book.Level.{Level}
use Rattle.level_book.specs.BookCosts.{BookCosts, room}
use Rattle.level_book.specs.UnderTable.{write_cost, read_cost}
use Rattle.cost_tables.specs.declared.rows.Row.{Row}
use Rattle.cost_tables.specs.Entries.{fresh_in, held_in, least_split}
use Rattle.cost_tables.specs.Levels.{IsLevel, base_of, IsModest}
use Rattle.cost_tables.specs.Rows.{AreRows, IsRow}
use Rattle.cost_tables.proofs.RowExtension.{pushed}
use Rattle.cost_tables.specs.TableInvariant.{rows_at, fresh_at, held_at, first_in, AreBuilt}

-- what is read of a level of the book
pub read_level : {X : Type 0} (f : Level → X) → (levels : List Level) (k : ℕ) (d : X) (level : Level) → slice_get levels k ≡ Some level → get_or (map f levels) k d ≡ f level
read_level f [] k d level e = cc
read_level f (x ∷ xs) zero d level e = let same : x ≡ level = cc in ap f same
read_level f (x ∷ xs) (suc k) d level e = read_level f xs k d level e

-- a level before the last one, and the last
pub level_before : {A : Type 0} (levels : List (Vec A Global)) (level : Vec A Global) (j : ℕ) → j < length levels →
    get_or (map (λ (level : Vec A Global). level.items) (levels ++ level ∷ [])) j [] ≡ get_or (map (λ (level : Vec A Global). level.items) levels) j []
level_before {A} levels level j h =
    ap (λ (l : List (List A)). get_or l j []) (map-append (λ (level : Vec A Global). level.items) levels (level ∷ []))
    ∙ get_or-append (map (λ (level : Vec A Global). level.items) levels) (level.items ∷ []) [] j (omega (arith, length-map levels (λ (level : Vec A Global). level.items)))

pub level_here : {A : Type 0} (levels : List (Vec A Global)) (level : Vec A Global) (k : ℕ) → length levels ≡ k → get_or (map (λ (level : Vec A Global). level.items) (levels ++ level ∷ [])) k [] ≡ level.items
level_here {A} levels level k e =
    ap (λ (l : List (List A)). get_or l k []) (map-append (λ (level : Vec A Global). level.items) levels (level ∷ []))
    ∙ ap (λ n. get_or (map (λ (level : Vec A Global). level.items) levels ++ level.items ∷ []) n []) (sym e ∙ sym (length-map levels (λ (level : Vec A Global). level.items)))
    ∙ get_or-append_seam (map (λ (level : Vec A Global). level.items) levels) level.items [] []

rows_before : (levels : List (Vec Row Global)) (rows : Vec Row Global) (j : ℕ) → j < length levels → rows_at (levels ++ rows ∷ []) j ≡ rows_at levels j
rows_before levels rows j h = level_before levels rows j h

rows_here : (levels : List (Vec Row Global)) (rows : Vec Row Global) (k : ℕ) → length levels ≡ k → rows_at (levels ++ rows ∷ []) k ≡ rows.items
rows_here levels rows k e = level_here levels rows k e

pub level_along : (steps room forward write read : ℕ) (base base' : ℕ → ℕ) (rows rows' : List Row) → rows ≡ rows' → ((r : ℕ) → r < steps → base r ≡ base' r) →
    IsLevel steps room forward write read base (fresh_in rows) (held_in rows) → IsLevel steps room forward write read base' (fresh_in rows') (held_in rows')
level_along steps room forward write read base base' rows rows' e same is =
    let P : List Row → Type 0 = λ rows. IsLevel steps room forward write read base' (fresh_in rows) (held_in rows) in
    subst P e (record {
      none_free = λ r lt. is.none_free r lt ∙ same r lt;
      some_free = λ r m lt some. is.some_free r m lt some ∙ ap (λ b. min b (write + least_split forward (λ q. fresh_in rows q m) (λ q. held_in rows q m) r r)) (same r lt);
      is_held = λ r m lt some. is.is_held r m lt some ∙ ap (λ b. read + min b (least_split forward (λ q. fresh_in rows q m) (λ q. held_in rows q m) r r)) (same r lt);
    })

module _ (steps : ℕ) (book : BookCosts) (k : ℕ) (levels : List (Vec Row Global)) (rooms : List ℕ) (base : List ℕ) (rows : Vec Row Global) (are : AreBuilt steps book k levels rooms base) where
  abbrev more : List (Vec Row Global)
  more = levels ++ rows ∷ []

  abbrev base_in : List (Vec Row Global) → ℕ → ℕ → ℕ
  base_in levels j r = base_of book.forward book.reverse (λ j. room book j steps) (fresh_at levels) j r

  same_base : (j r : ℕ) → j ≤ k → base_in levels j r ≡ base_in more j r
  same_base zero zero le = refl
  same_base zero (suc r) le = refl
  same_base (suc j) r le = ap (λ (rows : List Row). fresh_in rows r (room book j steps)) (sym (rows_before levels rows j (let e = are.count in omega arith)))

  pub built_more : (wide' : ℕ) (rooms' base' : List ℕ) → rooms' ≡ rooms ++ wide' ∷ [] → wide' ≡ room book k steps → length rows.items ≡ steps → AreRows (room book k steps) book.forward (write_cost book k) (read_cost book k) base rows.items →
      length base' ≡ steps → ((r d : ℕ) → r < length base' → get_or base' r d ≤ 2 ^ 61) → ((r : ℕ) → r < length rows.items → get_or base' r 0 ≡ fresh_in rows.items r (room book k steps)) →
      write_cost book k < 2 ^ 32 → read_cost book k < 2 ^ 32 → AreBuilt steps book (k + 1) more rooms' base'
  built_more wide' rooms' base' er ew wide is count low value cheap_w cheap_r =
      let here = rows_here levels rows k are.count in
      let Upto : ℕ → Type 0 = λ n. IsLevel n (room book k steps) book.forward (write_cost book k) (read_cost book k) (λ r. get_or base r 0) (fresh_in rows.items) (held_in rows.items) in
      let pushed' = pushed rooms rooms' wide' k er are.room_count in
      record {
        room_count = pushed'.longer;
        rooms_are = λ j lt.
            let P : ℕ → Type 0 = λ j. get_or rooms' j 0 ≡ room book j steps in
            elim (cases_lt j k) [ inl h ↦ pushed'.before j h ∙ are.rooms_are j h | inr h ↦ let e : k ≡ j = omega arith in subst P e (pushed'.here ∙ ew) ];
        row_count = λ j lt.
            let P : ℕ → Type 0 = λ j. length (rows_at more j) ≡ steps in
            elim (cases_lt j k) [
              | inl h ↦ ap (λ (rows : List Row). length rows) (rows_before levels rows j (let e = are.count in omega arith)) ∙ are.row_count j h
              | inr h ↦ let e : k ≡ j = omega arith in subst P e (ap (λ (rows : List Row). length rows) here ∙ wide)
            ];
        shapes = λ j lt.
            let P : ℕ → Type 0 = λ j. All (IsRow (room book j steps)) (rows_at more j) in
            elim (cases_lt j k) [
              | inl h ↦ let Q : List Row → Type 0 = λ rows. All (IsRow (room book j steps)) rows in subst Q (sym (rows_before levels rows j (let e = are.count in omega arith))) (are.shapes j h)
              | inr h ↦ let e : k ≡ j = omega arith in let Q : List Row → Type 0 = λ rows. All (IsRow (room book k steps)) rows in subst P e (subst Q (sym here) is.shapes)
            ];
        count = length-append levels (rows ∷ []) ∙ ap (λ n. n + 1) are.count;
        base_count = count;
        base_low = low;
        base_is = λ r lt.
            let P : ℕ → Type 0 = λ n. get_or base' r 0 ≡ base_in more n r in
            subst P (sym (add-one k)) (value r (omega arith) ∙ ap (λ (rows : List Row). fresh_in rows r (room book k steps)) (sym here));
        cheap_write = λ j lt.
            let P : ℕ → Type 0 = λ j. write_cost book j < 2 ^ 32 in
            elim (cases_lt j k) [ inl h ↦ are.cheap_write j h | inr h ↦ let e : k ≡ j = omega arith in subst P e cheap_w ];
        cheap_read = λ j lt.
            let P : ℕ → Type 0 = λ j. read_cost book j < 2 ^ 32 in
            elim (cases_lt j k) [ inl h ↦ are.cheap_read j h | inr h ↦ let e : k ≡ j = omega arith in subst P e cheap_r ];
        are_levels = λ j lt.
            let P : ℕ → Type 0 = λ j. IsLevel steps (room book j steps) book.forward (write_cost book j) (read_cost book j) (base_in more j) (fresh_at more j) (held_at more j) in
            elim (cases_lt j k) [
              | inl h ↦ level_along steps (room book j steps) book.forward (write_cost book j) (read_cost book j) (base_in levels j) (base_in more j) (rows_at levels j) (rows_at more j)
                  (sym (rows_before levels rows j (let e = are.count in omega arith))) (λ r lt. same_base j r (omega arith)) (are.are_levels j h)
              | inr h ↦ let e : k ≡ j = omega arith in
                  subst P e (level_along steps (room book k steps) book.forward (write_cost book k) (read_cost book k) (λ r. get_or base r 0) (base_in more k) rows.items (rows_at more k)
                  (sym here) (λ r lt. are.base_is r lt ∙ same_base k r (omega arith)) (subst Upto wide is.level))
            ];
      }

-- no level yet
first_base : (book : BookCosts) (steps r : ℕ) → first_in (book.forward + book.reverse) r ≡ base_of book.forward book.reverse (λ j. room book j steps) (fresh_at []) 0 r
first_base book steps zero = refl
first_base book steps (suc r) = refl

pub built_none : (steps : ℕ) (book : BookCosts) (base : List ℕ) → length base ≡ steps → All (λ n. n ≤ 2 ^ 61) base → ((r : ℕ) → r < steps → get_or base r 0 ≡ first_in (book.forward + book.reverse) r) →
    AreBuilt steps book 0 [] [] base
built_none steps book base count low value = record {
  room_count = refl;
  rooms_are = λ j lt. absurd (omega arith);
  row_count = λ j lt. absurd (omega arith);
  shapes = λ j lt. absurd (omega arith);
  count = refl;
  base_count = count;
  base_low = low;
  base_is = λ r lt. value r lt ∙ first_base book steps r;
  cheap_write = λ j lt. absurd (omega arith);
  cheap_read = λ j lt. absurd (omega arith);
  are_levels = λ j lt. absurd (omega arith);
}

-- the costs of a level past the last one
pub no_cost : (f : Level → ℕ) (levels : List Level) (k : ℕ) → length levels ≤ k → get_or (map f levels) k 0 < 2 ^ 32
no_cost f [] k h = omega arith
no_cost f (x ∷ xs) zero h = absurd (omega arith)
no_cost f (x ∷ xs) (suc k) h = no_cost f xs k (omega arith)

pub modest : (steps : ℕ) (book : BookCosts) (k : ℕ) (levels : List (Vec Row Global)) (rooms base : List ℕ) → AreBuilt steps book k levels rooms base → length book.levels ≤ k → steps ≤ 8192 →
    book.forward < 2 ^ 32 → book.reverse < 2 ^ 32 → IsModest steps book
modest steps book k levels rooms base are all few f b = record {
  few = few;
  cheap_forward = f;
  cheap_reverse = b;
  cheap_write = λ j. elim (cases_lt j k) [ inl h ↦ are.cheap_write j h | inr h ↦ no_cost (λ level. level.write) book.levels j (omega arith) ];
  cheap_read = λ j. elim (cases_lt j k) [ inl h ↦ are.cheap_read j h | inr h ↦ no_cost (λ level. level.read) book.levels j (omega arith) ];
}

-- the rows of a level, and a row, as they are read
pub rows_read : (levels : List (Vec Row Global)) (k : ℕ) (rows : Vec Row Global) → k < length levels → rows ≡ get_or levels k rows → rows_at levels k ≡ rows.items
rows_read levels k rows h is = get_or-map (λ (rows : Vec Row Global). rows.items) levels k rows [] h ∙ ap (λ (rows : Vec Row Global). rows.items) (sym is)

pub row_read : (room r : ℕ) (rows : List Row) (row : Row) → All (IsRow room) rows → r < length rows → row ≡ get_or rows r row → IsRow room row
row_read room r rows row shapes h is = subst (IsRow room) (sym is) (shapes r row h)
