-- A list of numbers with one more, and tables with one more row.
use Rattle.std.proofs.Common.{◌≡◌, ℕ, zero, suc, ◌+◌, ◌-◌, ◌*◌, ◌<◌, ◌≤◌, ◌^◌, min, List, [], ◌∷◌, ◌++◌, length, map, get_or, refl, sym, ap, ◌∙◌, subst, add-one, arith, inl, inr, All, length-append}
use Rattle.std.proofs.Math.ListN.{get_or-append}
use Rattle.std.proofs.Math.Seq.{get_or-append_seam}
use Rattle.std.proofs.lemmas.List.{map-append, length-map, get_or_past, get_or-map}
use Rattle.std.proofs.lemmas.List.Elements.{All-append}
use Rattle.std.proofs.lemmas.Bool.{cases_lt}
use Rattle.cost_tables.specs.declared.rows.Row.{Row}
use Rattle.cost_tables.specs.Entries.{fresh_in, held_in, least_split}
use Rattle.cost_tables.specs.Rows.{split_in, IsRow, IsNextRow, AreRows}

pub record IsPushed (xs ys : List ℕ) (x n : ℕ) : Type 0 where
  pub longer : length ys ≡ n + 1
  pub before : (i : ℕ) → i < n → get_or ys i 0 ≡ get_or xs i 0
  pub here : get_or ys n 0 ≡ x

pub pushed : (xs ys : List ℕ) (x n : ℕ) → ys ≡ xs ++ x ∷ [] → length xs ≡ n → IsPushed xs ys x n
pushed xs ys x n e l = record {
  longer = ap length e ∙ length-append xs (x ∷ []) ∙ ap (λ k. k + 1) l;
  before = λ i h. ap (λ zs. get_or zs i 0) e ∙ get_or-append xs (x ∷ []) 0 i (omega arith);
  here = ap (λ zs. get_or zs n 0) e ∙ ap (λ k. get_or (xs ++ x ∷ []) k 0) (sym l) ∙ get_or-append_seam xs x [] 0;
}

pub All-pushed : (bound : ℕ) (xs ys : List ℕ) (x : ℕ) → ys ≡ xs ++ x ∷ [] → All (λ n. n ≤ bound) xs → x ≤ bound → All (λ n. n ≤ bound) ys
All-pushed bound xs ys x e low le = subst (All (λ n. n ≤ bound)) (sym e) (All-append (λ n. n ≤ bound) xs (x ∷ []) low (one x le))
  where
    one : (x : ℕ) → x ≤ bound → All (λ n. n ≤ bound) (x ∷ [])
    one x le zero d h = le
    one x le (suc k) d h = absurd (omega arith)

-- a is_number of a level is low
pub low_in : (bound : ℕ) (xs : List ℕ) (m : ℕ) → All (λ n. n ≤ bound) xs → get_or xs m 0 ≤ bound
low_in bound xs m low = elim (cases_lt m (length xs)) [ inl h ↦ low m 0 h | inr h ↦ let e = get_or_past xs m 0 h in omega arith ]

some_row : (r : ℕ) (rows : List Row) → r < length rows → Row × Unit {0}
some_row r [] h = absurd (omega arith)
some_row r (row ∷ rows) h = (row, tt)

pub fresh_low_in : (room : ℕ) (rows : List Row) (r m : ℕ) → All (IsRow room) rows → r < length rows → fresh_in rows r m ≤ 2 ^ 61
fresh_low_in room rows r m shapes h =
    let d = (some_row r rows h).0 in
    let e = get_or-map (λ (row : Row). row.fresh.items) rows r d [] h in
    let low = low_in (2 ^ 61) (get_or rows r d).fresh.items m (shapes r d h).fresh_low in
    subst (λ (xs : List ℕ). get_or xs m 0 ≤ 2 ^ 61) (sym e) low

pub held_low_in : (room : ℕ) (rows : List Row) (r m : ℕ) → All (IsRow room) rows → r < length rows → held_in rows r m ≤ 2 ^ 62
held_low_in room rows r m shapes h =
    let d = (some_row r rows h).0 in
    let e = get_or-map (λ (row : Row). row.held.items) rows r d [] h in
    let low = low_in (2 ^ 62) (get_or rows r d).held.items m (shapes r d h).held_low in
    subst (λ (xs : List ℕ). get_or xs m 0 ≤ 2 ^ 62) (sym e) low

-- a level with more rows
pub fresh_before : (rows more : List Row) (q m : ℕ) → q < length rows → fresh_in (rows ++ more) q m ≡ fresh_in rows q m
fresh_before rows more q m h =
    ap (λ (xs : List ℕ). get_or xs m 0)
    (ap (λ (l : List (List ℕ)). get_or l q []) (map-append (λ (row : Row). row.fresh.items) rows more)
    ∙ get_or-append (map (λ (row : Row). row.fresh.items) rows) (map (λ (row : Row). row.fresh.items) more) [] q (omega (arith, length-map rows (λ (row : Row). row.fresh.items))))

pub held_before : (rows more : List Row) (q m : ℕ) → q < length rows → held_in (rows ++ more) q m ≡ held_in rows q m
held_before rows more q m h =
    ap (λ (xs : List ℕ). get_or xs m 0)
    (ap (λ (l : List (List ℕ)). get_or l q []) (map-append (λ (row : Row). row.held.items) rows more)
    ∙ get_or-append (map (λ (row : Row). row.held.items) rows) (map (λ (row : Row). row.held.items) more) [] q (omega (arith, length-map rows (λ (row : Row). row.held.items))))

fresh_here : (rows : List Row) (row : Row) (m : ℕ) → fresh_in (rows ++ row ∷ []) (length rows) m ≡ get_or row.fresh.items m 0
fresh_here rows row m =
    ap (λ (xs : List ℕ). get_or xs m 0)
    (ap (λ (l : List (List ℕ)). get_or l (length rows) []) (map-append (λ (row : Row). row.fresh.items) rows (row ∷ []))
    ∙ ap (λ n. get_or (map (λ (row : Row). row.fresh.items) rows ++ row.fresh.items ∷ []) n []) (sym (length-map rows (λ (row : Row). row.fresh.items)))
    ∙ get_or-append_seam (map (λ (row : Row). row.fresh.items) rows) row.fresh.items [] [])

held_here : (rows : List Row) (row : Row) (m : ℕ) → held_in (rows ++ row ∷ []) (length rows) m ≡ get_or row.held.items m 0
held_here rows row m =
    ap (λ (xs : List ℕ). get_or xs m 0)
    (ap (λ (l : List (List ℕ)). get_or l (length rows) []) (map-append (λ (row : Row). row.held.items) rows (row ∷ []))
    ∙ ap (λ n. get_or (map (λ (row : Row). row.held.items) rows ++ row.held.items ∷ []) n []) (sym (length-map rows (λ (row : Row). row.held.items)))
    ∙ get_or-append_seam (map (λ (row : Row). row.held.items) rows) row.held.items [] [])

-- the least split reads the rows before
pub split_same : (forward : ℕ) (f f' h h' : ℕ → ℕ) (r n : ℕ) → ((q : ℕ) → q < r → f q ≡ f' q) → ((q : ℕ) → q < r → h q ≡ h' q) → n ≤ r →
    least_split forward f h r n ≡ least_split forward f' h' r n
split_same forward f f' h h' r zero e g le = refl
split_same forward f f' h h' r (suc n) e g le =
    let rest = split_same forward f f' h h' r n e g (omega arith) in
    let one = e (r - (n + 1)) (omega arith) in
    let other = g n (omega arith) in
    λ t. min (rest t) ((n + 1) * forward + one t + other t)

pub level_more : (room forward write read : ℕ) (base : List ℕ) (split : ℕ → ℕ) (rows : List Row) (row : Row) → AreRows room forward write read base rows →
    IsNextRow room write read (get_or base (length rows) 0) split row → ((m : ℕ) → m < room → split m ≡ split_in rows forward m) → AreRows room forward write read base (rows ++ row ∷ [])
level_more room forward write read base split rows row are next same =
    let n = length rows in
    let longer : length (rows ++ row ∷ []) ≡ n + 1 = length-append rows (row ∷ []) in
    let unchanged : (r m : ℕ) → r ≤ n → least_split forward (λ q. fresh_in rows q m) (λ q. held_in rows q m) r r ≡ least_split forward (λ q. fresh_in (rows ++ row ∷ []) q m) (λ q. held_in (rows ++ row ∷ []) q m) r r =
    λ r m le. split_same forward (λ q. fresh_in rows q m) (λ q. fresh_in (rows ++ row ∷ []) q m) (λ q. held_in rows q m) (λ q. held_in (rows ++ row ∷ []) q m) r r
    (λ q h. sym (fresh_before rows (row ∷ []) q m (omega arith))) (λ q h. sym (held_before rows (row ∷ []) q m (omega arith))) (omega arith) in
    record {
      shapes = All-append (IsRow room) rows (row ∷ []) are.shapes (one_shape next.shape);
      level = record {
        none_free = λ r lt.
            let P : ℕ → Type 0 = λ r. fresh_in (rows ++ row ∷ []) r 0 ≡ get_or base r 0 in
            elim (cases_lt r n) [
              | inl h ↦ fresh_before rows (row ∷ []) r 0 h ∙ are.level.none_free r h
              | inr h ↦ let e : n ≡ r = omega arith in subst P e (fresh_here rows (row) 0 ∙ next.none_free)
            ];
        some_free = λ r m lt some.
            let P : ℕ → Type 0 = λ r. fresh_in (rows ++ row ∷ []) r (suc m) ≡ min (get_or base r 0) (write + least_split forward (λ q. fresh_in (rows ++ row ∷ []) q m) (λ q. held_in (rows ++ row ∷ []) q m) r r) in
            elim (cases_lt r n) [
              | inl h ↦ fresh_before rows (row ∷ []) r (suc m) h ∙ are.level.some_free r m h some ∙ ap (λ s. min (get_or base r 0) (write + s)) (unchanged r m (omega arith))
              | inr h ↦ let e : n ≡ r = omega arith in
                  subst P e (fresh_here rows row (suc m) ∙ next.some_free m some ∙ ap (λ s. min (get_or base n 0) (write + s)) (same m some ∙ unchanged n m (omega arith)))
            ];
        is_held = λ r m lt some.
            let P : ℕ → Type 0 = λ r. held_in (rows ++ row ∷ []) r m ≡ read + min (get_or base r 0) (least_split forward (λ q. fresh_in (rows ++ row ∷ []) q m) (λ q. held_in (rows ++ row ∷ []) q m) r r) in
            elim (cases_lt r n) [
              | inl h ↦ held_before rows (row ∷ []) r m h ∙ are.level.is_held r m h some ∙ ap (λ s. read + min (get_or base r 0) s) (unchanged r m (omega arith))
              | inr h ↦ let e : n ≡ r = omega arith in
                  subst P e (held_here rows row m ∙ next.is_held m some ∙ ap (λ s. read + min (get_or base n 0) s) (same m some ∙ unchanged n m (omega arith)))
            ];
      };
    }
  where
    one_shape : IsRow room row → All (IsRow room) (row ∷ [])
    one_shape is zero d h = is
    one_shape is (suc k) d h = absurd (omega arith)

-- a row with the numbers of one slot more
pub row_more : (n write read base x y : ℕ) (split : ℕ → ℕ) (old new : Row) → IsNextRow n write read base split old →
    new.fresh.items ≡ old.fresh.items ++ x ∷ [] → new.held.items ≡ old.held.items ++ y ∷ [] →
    x ≡ min base (write + split n) → y ≡ read + min base (split n) → base ≤ 2 ^ 61 → read < 2 ^ 32 → IsNextRow (n + 1) write read base split new
row_more n write read base x y split old new is fresh held ex ey low cheap =
    let f = pushed old.fresh.items new.fresh.items x (n + 1) fresh is.shape.fresh_wide in
    let h = pushed old.held.items new.held.items y n held is.shape.held_wide in
    record {
      shape = record {
        fresh_wide = f.longer;
        held_wide = h.longer;
        fresh_low = All-pushed (2 ^ 61) old.fresh.items new.fresh.items x fresh is.shape.fresh_low (omega arith);
        held_low = All-pushed (2 ^ 62) old.held.items new.held.items y held is.shape.held_low (omega arith);
      };
      none_free = f.before 0 (omega arith) ∙ is.none_free;
      some_free = λ m lt.
          let P : ℕ → Type 0 = λ m. get_or new.fresh.items (suc m) 0 ≡ min base (write + split m) in
          elim (cases_lt m n) [
            | inl h ↦ f.before (suc m) (omega arith) ∙ is.some_free m h
            | inr h ↦ let e : n ≡ m = omega arith in subst P e (ap (λ k. get_or new.fresh.items k 0) (sym (add-one n)) ∙ f.here ∙ ex)
          ];
      is_held = λ m lt.
          let P : ℕ → Type 0 = λ m. get_or new.held.items m 0 ≡ read + min base (split m) in
          elim (cases_lt m n) [
            | inl lt' ↦ h.before m lt' ∙ is.is_held m lt'
            | inr ge ↦ let e : n ≡ m = omega arith in subst P e (h.here ∙ ey)
          ];
    }
