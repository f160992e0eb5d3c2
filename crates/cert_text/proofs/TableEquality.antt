-- Tables with whole rows: those of the same steps and rooms, with the same entries, are the same.
use Rattle.std.proofs.Common.{◌≡◌, ℕ, suc, ◌+◌, ◌-◌, ◌<◌, ◌≤◌, List, [], ◌∷◌, length, map, get_or, refl, sym, ap, subst, ◌∙◌, arith}
use Rattle.std.specs.List.{range_with_len}
use Rattle.std.proofs.lemmas.List.FromFn.{length-map-range_with_len, get_or-map-range_with_len}
use Rattle.level_book.specs.UnderTable.{Entry, number}
use Rattle.cost_tables.specs.TableRows.{TableRows, entry_at, tables_in}
use Rattle.cost_tables.specs.Shapes.{AreShaped}

-- ---- rows with these entries

abbrev pub rows_with : ℕ → ℕ → (ℕ → ℕ) → (ℕ → ℕ → ℕ → Entry) → List (List (List Entry))
rows_with steps levels count e = map (λ k. map (λ r. map (λ m. e k m (r + 1)) (range_with_len 0 (count k))) (range_with_len 0 steps)) (range_with_len 0 levels)

-- there is a row for each number of steps, and an entry for each number of free slots
pub record AreWholeRows (levels steps : ℕ) (wide : ℕ → ℕ) (rows : List (List (List Entry))) : Type 0 where
  pub levels_long : length rows ≡ levels
  pub rows_long : (k : ℕ) → k < levels → length (get_or rows k []) ≡ steps
  pub entries_long : (k r : ℕ) → k < levels → r < steps → length (get_or (get_or rows k []) r []) ≡ wide k

pub rows_whole : (steps levels : ℕ) (count : ℕ → ℕ) (e : ℕ → ℕ → ℕ → Entry) → AreWholeRows levels steps count (rows_with steps levels count e)
rows_whole steps levels count e = record {
  levels_long = length-map-range_with_len level 0 levels;
  rows_long = λ k low. ap (λ (rows : List (List Entry)). length rows) (level_at k low) ∙ length-map-range_with_len (row k) 0 steps;
  entries_long = λ k r low within.
      ap (λ (rows : List (List Entry)). length (get_or rows r [])) (level_at k low)
      ∙ ap (λ (es : List Entry). length es) (get_or-map-range_with_len (row k) 0 steps r r [] within (omega arith))
      ∙ length-map-range_with_len (λ m. e k m (r + 1)) 0 (count k);
}
  where
    row : ℕ → ℕ → List Entry
    row k r = map (λ m. e k m (r + 1)) (range_with_len 0 (count k))

    level : ℕ → List (List Entry)
    level k = map (row k) (range_with_len 0 steps)

    level_at : (k : ℕ) → k < levels → get_or (map level (range_with_len 0 levels)) k [] ≡ level k
    level_at k low = get_or-map-range_with_len level 0 levels k k [] low (omega arith)

-- ---- the same entries

pub same_by : {A : Type 0} (e : A) (x y : List A) → length x ≡ length y → ((k : ℕ) → k < length x → get_or x k e ≡ get_or y k e) → x ≡ y
same_by e [] [] long same = refl
same_by e [] (b ∷ y) long same = absurd (omega arith)
same_by e (a ∷ x) [] long same = absurd (omega arith)
same_by e (a ∷ x) (b ∷ y) long same =
    let here : a ≡ b = same 0 (omega arith) in
    let later = same_by e x y (omega arith) (λ k low. same (suc k) (omega arith)) in
    λ i. here i ∷ later i

one_list : (x y : List (List (List Entry))) (levels steps : ℕ) (wide : ℕ → ℕ) → AreWholeRows levels steps wide x → AreWholeRows levels steps wide y →
    ((k r m : ℕ) → k < levels → r < steps → m < wide k → entry_at x k r m ≡ entry_at y k r m) → x ≡ y
one_list x y levels steps wide a b same =
    same_by [] x y (a.levels_long ∙ sym b.levels_long)
    (λ k low.
    let in_levels : k < levels = omega (arith, a.levels_long) in
    same_by [] (get_or x k []) (get_or y k []) (a.rows_long k in_levels ∙ sym (b.rows_long k in_levels))
    (λ r within.
    let in_steps : r < steps = omega (arith, a.rows_long k in_levels) in
    same_by (number 0) (get_or (get_or x k []) r []) (get_or (get_or y k []) r []) (a.entries_long k r in_levels in_steps ∙ sym (b.entries_long k r in_levels in_steps))
    (λ m free. let in_room : m < wide k = omega (arith, a.entries_long k r in_levels in_steps) in same k r m in_levels in_steps in_room)))

-- tables of the same steps and rooms, with the same entries
pub record AreSameTables (s t : TableRows) : Type 0 where
  pub steps : s.steps ≡ t.steps
  pub rooms : s.rooms ≡ t.rooms
  pub fresh : (k m l : ℕ) → k < length s.rooms → m ≤ get_or s.rooms k 0 → 1 ≤ l → l ≤ s.steps → (tables_in s).fresh k l m ≡ (tables_in t).fresh k l m
  pub held : (k m l : ℕ) → k < length s.rooms → m < get_or s.rooms k 0 → 1 ≤ l → l ≤ s.steps → (tables_in s).held k l m ≡ (tables_in t).held k l m

fresh_whole : (s t : TableRows) → AreShaped t → s.steps ≡ t.steps → s.rooms ≡ t.rooms → AreWholeRows (length s.rooms) s.steps (λ k. get_or s.rooms k 0 + 1) t.fresh
fresh_whole s t shaped steps rooms =
    let P : ℕ → List ℕ → Type 0 = λ n r. AreWholeRows (length r) n (λ k. get_or r k 0 + 1) t.fresh in
    let here : P t.steps t.rooms = record { levels_long = shaped.fresh_levels; rows_long = shaped.fresh_rows; entries_long = shaped.fresh_entries } in
    subst (λ (n : ℕ). P n s.rooms) (sym steps) (subst (λ (r : List ℕ). P t.steps r) (sym rooms) here)

held_whole : (s t : TableRows) → AreShaped t → s.steps ≡ t.steps → s.rooms ≡ t.rooms → AreWholeRows (length s.rooms) s.steps (λ k. get_or s.rooms k 0) t.held
held_whole s t shaped steps rooms =
    let P : ℕ → List ℕ → Type 0 = λ n r. AreWholeRows (length r) n (λ k. get_or r k 0) t.held in
    let here : P t.steps t.rooms = record { levels_long = shaped.held_levels; rows_long = shaped.held_rows; entries_long = shaped.held_entries } in
    subst (λ (n : ℕ). P n s.rooms) (sym steps) (subst (λ (r : List ℕ). P t.steps r) (sym rooms) here)

pub one_table : (s t : TableRows) → AreShaped s → AreShaped t → AreSameTables s t → s ≡ t
one_table s t a b same =
    let fresh : s.fresh ≡ t.fresh =
    one_list s.fresh t.fresh (length s.rooms) s.steps (λ k. get_or s.rooms k 0 + 1) (fresh_whole s s a refl refl) (fresh_whole s t b same.steps same.rooms)
    (λ k r m low within free.
    let e : (r + 1) - 1 ≡ r = omega arith in
    subst (λ (q : ℕ). entry_at s.fresh k q m ≡ entry_at t.fresh k q m) e (same.fresh k m (r + 1) low (omega arith) (omega arith) (omega arith))) in
    let held : s.held ≡ t.held =
    one_list s.held t.held (length s.rooms) s.steps (λ k. get_or s.rooms k 0) (held_whole s s a refl refl) (held_whole s t b same.steps same.rooms)
    (λ k r m low within free.
    let e : (r + 1) - 1 ≡ r = omega arith in
    subst (λ (q : ℕ). entry_at s.held k q m ≡ entry_at t.held k q m) e (same.held k m (r + 1) low free (omega arith) (omega arith))) in
    λ i. record { steps = same.steps i; rooms = same.rooms i; fresh = fresh i; held = held i }
