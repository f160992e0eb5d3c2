-- There are greatest tables, in whole rows.
use Rattle.std.proofs.Common.{◌≡◌, ℕ, suc, ◌+◌, ◌-◌, ◌*◌, ◌<◌, ◌≤◌, List, [], map, length, get_or, slice_index_or, refl, sym, ap, ◌∙◌, subst, arith}
use Rattle.std.specs.List.{range_with_len}
use Rattle.std.proofs.lemmas.List.FromFn.{length-map-range_with_len, get_or-map-range_with_len}
use Rattle.level_book.specs.declared.book.Slots.TheVariants.{Count}
use Rattle.level_book.specs.BookCosts.{BookCosts, slots_of, room}
use Rattle.level_book.specs.UnderTable.{Entry, number, Tables, IsAtMost, IsUnderTable, IsGreatest, sum_of, write_cost, read_cost}
use Rattle.cost_tables.specs.TableRows.{TableRows, AreFor, tables_in, entry_at}
use Rattle.cost_tables.specs.Shapes.{AreShaped}
use Rattle.cost_tables.specs.Levels.{tables_of}
use Rattle.cost_tables.specs.Laws.{GreatestExist}
use Rattle.cost_tables.proofs.AllLevels.{room_le}
use Rattle.cost_tables.proofs.Recurrences.{worked_out_greatest}

-- ---- tables in whole rows

-- what a function gives at each number below n
abbrev pub made : {X : Type 0} → ℕ → (ℕ → X) → List X
made n f = map f (range_with_len 0 n)

pub made_at : {X : Type 0} (n i : ℕ) (f : ℕ → X) (d : X) → i < n → get_or (made n f) i d ≡ f i
made_at n i f d low = get_or-map-range_with_len f 0 n i i d low (omega arith)

pub made_long : {X : Type 0} (n : ℕ) (f : ℕ → X) → length (made n f) ≡ n
made_long n f = length-map-range_with_len f 0 n

-- the entries of so many levels and steps, as many in a row as it is wide
abbrev pub made_rows : ℕ → ℕ → (ℕ → ℕ) → (ℕ → ℕ → ℕ → Entry) → List (List (List Entry))
made_rows levels steps wide f = made levels (λ k. made steps (λ r. made (wide k) (λ m. f k (r + 1) m)))

level_at : (levels steps : ℕ) (wide : ℕ → ℕ) (f : ℕ → ℕ → ℕ → Entry) (k : ℕ) → k < levels → get_or (made_rows levels steps wide f) k [] ≡ made steps (λ r. made (wide k) (λ m. f k (r + 1) m))
level_at levels steps wide f k low = made_at levels k (λ k. made steps (λ r. made (wide k) (λ m. f k (r + 1) m))) [] low

row_at : (levels steps : ℕ) (wide : ℕ → ℕ) (f : ℕ → ℕ → ℕ → Entry) (k r : ℕ) → k < levels → r < steps → get_or (get_or (made_rows levels steps wide f) k []) r [] ≡ made (wide k) (λ m. f k (r + 1) m)
row_at levels steps wide f k r low few =
    ap (λ (rows : List (List Entry)). get_or rows r []) (level_at levels steps wide f k low)
    ∙ made_at steps r (λ r. made (wide k) (λ m. f k (r + 1) m)) [] few

pub entry_made : (levels steps : ℕ) (wide : ℕ → ℕ) (f : ℕ → ℕ → ℕ → Entry) (k l m : ℕ) → k < levels → 1 ≤ l → l ≤ steps → m < wide k → entry_at (made_rows levels steps wide f) k (l - 1) m ≡ f k l m
entry_made levels steps wide f k l m low one few within =
    let e : l - 1 + 1 ≡ l = omega arith in
    ap (λ (row : List Entry). get_or row m (number 0)) (row_at levels steps wide f k (l - 1) low (omega arith))
    ∙ made_at (wide k) m (λ m. f k (l - 1 + 1) m) (number 0) within
    ∙ ap (λ n. f k n m) e

-- ---- what holds of tables holds of others with the same entries

along : (a a' b b' : Entry) → a' ≡ a → b' ≡ b → IsAtMost a b → IsAtMost a' b'
along a a' b b' p q h = subst (λ x. IsAtMost x b') (sym p) (subst (λ y. IsAtMost a y) (sym q) h)

-- a level with room has steps
some_step : (steps : ℕ) (book : BookCosts) (k m : ℕ) → m < room book k steps → 1 ≤ steps
some_step steps book k m lt = let within = room_le steps (slice_index_or (slots_of book) k (Count 0)) in omega arith

module _ (steps : ℕ) (book : BookCosts) (s t : Tables)
    (fresh : (k l m : ℕ) → k < length book.levels → 1 ≤ l → l ≤ steps → m ≤ room book k steps → t.fresh k l m ≡ s.fresh k l m)
    (held : (k l m : ℕ) → k < length book.levels → 1 ≤ l → l ≤ steps → m < room book k steps → t.held k l m ≡ s.held k l m)
    (is : IsGreatest steps book s) where
  under_too : IsUnderTable steps book t
  under_too = record {
    one_fresh = λ k m some known le.
        let n = number (book.forward + book.reverse) in
        along (s.fresh k 1 m) (t.fresh k 1 m) n n (fresh k 1 m known (omega arith) some le) refl (is.under.one_fresh k m some known le);
    faster_fresh = λ k l m known pos le some.
        along (s.fresh (suc k) l m) (t.fresh (suc k) l m) (s.fresh k l (room book k steps)) (t.fresh k l (room book k steps))
        (fresh (suc k) l m known pos le some) (fresh k l (room book k steps) (omega arith) pos le (omega arith)) (is.under.faster_fresh k l m known pos le some);
    split_fresh = λ k j l m known hj hl le some.
        let n = write_cost book k + j * book.forward in
        along (s.fresh k (j + l) (suc m)) (t.fresh k (j + l) (suc m)) (sum_of n (s.fresh k l m) (s.held k j m)) (sum_of n (t.fresh k l m) (t.held k j m))
        (fresh k (j + l) (suc m) known (omega arith) le some)
        (λ i. sum_of n (fresh k l m known hl (omega arith) (omega arith) i) (held k j m known hj (omega arith) (omega arith) i)) (is.under.split_fresh k j l m known hj hl le some);
    stored_fresh = λ k l m known pos le some.
        let n = write_cost book k in
        along (s.fresh k l (suc m)) (t.fresh k l (suc m)) (sum_of n (number 0) (s.held k l m)) (sum_of n (number 0) (t.held k l m))
        (fresh k l (suc m) known pos le some) (ap (sum_of n (number 0)) (held k l m known pos le (omega arith))) (is.under.stored_fresh k l m known pos le some);
    one_held = λ k m known some.
        let n = number (read_cost book k + book.forward + book.reverse) in
        along (s.held k 1 m) (t.held k 1 m) n n (held k 1 m known (omega arith) (some_step steps book k m some) some) refl (is.under.one_held k m known some);
    faster_held = λ k l m known pos le some.
        let n = read_cost book (suc k) in
        along (s.held (suc k) l m) (t.held (suc k) l m) (sum_of n (number 0) (s.fresh k l (room book k steps))) (sum_of n (number 0) (t.fresh k l (room book k steps)))
        (held (suc k) l m known pos le some) (ap (sum_of n (number 0)) (fresh k l (room book k steps) (omega arith) pos le (omega arith))) (is.under.faster_held k l m known pos le some);
    split_held = λ k j l m known hj hl le some.
        let n = read_cost book k + j * book.forward in
        along (s.held k (j + l) m) (t.held k (j + l) m) (sum_of n (s.fresh k l m) (s.held k j m)) (sum_of n (t.fresh k l m) (t.held k j m))
        (held k (j + l) m known (omega arith) le some)
        (λ i. sum_of n (fresh k l m known hl (omega arith) (omega arith) i) (held k j m known hj (omega arith) some i)) (is.under.split_held k j l m known hj hl le some);
  }

  pub greatest_too : IsGreatest steps book t
  greatest_too = record {
    under = under_too;
    fresh = λ u under k l m known one le some. subst (λ e. IsAtMost (u.fresh k l m) e) (sym (fresh k l m known one le some)) (is.fresh u under k l m known one le some);
    held = λ u under k l m known one le some. subst (λ e. IsAtMost (u.held k l m) e) (sym (held k l m known one le some)) (is.held u under k l m known one le some);
  }

-- ---- there are greatest ones

module _ (steps : ℕ) (book : BookCosts) (s : Tables) where
  abbrev count : ℕ
  count = length book.levels

  abbrev pub rows_made : TableRows
  rows_made = record {
    steps = steps;
    rooms = made (length book.levels) (λ k. room book k steps);
    fresh = made_rows (length book.levels) steps (λ k. room book k steps + 1) s.fresh;
    held = made_rows (length book.levels) steps (λ k. room book k steps) s.held;
  }

  pub sized : AreFor steps book rows_made
  sized = record {
    steps_are = refl;
    level_count = made_long count (λ k. room book k steps);
    rooms_are = λ k known. made_at count k (λ k. room book k steps) 0 known;
  }

  known_of : (k : ℕ) → k < length rows_made.rooms → k < length book.levels
  known_of k low = omega (arith, low, made_long count (λ k. room book k steps))

  pub shaped : AreShaped rows_made
  shaped = record {
    fresh_levels = made_long count (λ k. made steps (λ r. made (room book k steps + 1) (λ m. s.fresh k (r + 1) m))) ∙ sym (made_long count (λ k. room book k steps));
    held_levels = made_long count (λ k. made steps (λ r. made (room book k steps) (λ m. s.held k (r + 1) m))) ∙ sym (made_long count (λ k. room book k steps));
    fresh_rows = λ k low.
        ap (λ (rows : List (List Entry)). length rows) (level_at count steps (λ k. room book k steps + 1) s.fresh k (known_of k low)) ∙ made_long steps (λ r. made (room book k steps + 1) (λ m. s.fresh k (r + 1) m));
    held_rows = λ k low.
        ap (λ (rows : List (List Entry)). length rows) (level_at count steps (λ k. room book k steps) s.held k (known_of k low)) ∙ made_long steps (λ r. made (room book k steps) (λ m. s.held k (r + 1) m));
    fresh_entries = λ k r low few.
        ap (λ (row : List Entry). length row) (row_at count steps (λ k. room book k steps + 1) s.fresh k r (known_of k low) few)
        ∙ made_long (room book k steps + 1) (λ m. s.fresh k (r + 1) m) ∙ ap (λ n. n + 1) (sym (made_at count k (λ k. room book k steps) 0 (known_of k low)));
    held_entries = λ k r low few.
        ap (λ (row : List Entry). length row) (row_at count steps (λ k. room book k steps) s.held k r (known_of k low) few)
        ∙ made_long (room book k steps) (λ m. s.held k (r + 1) m) ∙ sym (made_at count k (λ k. room book k steps) 0 (known_of k low));
  }

  pub greatest_made : IsGreatest steps book s → IsGreatest steps book (tables_in rows_made)
  greatest_made is =
      greatest_too steps book s (tables_in rows_made)
      (λ k l m known one le some. entry_made count steps (λ k. room book k steps + 1) s.fresh k l m known one le (omega arith))
      (λ k l m known one le some. entry_made count steps (λ k. room book k steps) s.held k l m known one le some) is

pub greatest_exist : (steps : ℕ) (book : BookCosts) → GreatestExist steps book
greatest_exist steps book few limits =
    let out = worked_out_greatest steps book few limits in
    let s = tables_of out.0 out.1 in
    (rows_made steps book s, sized steps book s, shaped steps book s, greatest_made steps book s out.2)
