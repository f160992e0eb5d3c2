-- Tables over the levels of a book, and the lines that say them.
use Rattle.std.proofs.Common.{◌≡◌, ◌⊎◌, ℕ, zero, suc, ◌+◌, ◌-◌, ◌<◌, ◌≤◌, List, [], ◌∷◌, ◌++◌, length, map, get_or, refl, sym, ap, subst, ◌∙◌, inl, inr, arith}
use Rattle.std.specs.Prelude.{codes}
use Rattle.std.specs.List.{range_with_len, flat_map}
use Rattle.std.proofs.lemmas.Bool.{cases_lt}
use Rattle.std.proofs.lemmas.List.{same_lists}
use Rattle.std.proofs.lemmas.List.FromFn.{length-map-range_with_len, get_or-map-range_with_len}
use Rattle.level_book.specs.BookCosts.{BookCosts, room}
use Rattle.level_book.specs.UnderTable.{Entry, number}
use Rattle.cost_tables.specs.TableRows.{TableRows, AreFor, TablesFit, tables_in}
use Rattle.cost_tables.specs.Shapes.{AreShaped}
use Rattle.cert_text.specs.WordLines.{row_lines, level_lines}
use Rattle.cert_text.specs.Meaning.{HasWord, HaveTables}
use Rattle.cert_text.specs.Grammar.{level_wants}
use Rattle.cert_text.proofs.TableEquality.{rows_with, rows_whole, AreSameTables, one_table}
use Rattle.cert_text.proofs.Ranges.{flat_same, flat_parts, same_parts}
use Rattle.cert_text.proofs.EntryLines.{some_wants, some_lines, same_rows, one_rows, rows_long}
use Rattle.std.proofs.Common.{length-append}

-- ---- by the rooms of the book

pub level_said : (steps : ℕ) (book : BookCosts) (t : TableRows) (k : ℕ) → AreFor steps book t → k < length book.levels →
    level_lines t k ≡ some_lines steps (λ k. room book k steps) (λ k m l. (tables_in t).fresh k l m) (λ k m l. (tables_in t).held k l m) k
unfolding level_lines
level_said steps book t k sized low =
    let r = sized.rooms_are k low in
    λ i. row_lines (codes "F") k (sized.steps_are i) (r i + 1) (λ m l. (tables_in t).fresh k l m) ++ row_lines (codes "H") k (sized.steps_are i) (r i) (λ m l. (tables_in t).held k l m)

pub all_levels_said : (steps : ℕ) (book : BookCosts) (t : TableRows) → AreFor steps book t →
    flat_map (level_lines t) (range_with_len 0 (length t.rooms))
    ≡ flat_map (some_lines steps (λ k. room book k steps) (λ k m l. (tables_in t).fresh k l m) (λ k m l. (tables_in t).held k l m)) (range_with_len 0 (length book.levels))
all_levels_said steps book t sized =
    ap (λ (n : ℕ). flat_map (level_lines t) (range_with_len 0 n)) sized.level_count
    ∙ flat_same (level_lines t) (some_lines steps (λ k. room book k steps) (λ k m l. (tables_in t).fresh k l m) (λ k m l. (tables_in t).held k l m)) 0 (length book.levels)
    (λ k low high. level_said steps book t k sized (omega arith))

pub wants_are : (steps : ℕ) (book : BookCosts) (n : ℕ) → flat_map (level_wants steps book) (range_with_len 0 n) ≡ flat_map (some_wants steps (λ k. room book k steps)) (range_with_len 0 n)
unfolding level_wants
wants_are steps book n = refl

-- ---- tables with these entries

pub made : ℕ → ℕ → (ℕ → ℕ) → (ℕ → ℕ → ℕ → Entry) → (ℕ → ℕ → ℕ → Entry) → TableRows
made steps levels room fresh held = record {
  steps = steps;
  rooms = map room (range_with_len 0 levels);
  fresh = rows_with steps levels (λ k. room k + 1) fresh;
  held = rows_with steps levels room held;
}

entry_made : (steps levels : ℕ) (count : ℕ → ℕ) (e : ℕ → ℕ → ℕ → Entry) (k l m : ℕ) → k < levels → 1 ≤ l → l ≤ steps → m < count k →
    get_or (get_or (get_or (map (λ k. map (λ r. map (λ m. e k m (r + 1)) (range_with_len 0 (count k))) (range_with_len 0 steps)) (range_with_len 0 levels)) k []) (l - 1) []) m (number 0) ≡ e k m l
entry_made steps levels count e k l m in_levels low high in_room =
    let row : ℕ → List (List Entry) = λ k. map (λ r. map (λ m. e k m (r + 1)) (range_with_len 0 (count k))) (range_with_len 0 steps) in
    let at_k : get_or (map row (range_with_len 0 levels)) k [] ≡ row k = get_or-map-range_with_len row 0 levels k k [] in_levels (omega arith) in
    let at_l : get_or (row k) (l - 1) [] ≡ map (λ m. e k m ((l - 1) + 1)) (range_with_len 0 (count k)) =
    get_or-map-range_with_len (λ r. map (λ m. e k m (r + 1)) (range_with_len 0 (count k))) 0 steps (l - 1) (l - 1) [] (omega arith) (omega arith) in
    let at_m : get_or (map (λ m. e k m ((l - 1) + 1)) (range_with_len 0 (count k))) m (number 0) ≡ e k m ((l - 1) + 1) =
    get_or-map-range_with_len (λ m. e k m ((l - 1) + 1)) 0 (count k) m m (number 0) in_room (omega arith) in
    let back : (l - 1) + 1 ≡ l = omega arith in
    ap (λ (rows : List (List Entry)). get_or (get_or rows (l - 1) []) m (number 0)) at_k ∙ ap (λ (row : List Entry). get_or row m (number 0)) at_l ∙ at_m ∙ ap (e k m) back

pub made_fresh : (steps levels : ℕ) (room : ℕ → ℕ) (fresh held : ℕ → ℕ → ℕ → Entry) (k l m : ℕ) → k < levels → 1 ≤ l → l ≤ steps → m ≤ room k → (tables_in (made steps levels room fresh held)).fresh k l m ≡ fresh k m l
unfolding made
made_fresh steps levels room fresh held k l m in_levels low high in_room = entry_made steps levels (λ k. room k + 1) fresh k l m in_levels low high (omega arith)

pub made_held : (steps levels : ℕ) (room : ℕ → ℕ) (fresh held : ℕ → ℕ → ℕ → Entry) (k l m : ℕ) → k < levels → 1 ≤ l → l ≤ steps → m < room k → (tables_in (made steps levels room fresh held)).held k l m ≡ held k m l
unfolding made
made_held steps levels room fresh held k l m in_levels low high in_room = entry_made steps levels room held k l m in_levels low high in_room

pub made_for : (steps : ℕ) (book : BookCosts) (fresh held : ℕ → ℕ → ℕ → Entry) → AreFor steps book (made steps (length book.levels) (λ k. room book k steps) fresh held)
unfolding made
made_for steps book fresh held = record {
  steps_are = refl;
  level_count = length-map-range_with_len (λ k. room book k steps) 0 (length book.levels);
  rooms_are = λ k low. get_or-map-range_with_len (λ k. room book k steps) 0 (length book.levels) k k 0 low (omega arith);
}

made_shaped : (steps levels : ℕ) (room : ℕ → ℕ) (fresh held : ℕ → ℕ → ℕ → Entry) → AreShaped (made steps levels room fresh held)
unfolding made
made_shaped steps levels room fresh held =
    let f = rows_whole steps levels (λ k. room k + 1) fresh in
    let h = rows_whole steps levels room held in
    let count : length (map room (range_with_len 0 levels)) ≡ levels = length-map-range_with_len room 0 levels in
    let room_at : (k : ℕ) → k < levels → room k ≡ get_or (map room (range_with_len 0 levels)) k 0 = λ k low. sym (get_or-map-range_with_len room 0 levels k k 0 low (omega arith)) in
    record {
      fresh_levels = f.levels_long ∙ sym count;
      held_levels = h.levels_long ∙ sym count;
      fresh_rows = λ k low. f.rows_long k (omega (arith, count));
      held_rows = λ k low. h.rows_long k (omega (arith, count));
      fresh_entries = λ k r low within. let in_levels : k < levels = omega (arith, count) in f.entries_long k r in_levels within ∙ ap (λ (n : ℕ). n + 1) (room_at k in_levels);
      held_entries = λ k r low within. let in_levels : k < levels = omega (arith, count) in h.entries_long k r in_levels within ∙ room_at k in_levels;
    }

pub made_said : (steps : ℕ) (book : BookCosts) (fresh held : ℕ → ℕ → ℕ → Entry) → let t = made steps (length book.levels) (λ k. room book k steps) fresh held in
    flat_map (level_lines t) (range_with_len 0 (length t.rooms)) ≡ flat_map (some_lines steps (λ k. room book k steps) fresh held) (range_with_len 0 (length book.levels))
made_said steps book fresh held =
    let t = made steps (length book.levels) (λ k. room book k steps) fresh held in
    let sized = made_for steps book fresh held in
    all_levels_said steps book t sized
    ∙ flat_same (some_lines steps (λ k. room book k steps) (λ k m l. (tables_in t).fresh k l m) (λ k m l. (tables_in t).held k l m)) (some_lines steps (λ k. room book k steps) fresh held) 0 (length book.levels)
    (λ k low high. let here : k < length book.levels = omega arith in
    let f = same_rows (codes "F") k steps (room book k steps + 1) (λ m l. (tables_in t).fresh k l m) (fresh k)
    (λ m l in_room low high. made_fresh steps (length book.levels) (λ k. room book k steps) fresh held k l m here low high (omega arith)) in
    let h = same_rows (codes "H") k steps (room book k steps) (λ m l. (tables_in t).held k l m) (held k)
    (λ m l in_room low high. made_held steps (length book.levels) (λ k. room book k steps) fresh held k l m here low high in_room) in
    (λ i. f i ++ h i))

pub made_text : (steps : ℕ) (book : BookCosts) (fresh held : ℕ → ℕ → ℕ → Entry) → ((k m l : ℕ) → HasWord (fresh k m l)) → ((k m l : ℕ) → HasWord (held k m l)) →
    HaveTables steps book (made steps (length book.levels) (λ k. room book k steps) fresh held)
made_text steps book fresh held fs hs =
    let t = made steps (length book.levels) (λ k. room book k steps) fresh held in
    let sized = made_for steps book fresh held in
    record {
      sized = sized;
      shaped = made_shaped steps (length book.levels) (λ k. room book k steps) fresh held;
      words = λ k low.
          let here : k < length book.levels = omega (arith, sized.level_count) in
          record {
            fresh = λ m l in_room least most. subst HasWord (sym (made_fresh steps (length book.levels) (λ k. room book k steps) fresh held k l m here least (omega (arith, sized.steps_are)) (omega (arith, sized.rooms_are k here)))) (fs k m l);
            held = λ m l in_room least most. subst HasWord (sym (made_held steps (length book.levels) (λ k. room book k steps) fresh held k l m here least (omega (arith, sized.steps_are)) (omega (arith, sized.rooms_are k here)))) (hs k m l);
          };
    }

pub fresh_words : (steps : ℕ) (book : BookCosts) (t : TableRows) (k m l : ℕ) → HaveTables steps book t → k < length book.levels → m ≤ room book k steps → 1 ≤ l → l ≤ steps → HasWord ((tables_in t).fresh k l m)
fresh_words steps book t k m l has low in_room least most =
    let there : k < length t.rooms = omega (arith, has.sized.level_count) in
    (has.words k there).fresh m l (omega (arith, has.sized.rooms_are k low)) least (omega (arith, has.sized.steps_are))

pub held_words : (steps : ℕ) (book : BookCosts) (t : TableRows) (k m l : ℕ) → HaveTables steps book t → k < length book.levels → m < room book k steps → 1 ≤ l → l ≤ steps → HasWord ((tables_in t).held k l m)
held_words steps book t k m l has low in_room least most =
    let there : k < length t.rooms = omega (arith, has.sized.level_count) in
    (has.words k there).held m l (omega (arith, has.sized.rooms_are k low)) least (omega (arith, has.sized.steps_are))

-- ---- tables are for these steps and levels alone

-- whether tables fit
pub fits_or_not : (steps : ℕ) (book : BookCosts) → TablesFit steps book ⊎ (TablesFit steps book → ⊥)
fits_or_not steps book = elim (cases_lt 2048 steps) [
  | inl many ↦ inr (λ fits. omega (arith, fits.few))
  | inr few ↦ elim (narrow_or_not (length book.levels)) [
    | inl narrow ↦ inl (record { few = few; narrow = narrow })
    | inr wide ↦ inr (λ fits. wide fits.narrow)
  ]
]
  where
    narrow_or_not : (n : ℕ) → ((k : ℕ) → k < n → room book k steps ≤ 64) ⊎ (((k : ℕ) → k < n → room book k steps ≤ 64) → ⊥)
    narrow_or_not zero = inl (λ k low. absurd (omega arith))
    narrow_or_not (suc n) = elim (cases_lt 64 (room book n steps)) [
      | inl wide ↦ inr (λ all. omega (arith, all n (omega arith)))
      | inr here ↦ elim (narrow_or_not n) [
        | inl below ↦ inl (λ k low. elim (cases_lt k n) [ inl before ↦ below k before | inr at ↦ let is : n ≡ k = omega arith in subst (λ (j : ℕ). room book j steps ≤ 64) is here ])
        | inr wide ↦ inr (λ all. wide (λ k low. all k (omega arith)))
      ]
    ]

get_or_any : (xs : List ℕ) (k c d : ℕ) → k < length xs → get_or xs k c ≡ get_or xs k d
get_or_any [] k c d low = absurd (omega arith)
get_or_any (x ∷ xs) zero c d low = refl
get_or_any (x ∷ xs) (suc k) c d low = get_or_any xs k c d (omega arith)

level_long : (steps : ℕ) (count : ℕ → ℕ) (fresh held : ℕ → ℕ → ℕ → Entry) (k : ℕ) → length (some_lines steps count fresh held k) ≡ (count k + 1) + count k
level_long steps count fresh held k =
    length-append (row_lines (codes "F") k steps (count k + 1) (fresh k)) (row_lines (codes "H") k steps (count k) (held k))
    ∙ (λ i. rows_long (codes "F") k steps (count k + 1) (fresh k) i + rows_long (codes "H") k steps (count k) (held k) i)

abbrev fresh_of : TableRows → ℕ → ℕ → ℕ → Entry
fresh_of t k m l = (tables_in t).fresh k l m

abbrev held_of : TableRows → ℕ → ℕ → ℕ → Entry
held_of t k m l = (tables_in t).held k l m

same_entries : (steps : ℕ) (book : BookCosts) (s t : TableRows) (y z : List (List (List ℕ))) → HaveTables steps book s → HaveTables steps book t →
    flat_map (level_lines s) (range_with_len 0 (length s.rooms)) ++ y ≡ flat_map (level_lines t) (range_with_len 0 (length t.rooms)) ++ z → AreSameTables s t
same_entries steps book s t y z a b e = record {
  steps = a.sized.steps_are ∙ sym b.sized.steps_are;
  rooms = same_lists s.rooms t.rooms (a.sized.level_count ∙ sym b.sized.level_count) (λ k d low. rooms_at k d low);
  fresh = λ k m l in_levels in_room low high.
      let here : k < length book.levels = omega (arith, a.sized.level_count) in
      let within : m < room book k steps + 1 = omega (arith, a.sized.rooms_are k here) in
      let most : l ≤ steps = omega (arith, a.sized.steps_are) in
      let there : k < length t.rooms = omega (arith, b.sized.level_count) in
      one_rows (codes "F") k steps (room book k steps + 1) m l (fresh_of s k) (fresh_of t k) (level_parts k here).0 within low most
      ((a.words k in_levels).fresh m l in_room low high)
      ((b.words k there).fresh m l (omega (arith, b.sized.rooms_are k here)) low (omega (arith, b.sized.steps_are)));
  held = λ k m l in_levels in_room low high.
      let here : k < length book.levels = omega (arith, a.sized.level_count) in
      let within : m < room book k steps = omega (arith, a.sized.rooms_are k here) in
      let most : l ≤ steps = omega (arith, a.sized.steps_are) in
      let there : k < length t.rooms = omega (arith, b.sized.level_count) in
      one_rows (codes "H") k steps (room book k steps) m l (held_of s k) (held_of t k) (level_parts k here).1 within low most
      ((a.words k in_levels).held m l in_room low high)
      ((b.words k there).held m l (omega (arith, b.sized.rooms_are k here)) low (omega (arith, b.sized.steps_are)));
}
  where
    rooms_at : (k d : ℕ) → k < length s.rooms → get_or s.rooms k d ≡ get_or t.rooms k d
    rooms_at k d low =
        let here : k < length book.levels = omega (arith, a.sized.level_count) in
        let there : k < length t.rooms = omega (arith, b.sized.level_count) in
        get_or_any s.rooms k d 0 low ∙ a.sized.rooms_are k here ∙ sym (b.sized.rooms_are k here) ∙ get_or_any t.rooms k 0 d there

    level_parts : (k : ℕ) → k < length book.levels → (row_lines (codes "F") k steps (room book k steps + 1) (fresh_of s k) ≡ row_lines (codes "F") k steps (room book k steps + 1) (fresh_of t k))
        × (row_lines (codes "H") k steps (room book k steps) (held_of s k) ≡ row_lines (codes "H") k steps (room book k steps) (held_of t k))
    level_parts k low =
        let p = some_lines steps (λ k. room book k steps) (fresh_of s) (held_of s) in
        let q = some_lines steps (λ k. room book k steps) (fresh_of t) (held_of t) in
        let lines : flat_map p (range_with_len 0 (length book.levels)) ++ y ≡ flat_map q (range_with_len 0 (length book.levels)) ++ z =
        ap (λ (l : List (List (List ℕ))). l ++ y) (sym (all_levels_said steps book s a.sized)) ∙ e ∙ ap (λ (l : List (List (List ℕ))). l ++ z) (all_levels_said steps book t b.sized) in
        let level = flat_parts p q 0 (length book.levels) k y z (λ j. level_long steps (λ k. room book k steps) (fresh_of s) (held_of s) j ∙ sym (level_long steps (λ k. room book k steps) (fresh_of t) (held_of t) j)) lines (omega arith) (omega arith) in
        same_parts (row_lines (codes "F") k steps (room book k steps + 1) (fresh_of s k)) (row_lines (codes "H") k steps (room book k steps) (held_of s k)) (row_lines (codes "F") k steps (room book k steps + 1) (fresh_of t k)) (row_lines (codes "H") k steps (room book k steps) (held_of t k))
        (rows_long (codes "F") k steps (room book k steps + 1) (fresh_of s k) ∙ sym (rows_long (codes "F") k steps (room book k steps + 1) (fresh_of t k))) level

pub same_tables : (steps : ℕ) (book : BookCosts) (s t : TableRows) (y z : List (List (List ℕ))) → HaveTables steps book s → HaveTables steps book t →
    flat_map (level_lines s) (range_with_len 0 (length s.rooms)) ++ y ≡ flat_map (level_lines t) (range_with_len 0 (length t.rooms)) ++ z → s ≡ t
same_tables steps book s t y z a b e = one_table s t a.shaped b.shaped (same_entries steps book s t y z a b e)
