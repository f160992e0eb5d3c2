-- The tables of the fastest level alone.
use Rattle.std.proofs.Common.{◌≡◌, ℕ, zero, suc, ◌≢◌, ◌+◌, ◌-◌, ◌*◌, ◌<◌, ◌≤◌, ◌^◌, List, [], ◌∷◌, length, take, map, get_or, refl, sym, ap, ◌∙◌, subst, arith, inl, inr, Vec}
use Rattle.std.specs.declared.alloc.Global.{Global}
use Rattle.std.proofs.lemmas.Bool.{cases_lt}
use Rattle.std.proofs.lemmas.List.{length-take}
use Rattle.level_book.specs.declared.book.Level.{Level}
use Rattle.level_book.specs.declared.book.Slots.TheVariants.{Count}
use Rattle.level_book.specs.BookCosts.{BookCosts, room, least}
use Rattle.level_book.specs.UnderTable.{Tables, IsGreatest, sum_of, number, never, write_cost, read_cost}
use Rattle.cost_tables.specs.declared.rows.Row.{Row}
use Rattle.cost_tables.specs.ExactTables.{IsExact, IsExactTo}
use Rattle.cost_tables.specs.TableRows.{TableRows, AreFor, fastest}
use Rattle.cost_tables.specs.Entries.{fresh_in, held_in}
use Rattle.cost_tables.specs.Levels.{IsLevel, base_of, IsModest, tables_of}
use Rattle.cost_tables.specs.Rows.{AreRows}
use Rattle.cost_tables.specs.TableInvariant.{fresh_at, held_at, first_in}
use Rattle.cost_tables.proofs.AllLevels.{greatest}
use Rattle.cost_tables.proofs.LevelExtension.{level_along, no_cost}

-- what is said of the first level
first_said : {X : Type 0} (f : Level → X) (levels : List Level) (d : X) → get_or (map f (take 1 levels)) 0 d ≡ get_or (map f levels) 0 d
first_said f [] d = refl
first_said f (x ∷ xs) d = refl

pub same_room : (book : BookCosts) (steps : ℕ) → room (fastest book) 0 steps ≡ room book 0 steps
same_room book steps = ap (λ slots. least slots steps) (first_said (λ level. level.slots) book.levels (Count 0))

pub same_write : (book : BookCosts) → write_cost (fastest book) 0 ≡ write_cost book 0
same_write book = first_said (λ level. level.write) book.levels 0

pub same_read : (book : BookCosts) → read_cost (fastest book) 0 ≡ read_cost book 0
same_read book = first_said (λ level. level.read) book.levels 0

-- there is no other level
pub first_only : (book : BookCosts) (k : ℕ) → k < length (fastest book).levels → 0 ≡ k
first_only book k h = omega (arith, length-take 1 book.levels)

pub fastest_sizes : (steps : ℕ) (book : BookCosts) (t : TableRows) (wide : ℕ) → 0 < length book.levels → t.steps ≡ steps → t.rooms ≡ wide ∷ [] → wide ≡ room book 0 steps → AreFor steps (fastest book) t
fastest_sizes steps book t wide some es er ew =
    let P : ℕ → Type 0 = λ k. get_or t.rooms k 0 ≡ room (fastest book) k steps in
    let one : length t.rooms ≡ 1 = ap (λ (rooms : List ℕ). length rooms) er in
    let first : get_or t.rooms 0 0 ≡ wide = ap (λ (rooms : List ℕ). get_or rooms 0 0) er in
    record {
      steps_are = es;
      level_count = omega (arith, one, length-take 1 book.levels);
      rooms_are = λ k h. subst P (first_only book k h) (first ∙ ew ∙ sym (same_room book steps));
    }

module _ (steps : ℕ) (book : BookCosts) where
  abbrev own : BookCosts
  own = fastest book

  cheap : (cost : Level → ℕ) (k : ℕ) → get_or (map cost book.levels) 0 0 < 2 ^ 32 → get_or (map cost own.levels) k 0 < 2 ^ 32
  cheap cost k low =
      let P : ℕ → Type 0 = λ k. get_or (map cost own.levels) k 0 < 2 ^ 32 in
      let Q : ℕ → Type 0 = λ n. n < 2 ^ 32 in
      elim (cases_lt k 1) [
        | inl h ↦ let e : 0 ≡ k = omega arith in subst P e (subst Q (sym (first_said cost book.levels 0)) low)
        | inr h ↦ no_cost cost own.levels k (omega (arith, length-take 1 book.levels))
      ]

  same_first : (fresh : ℕ → ℕ → ℕ → ℕ) (r : ℕ) → first_in (book.forward + book.reverse) r ≡ base_of book.forward book.reverse (λ j. room own j steps) fresh 0 r
  same_first fresh zero = refl
  same_first fresh (suc r) = refl

  -- the rows of the first level
  level_of : (rows : Vec Row Global) (base : List ℕ) → length rows.items ≡ steps → AreRows (room book 0 steps) book.forward (write_cost book 0) (read_cost book 0) base rows.items →
      ((r : ℕ) → r < steps → get_or base r 0 ≡ first_in (book.forward + book.reverse) r) →
      IsLevel steps (room own 0 steps) book.forward (write_cost own 0) (read_cost own 0) (base_of book.forward book.reverse (λ j. room own j steps) (fresh_at (rows ∷ [])) 0) (fresh_at (rows ∷ []) 0) (held_at (rows ∷ []) 0)
  level_of rows base wide is first =
      let Base : ℕ → ℕ = λ r. get_or base r 0 in
      let F = fresh_in rows.items in let H = held_in rows.items in
      let S : ℕ → Type 0 = λ n. IsLevel n (room book 0 steps) book.forward (write_cost book 0) (read_cost book 0) Base F H in
      let M : ℕ → Type 0 = λ n. IsLevel steps n book.forward (write_cost book 0) (read_cost book 0) Base F H in
      let W : ℕ → Type 0 = λ n. IsLevel steps (room own 0 steps) book.forward n (read_cost book 0) Base F H in
      let R : ℕ → Type 0 = λ n. IsLevel steps (room own 0 steps) book.forward (write_cost own 0) n Base F H in
      level_along steps (room own 0 steps) book.forward (write_cost own 0) (read_cost own 0) Base (base_of book.forward book.reverse (λ j. room own j steps) (fresh_at (rows ∷ [])) 0) rows.items rows.items refl
      (λ r lt. first r lt ∙ same_first (fresh_at (rows ∷ [])) r)
      (subst R (sym (same_read book)) (subst W (sym (same_write book)) (subst M (sym (same_room book steps)) (subst S wide is.level))))

  pub fastest_greatest : (levels : List (Vec Row Global)) (rows : Vec Row Global) (base : List ℕ) → levels ≡ rows ∷ [] → steps ≤ 8192 → length rows.items ≡ steps →
      AreRows (room book 0 steps) book.forward (write_cost book 0) (read_cost book 0) base rows.items → ((r : ℕ) → r < steps → get_or base r 0 ≡ first_in (book.forward + book.reverse) r) →
      book.forward < 2 ^ 32 → book.reverse < 2 ^ 32 → write_cost book 0 < 2 ^ 32 → read_cost book 0 < 2 ^ 32 → IsGreatest steps own (tables_of (fresh_at levels) (held_at levels))
  fastest_greatest levels rows base el few wide is first f b w r =
      let modest : IsModest steps own = record {
        few = few;
        cheap_forward = f;
        cheap_reverse = b;
        cheap_write = λ k. cheap (λ level. level.write) k w;
        cheap_read = λ k. cheap (λ level. level.read) k r;
      } in
      let P : List (Vec Row Global) → Type 0 = λ levels. IsGreatest steps own (tables_of (fresh_at levels) (held_at levels)) in
      let Q : ℕ → Type 0 = λ k. IsLevel steps (room own k steps) book.forward (write_cost own k) (read_cost own k) (base_of book.forward book.reverse (λ j. room own j steps) (fresh_at (rows ∷ [])) k) (fresh_at (rows ∷ []) k) (held_at (rows ∷ []) k) in
      subst P (sym el) (greatest steps own (fresh_at (rows ∷ [])) (held_at (rows ∷ [])) modest (λ k known. subst Q (first_only book k known) (level_of rows base wide is first)))

-- tables of which the first level alone is looked at
abbrev pub first_of : Tables → Tables
first_of t = record { fresh = λ _. t.fresh 0; held = λ _. t.held 0 }

-- where they are exact for the fastest level, they are so for the first level of the book
module _ (steps f r : ℕ) (t : Tables) where
  abbrev of : List Level → BookCosts
  of levels = record { forward = f; reverse = r; levels = levels }

  exact_of : (levels : List Level) → 0 < length levels → IsExact steps (fastest (of levels)) (first_of t) → IsExactTo 1 steps (of levels) t
  exact_of [] some is = absurd (omega arith)
  exact_of (x ∷ rest) some is = record {
    fresh_one = fresh_one';
    held_one = held_one';
    fresh_split = fresh_split';
    held_split = held_split';
    held_number = held_number';
    fresh_never = fresh_never';
    never_fresh = never_fresh';
  }
    where
      fresh_one' : (k m : ℕ) → 1 ≤ steps → k < 1 → m ≤ room (of (x ∷ rest)) k steps → t.fresh k 1 m ≡ number (f + r)
      fresh_one' zero m some known le = is.fresh_one 0 m some (omega arith) le
      fresh_one' (suc k) m some known le = absurd (omega arith)

      held_one' : (k m : ℕ) → k < 1 → m < room (of (x ∷ rest)) k steps → t.held k 1 m ≡ number (read_cost (of (x ∷ rest)) k + f + r)
      held_one' zero m known le = is.held_one 0 m (omega arith) le
      held_one' (suc k) m known le = absurd (omega arith)

      fresh_split' : (k l m v : ℕ) → k < 1 → 2 ≤ l → l ≤ steps → m ≤ room (of (x ∷ rest)) k steps → t.fresh k l m ≡ number v →
          ((j : ℕ) → suc j ≡ k → t.fresh k l m ≢ t.fresh j l (room (of (x ∷ rest)) j steps)) →
          (n : ℕ) × (m ≡ suc n) × ((j : ℕ) × (1 ≤ j) × (j < l) × (t.fresh k l m ≡ sum_of (write_cost (of (x ∷ rest)) k + j * f) (t.fresh k (l - j) n) (t.held k j n)))
      fresh_split' zero l m v known two le some e other = is.fresh_split 0 l m v (omega arith) two le some e (λ j before. absurd (omega arith))
      fresh_split' (suc k) l m v known two le some e other = absurd (omega arith)

      held_split' : (k l m : ℕ) → k < 1 → 2 ≤ l → l ≤ steps → m < room (of (x ∷ rest)) k steps →
          ((j : ℕ) → suc j ≡ k → t.held k l m ≢ sum_of (read_cost (of (x ∷ rest)) k) (number 0) (t.fresh j l (room (of (x ∷ rest)) j steps))) →
          (j : ℕ) × (1 ≤ j) × (j < l) × (t.held k l m ≡ sum_of (read_cost (of (x ∷ rest)) k + j * f) (t.fresh k (l - j) m) (t.held k j m))
      held_split' zero l m known two le some other = is.held_split 0 l m (omega arith) two le some (λ j before. absurd (omega arith))
      held_split' (suc k) l m known two le some other = absurd (omega arith)

      held_number' : (k l m : ℕ) → k < 1 → 1 ≤ l → l ≤ steps → m < room (of (x ∷ rest)) k steps → t.held k l m ≢ never
      held_number' zero l m known one le some = is.held_number 0 l m (omega arith) one le some
      held_number' (suc k) l m known one le some = absurd (omega arith)

      fresh_never' : (k l m : ℕ) → k < 1 → 1 ≤ l → l ≤ steps → m ≤ room (of (x ∷ rest)) k steps → t.fresh k l m ≡ never → (2 ≤ l) × (m ≡ 0) × ((j : ℕ) → j < k → room (of (x ∷ rest)) j steps ≡ 0)
      fresh_never' zero l m known one le some e = let by = is.fresh_never 0 l m (omega arith) one le some e in (by.0, by.1, λ j h. absurd (omega arith))
      fresh_never' (suc k) l m known one le some e = absurd (omega arith)

      never_fresh' : (k l : ℕ) → k < 1 → 2 ≤ l → l ≤ steps → ((j : ℕ) → j < k → room (of (x ∷ rest)) j steps ≡ 0) → t.fresh k l 0 ≡ never
      never_fresh' zero l known two le none = is.never_fresh 0 l (omega arith) two le (λ j h. absurd (omega arith))
      never_fresh' (suc k) l known two le none = absurd (omega arith)

pub first_exact : (steps : ℕ) (book : BookCosts) (t : Tables) → 0 < length book.levels → IsExact steps (fastest book) (first_of t) → IsExactTo 1 steps book t
first_exact steps book t some is = exact_of steps book.forward book.reverse t book.levels some is
