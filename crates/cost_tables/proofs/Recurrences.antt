-- The greatest under-table is the one that can be worked out, so each of its entries is attained.
use Rattle.std.proofs.Common.{◌≡◌, ℕ, zero, suc, ◌+◌, ◌-◌, ◌*◌, ◌<◌, ◌≤◌, ◌^◌, min, cond, nat_lt, List, [], ◌∷◌, map, length, get_or, slice_index_or, refl, sym, ap, ◌∙◌, subst, arith, inl, inr}
use Rattle.std.specs.List.{AllByRecursion}
use Rattle.std.proofs.lemmas.Bool.{cases_lt, lt-ltb, le-ltb}
use Rattle.level_book.specs.declared.book.Slots.TheVariants.{Count}
use Rattle.level_book.specs.declared.book.Level.{Level}
use Rattle.level_book.specs.BookCosts.{BookCosts, slots_of, room, IsLevelWithinLimits, IsWithinLimits}
use Rattle.level_book.specs.UnderTable.{Entry, number, never, Tables, IsAtMost, IsGreatest, sum_of, write_cost, read_cost}
use Rattle.cost_tables.specs.Entries.{entry, least_split, never_in_memory}
use Rattle.cost_tables.specs.Levels.{IsLevel, AreLevels, base_of, IsModest, tables_of}
use Rattle.cost_tables.specs.ExactTables.{IsExact}
use Rattle.cost_tables.proofs.Splits.{entry_number, entry_never}
use Rattle.cost_tables.proofs.RowExtension.{split_same}
use Rattle.cost_tables.proofs.AllLevels.{greatest, room_le}
use Rattle.cost_tables.proofs.Exactness.{exact}

-- what an entry is, by the least split and what the stretch costs where the level isn't used
abbrev fresh_by : ℕ → ℕ → (ℕ → ℕ) → ℕ → ℕ
fresh_by base write split zero = base
fresh_by base write split (suc m) = min base (write + split m)

module _ (forward write read : ℕ) (base : ℕ → ℕ) where
  -- the first n rows of a level
  unfoldable mutual
    fresh_to : ℕ → ℕ → ℕ → ℕ
    fresh_to zero r m = 0
    fresh_to (suc n) r m = cond (nat_lt r n) (fresh_to n r m) (fresh_by (base n) write (λ m. least_split forward (λ q. fresh_to n q m) (λ q. held_to n q m) n n) m)

    held_to : ℕ → ℕ → ℕ → ℕ
    held_to zero r m = 0
    held_to (suc n) r m = cond (nat_lt r n) (held_to n r m) (read + min (base n) (least_split forward (λ q. fresh_to n q m) (λ q. held_to n q m) n n))

  -- the rows of a level
  abbrev fresh_row : ℕ → ℕ → ℕ
  fresh_row r m = fresh_to (suc r) r m

  abbrev held_row : ℕ → ℕ → ℕ
  held_row r m = held_to (suc r) r m

  fresh_stays : (n r m : ℕ) → r < n → fresh_to n r m ≡ fresh_row r m
  unfolding fresh_to held_to
  fresh_stays zero r m h = absurd (omega arith)
  fresh_stays (suc n) r m h = elim (cases_lt r n) [
    | inl lt ↦ ap (λ b. cond b (fresh_to n r m) (fresh_by (base n) write (λ m. least_split forward (λ q. fresh_to n q m) (λ q. held_to n q m) n n) m)) (lt-ltb r n lt) ∙ fresh_stays n r m lt
    | inr ge ↦ let e : r ≡ n = omega arith in let P : ℕ → Type 0 = λ n. fresh_to (suc n) r m ≡ fresh_row r m in subst P e refl
  ]

  held_stays : (n r m : ℕ) → r < n → held_to n r m ≡ held_row r m
  unfolding fresh_to held_to
  held_stays zero r m h = absurd (omega arith)
  held_stays (suc n) r m h = elim (cases_lt r n) [
    | inl lt ↦ ap (λ b. cond b (held_to n r m) (read + min (base n) (least_split forward (λ q. fresh_to n q m) (λ q. held_to n q m) n n))) (lt-ltb r n lt) ∙ held_stays n r m lt
    | inr ge ↦ let e : r ≡ n = omega arith in let P : ℕ → Type 0 = λ n. held_to (suc n) r m ≡ held_row r m in subst P e refl
  ]

  splits_stay : (r m : ℕ) → least_split forward (λ q. fresh_to r q m) (λ q. held_to r q m) r r ≡ least_split forward (λ q. fresh_row q m) (λ q. held_row q m) r r
  splits_stay r m = split_same forward (λ q. fresh_to r q m) (λ q. fresh_row q m) (λ q. held_to r q m) (λ q. held_row q m) r r (λ q h. fresh_stays r q m h) (λ q h. held_stays r q m h) (omega arith)

  fresh_here : (r m : ℕ) → fresh_row r m ≡ fresh_by (base r) write (λ m. least_split forward (λ q. fresh_to r q m) (λ q. held_to r q m) r r) m
  unfolding fresh_to held_to
  fresh_here r m = ap (λ b. cond b (fresh_to r r m) (fresh_by (base r) write (λ m. least_split forward (λ q. fresh_to r q m) (λ q. held_to r q m) r r) m)) (le-ltb r r (omega arith))

  held_here : (r m : ℕ) → held_row r m ≡ read + min (base r) (least_split forward (λ q. fresh_to r q m) (λ q. held_to r q m) r r)
  unfolding fresh_to held_to
  held_here r m = ap (λ b. cond b (held_to r r m) (read + min (base r) (least_split forward (λ q. fresh_to r q m) (λ q. held_to r q m) r r))) (le-ltb r r (omega arith))

  is_level : (steps room : ℕ) → IsLevel steps room forward write read base fresh_row held_row
  is_level steps room = record {
    none_free = λ r lt. fresh_here r 0;
    some_free = λ r m lt some. fresh_here r (suc m) ∙ ap (λ s. min (base r) (write + s)) (splits_stay r m);
    is_held = λ r m lt some. held_here r m ∙ ap (λ s. read + min (base r) s) (splits_stay r m);
  }

module _ (steps : ℕ) (book : BookCosts) where
  -- the rows of all levels
  abbrev fresh_at : ℕ → ℕ → ℕ → ℕ
  fresh_at zero = fresh_row book.forward (write_cost book 0) (read_cost book 0) (base_of book.forward book.reverse (λ j. room book j steps) (λ _ _ _. 0) 0)
  fresh_at (suc k) = fresh_row book.forward (write_cost book (suc k)) (read_cost book (suc k)) (λ r. fresh_at k r (room book k steps))

  abbrev base : ℕ → ℕ → ℕ
  base k = base_of book.forward book.reverse (λ j. room book j steps) fresh_at k

  abbrev held_at : ℕ → ℕ → ℕ → ℕ
  held_at k = held_row book.forward (write_cost book k) (read_cost book k) (base k)

  first_base : (r : ℕ) → base_of book.forward book.reverse (λ j. room book j steps) (λ _ _ _. 0) 0 r ≡ base 0 r
  first_base zero = refl
  first_base (suc r) = refl

  are_levels : AreLevels steps book fresh_at held_at
  are_levels zero known =
      let e : base_of book.forward book.reverse (λ j. room book j steps) (λ _ _ _. 0) 0 ≡ base 0 = λ i r. first_base r i in
      let P : (ℕ → ℕ) → Type 0 = λ b. IsLevel steps (room book 0 steps) book.forward (write_cost book 0) (read_cost book 0) b (fresh_row book.forward (write_cost book 0) (read_cost book 0) b) (held_row book.forward (write_cost book 0) (read_cost book 0) b) in
      let Q : (ℕ → ℕ → ℕ) → Type 0 = λ f. IsLevel steps (room book 0 steps) book.forward (write_cost book 0) (read_cost book 0) (base 0) f (held_at 0) in
      subst Q (ap (λ (b : ℕ → ℕ). fresh_row book.forward (write_cost book 0) (read_cost book 0) b) (sym e)) (is_level book.forward (write_cost book 0) (read_cost book 0) (base 0) steps (room book 0 steps))
  are_levels (suc k) known = is_level book.forward (write_cost book (suc k)) (read_cost book (suc k)) (base (suc k)) steps (room book (suc k) steps)

  same_entry : (a b : Entry) → IsAtMost a b → IsAtMost b a → a ≡ b
  same_entry (number x) (number y) h g = let e : x ≡ y = omega arith in ap (λ n. number n) e
  same_entry (number x) never h g = absurd g
  same_entry never (number y) h g = absurd h
  same_entry never never h g = refl

  module _ (modest : IsModest steps book) (t : Tables) (is : IsGreatest steps book t) where
    abbrev own : Tables
    own = tables_of fresh_at held_at

    worked_out : IsGreatest steps book own
    worked_out = greatest steps book fresh_at held_at modest are_levels

    same_fresh : (k l m : ℕ) → k < length book.levels → 1 ≤ l → l ≤ steps → m ≤ room book k steps → t.fresh k l m ≡ own.fresh k l m
    same_fresh k l m known one le some = same_entry (t.fresh k l m) (own.fresh k l m) (worked_out.fresh t is.under k l m known one le some) (is.fresh own worked_out.under k l m known one le some)

    same_held : (k l m : ℕ) → k < length book.levels → 1 ≤ l → l ≤ steps → m < room book k steps → t.held k l m ≡ own.held k l m
    same_held k l m known one le some = same_entry (t.held k l m) (own.held k l m) (worked_out.held t is.under k l m known one le some) (is.held own worked_out.under k l m known one le some)

    pub greatest_exact : IsExact steps book t
    greatest_exact =
        let e = exact steps book fresh_at held_at modest are_levels in
        record {
          fresh_one = λ k m some known le. same_fresh k 1 m known (omega arith) some le ∙ e.fresh_one k m some known le;
          held_one = λ k m known le. same_held k 1 m known (omega arith) (some_step k m le) le ∙ e.held_one k m known le;
          fresh_split = λ k l m v known two le some v_is other.
              let here = same_fresh k l m known (omega arith) le some in
              let by = e.fresh_split k l m v known two le some (sym here ∙ v_is) (λ j ej same. other j ej (here ∙ same ∙ sym (same_fresh j l (room book j steps) (omega arith) (omega arith) le (omega arith)))) in
              let n = by.0 in let more = by.1 in let j = by.2.0 in let pos = by.2.1 in let lt = by.2.2 in
              let first = same_fresh k (l - j) n known (omega arith) (omega arith) (omega arith) in
              let second = same_held k j n known pos (omega arith) (omega arith) in
              (n, more, (j, pos, lt, here ∙ by.2.3 ∙ (λ x. sum_of (write_cost book k + j * book.forward) (sym first x) (sym second x))));
          held_split = λ k l m known two le some other.
              let here = same_held k l m known (omega arith) le some in
              let by = e.held_split k l m known two le some (λ j ej same. other j ej (here ∙ same ∙ ap (λ x. sum_of (read_cost book k) (number 0) x) (sym (same_fresh j l (room book j steps) (omega arith) (omega arith) le (omega arith))))) in
              let j = by.0 in let pos = by.1 in let lt = by.2 in
              let first = same_fresh k (l - j) m known (omega arith) (omega arith) (omega arith) in
              let second = same_held k j m known pos (omega arith) some in
              (j, pos, lt, here ∙ by.3 ∙ (λ x. sum_of (read_cost book k + j * book.forward) (sym first x) (sym second x)));
          held_number = λ k l m known one le some none. e.held_number k l m known one le some (sym (same_held k l m known one le some) ∙ none);
          fresh_never = λ k l m known one le some none. e.fresh_never k l m known one le some (sym (same_fresh k l m known one le some) ∙ none);
          never_fresh = λ k l known two le none. same_fresh k l 0 known (omega arith) le (omega arith) ∙ e.never_fresh k l known two le none;
        }
      where
        -- a level with room has steps
        some_step : (k m : ℕ) → m < room book k steps → 1 ≤ steps
        some_step k m lt = let within = room_le steps (slice_index_or (slots_of book) k (Count 0)) in omega arith

-- the costs of a level within the limits
cost_within : (f : Level → ℕ) (levels : List Level) (k : ℕ) → AllByRecursion IsLevelWithinLimits levels → ((level : Level) → IsLevelWithinLimits level → f level ≤ 1000000) → get_or (map f levels) k 0 ≤ 1000000
cost_within f [] k are le = omega arith
cost_within f (x ∷ xs) zero are le = le x are.0
cost_within f (x ∷ xs) (suc k) are le = cost_within f xs k are.1 le

pub modest_within : (steps : ℕ) (book : BookCosts) → steps ≤ 8192 → IsWithinLimits book → IsModest steps book
modest_within steps book few limits = record {
  few = few;
  cheap_forward = let le = limits.forward in omega arith;
  cheap_reverse = let le = limits.reverse in omega arith;
  cheap_write = λ k. let le = cost_within (λ level. level.write) book.levels k limits.levels (λ level is. is.write) in omega arith;
  cheap_read = λ k. let le = cost_within (λ level. level.read) book.levels k limits.levels (λ level is. is.read) in omega arith;
}

pub exact_within : (steps : ℕ) (book : BookCosts) (t : Tables) → steps ≤ 8192 → IsWithinLimits book → IsGreatest steps book t → IsExact steps book t
exact_within steps book t few limits is = greatest_exact steps book (modest_within steps book few limits) t is

-- the numbers in memory that the entries are
pub in_memory : (steps : ℕ) (book : BookCosts) (t : Tables) → steps ≤ 8192 → IsWithinLimits book → IsGreatest steps book t →
    (fresh : ℕ → ℕ → ℕ → ℕ) × ((k l m : ℕ) → k < length book.levels → 1 ≤ l → l ≤ steps → m ≤ room book k steps → t.fresh k l m ≡ entry (fresh k (l - 1) m))
in_memory steps book t few limits is = (fresh_at steps book, λ k l m known one le some. same_fresh steps book (modest_within steps book few limits) t is k l m known one le some)

-- and there are such numbers
pub worked_out_greatest : (steps : ℕ) (book : BookCosts) → steps ≤ 8192 → IsWithinLimits book → (fresh : ℕ → ℕ → ℕ → ℕ) × (held : ℕ → ℕ → ℕ → ℕ) × IsGreatest steps book (tables_of fresh held)
worked_out_greatest steps book few limits =
    (fresh_at steps book, held_at steps book, greatest steps book (fresh_at steps book) (held_at steps book) (modest_within steps book few limits) (are_levels steps book))

-- ---- the numbers among them are low

pub low_entry : (n v : ℕ) → entry n ≡ number v → v < 2 ^ 61
low_entry n v e = elim (cases_lt n never_in_memory) [
  | inl lt ↦ let same : number n ≡ number v = sym (entry_number n lt) ∙ e in let is : n ≡ v = cc in omega arith
  | inr ge ↦ let same : never ≡ number v = sym (entry_never n ge) ∙ e in cc
]

pub record AreLow (steps : ℕ) (book : BookCosts) (t : Tables) : Type 0 where
  pub fresh : (k l m v : ℕ) → k < length book.levels → 1 ≤ l → l ≤ steps → m ≤ room book k steps → t.fresh k l m ≡ number v → v < 2 ^ 61
  pub held : (k l m v : ℕ) → k < length book.levels → 1 ≤ l → l ≤ steps → m < room book k steps → t.held k l m ≡ number v → v < 2 ^ 61

pub greatest_low : (steps : ℕ) (book : BookCosts) (t : Tables) → steps ≤ 8192 → IsWithinLimits book → IsGreatest steps book t → AreLow steps book t
greatest_low steps book t few limits is =
    let modest = modest_within steps book few limits in
    record {
      fresh = λ k l m v known one le some e. low_entry (fresh_at steps book k (l - 1) m) v (sym (same_fresh steps book modest t is k l m known one le some) ∙ e);
      held = λ k l m v known one le some e. low_entry (held_at steps book k (l - 1) m) v (sym (same_held steps book modest t is k l m known one le some) ∙ e);
    }
