-- The levels' numbers are exact.
use Rattle.std.proofs.Common.{◌≡◌, ◌≢◌, ℕ, zero, suc, ◌+◌, ◌-◌, ◌*◌, ◌<◌, ◌≤◌, length, slice_index_or, refl, sym, ap, ◌∙◌, subst, add-one, arith, inl, inr}
use Rattle.std.proofs.lemmas.Bool.{cases_lt}
use Rattle.level_book.specs.declared.book.Slots.TheVariants.{Count}
use Rattle.level_book.specs.BookCosts.{BookCosts, slots_of, room}
use Rattle.level_book.specs.UnderTable.{Tables, sum_of, write_cost, read_cost, number, never}
use Rattle.cost_tables.specs.Entries.{never_in_memory, entry, least_split}
use Rattle.cost_tables.specs.Levels.{AreLevels, base_of, IsModest, tables_of}
use Rattle.cost_tables.specs.ExactTables.{IsExact}
use Rattle.cost_tables.proofs.Splits.{min_cases, entry_number, entry_never, split_attained, held_small, fresh_small}
use Rattle.cost_tables.proofs.AllLevels.{small, room_le}

-- a sum of entries of numbers is the entry of the sum
pub sum_entries : (n a b x : ℕ) → x ≡ n + a + b → a < never_in_memory → b < never_in_memory → x < never_in_memory → entry x ≡ sum_of n (entry a) (entry b)
sum_entries n a b x e ha hb hx =
    entry_number x hx ∙ ap (λ y. number y) e
    ∙ ap (λ o. sum_of n (number a) o) (sym (entry_number b hb)) ∙ ap (λ o. sum_of n o (entry b)) (sym (entry_number a ha))

pub some_below : (x v : ℕ) → entry x ≡ number v → x < never_in_memory
some_below x v e = elim (cases_lt x never_in_memory) [ inl h ↦ h | inr h ↦ absurd (let none = sym (entry_never x h) ∙ e in cc) ]

none_above : (x : ℕ) → entry x ≡ never → never_in_memory ≤ x
none_above x e = elim (cases_lt x never_in_memory) [ inl h ↦ absurd (let some = sym (entry_number x h) ∙ e in cc) | inr h ↦ h ]

module _ (steps : ℕ) (book : BookCosts) (fresh held : ℕ → ℕ → ℕ → ℕ) (modest : IsModest steps book) (are : AreLevels steps book fresh held) where
  abbrev least : ℕ → ℕ → ℕ → ℕ
  least k r m = least_split book.forward (λ q. fresh k q m) (λ q. held k q m) r r

  abbrev own : ℕ → ℕ → ℕ
  own k r = base_of book.forward book.reverse (λ j. room book j steps) fresh k r

  one_fresh : (k m : ℕ) → k < length book.levels → 0 < steps → m ≤ room book k steps → own k 0 ≡ book.forward + book.reverse → fresh k 0 m ≡ book.forward + book.reverse
  one_fresh k zero known some le e = (are k known).none_free 0 some ∙ e
  one_fresh k (suc m) known some le e =
      let f = modest.cheap_forward in let b = modest.cheap_reverse in
      (are k known).some_free 0 m some (omega arith) ∙ omega arith

  first_base : (k : ℕ) → k < length book.levels → 0 < steps → own k 0 ≡ book.forward + book.reverse
  first_base zero known some = refl
  first_base (suc k) known some = one_fresh k (room book k steps) (omega arith) some (omega arith) (first_base k (omega arith) some)

  -- a row after the first: what gives a is_number, where the level is used
  fresh_by : (k r m : ℕ) → k < length book.levels → suc r < steps → m ≤ room book k steps → fresh k (suc r) m < never_in_memory →
      ((j : ℕ) → suc j ≡ k → fresh k (suc r) m ≢ fresh j (suc r) (room book j steps)) →
      (n : ℕ) × (m ≡ suc n) × ((i : ℕ) × (i < suc r) × (fresh k (suc r) m ≡ write_cost book k + (i + 1) * book.forward + fresh k (suc r - (i + 1)) n + held k i n))
  fresh_by zero r zero known lt le is_number other = absurd (let e = (are zero known).none_free (suc r) lt in omega arith)
  fresh_by (suc k) r zero known lt le is_number other = absurd (other k refl ((are (suc k) known).none_free (suc r) lt))
  fresh_by k r (suc n) known lt le is_number other =
      let e = (are k known).some_free (suc r) n lt (omega arith) in
      elim (min_cases (own k (suc r)) (write_cost book k + least k (suc r) n)) [
        | inl b ↦ absurd (at_base k (suc n) known is_number other (e ∙ b))
        | inr b ↦
            let s = split_attained book.forward (λ q. fresh k q n) (λ q. held k q n) (suc r) (suc r) (omega arith) in
            (n, refl, (s.0, s.1, e ∙ b ∙ (let v = s.2 in omega arith)))
      ]
    where
      at_base : (k m : ℕ) → k < length book.levels → fresh k (suc r) m < never_in_memory → ((j : ℕ) → suc j ≡ k → fresh k (suc r) m ≢ fresh j (suc r) (room book j steps)) → fresh k (suc r) m ≡ own k (suc r) → ⊥
      at_base zero m known is_number other e = omega arith
      at_base (suc k) m known is_number other e = other k refl e

  held_by : (k r m : ℕ) → k < length book.levels → suc r < steps → m < room book k steps →
      ((j : ℕ) → suc j ≡ k → fresh j (suc r) (room book j steps) < never_in_memory → held k (suc r) m ≢ read_cost book k + fresh j (suc r) (room book j steps)) →
      (i : ℕ) × (i < suc r) × (held k (suc r) m ≡ read_cost book k + (i + 1) * book.forward + fresh k (suc r - (i + 1)) m + held k i m)
  held_by k r m known lt le other =
      let e = (are k known).is_held (suc r) m lt le in
      let is_number = held_small steps (room book k steps) book.forward (write_cost book k) (read_cost book k) (own k) (fresh k) (held k) (small steps book fresh held modest are k known (omega arith)) (are k known) (suc r) m lt le in
      elim (min_cases (own k (suc r)) (least k (suc r) m)) [
        | inl b ↦ absurd (at_base k known is_number other (e ∙ ap (λ n. read_cost book k + n) b))
        | inr b ↦
            let s = split_attained book.forward (λ q. fresh k q m) (λ q. held k q m) (suc r) (suc r) (omega arith) in
            (s.0, s.1, e ∙ (let v = s.2 in omega arith))
      ]
    where
      at_base : (k : ℕ) → k < length book.levels → held k (suc r) m < never_in_memory →
          ((j : ℕ) → suc j ≡ k → fresh j (suc r) (room book j steps) < never_in_memory → held k (suc r) m ≢ read_cost book k + fresh j (suc r) (room book j steps)) →
          held k (suc r) m ≡ read_cost book k + own k (suc r) → ⊥
      at_base zero known is_number other e = omega arith
      at_base (suc k) known is_number other e = other k refl (omega arith) e

  never_only : (k r m : ℕ) → k < length book.levels → r < steps → m ≤ room book k steps → never_in_memory ≤ fresh k r m → (1 ≤ r) × (m ≡ 0) × ((j : ℕ) → j < k → room book j steps ≡ 0)
  never_only k r (suc m) known lt le high =
      absurd (let is_number = fresh_small steps (room book k steps) book.forward (write_cost book k) (read_cost book k) (own k) (fresh k) (held k) (small steps book fresh held modest are k known (omega arith)) (are k known) r m lt (omega arith) in omega arith)
  never_only zero zero zero known lt le high =
      absurd (let e = (are zero known).none_free 0 lt in let f = modest.cheap_forward in let b = modest.cheap_reverse in omega arith)
  never_only zero (suc r) zero known lt le high = (omega arith, refl, λ j h. absurd (omega arith))
  never_only (suc k) r zero known lt le high =
      let e = (are (suc k) known).none_free r lt in
      let before = never_only k r (room book k steps) (omega arith) lt (omega arith) (omega arith) in (
        before.0,
        refl,
        λ j h. elim (cases_lt j k) [
          | inl lt ↦ before.2 j lt
          | inr ge ↦ let same : k ≡ j = omega arith in let P : ℕ → Type 0 = λ j. room book j steps ≡ 0 in subst P same before.1
        ],
      )

  only_never : (k r : ℕ) → k < length book.levels → suc r < steps → ((j : ℕ) → j < k → room book j steps ≡ 0) → fresh k (suc r) 0 ≡ never_in_memory
  only_never zero r known lt none = (are zero known).none_free (suc r) lt
  only_never (suc k) r known lt none =
      (are (suc k) known).none_free (suc r) lt ∙ ap (λ m. fresh k (suc r) m) (none k (omega arith)) ∙ only_never k r (omega arith) lt (λ j h. none j (omega arith))

  abbrev t : Tables
  t = tables_of fresh held

  pub exact : IsExact steps book t
  exact = record {
    fresh_one = λ k m some known le.
        let f = modest.cheap_forward in let b = modest.cheap_reverse in
        ap entry (one_fresh k m known some le (first_base k known some)) ∙ entry_number (book.forward + book.reverse) (omega arith);
    held_one = λ k m known le.
        let f = modest.cheap_forward in let b = modest.cheap_reverse in let r = modest.cheap_read k in
        let within = room_le steps (slice_index_or (slots_of book) k (Count 0)) in
        let e = (are k known).is_held 0 m (omega arith) le in
        let one = first_base k known (omega arith) in
        let sum : held k 0 m ≡ read_cost book k + book.forward + book.reverse = omega arith in
        ap entry sum ∙ entry_number (read_cost book k + book.forward + book.reverse) (omega arith);
    fresh_split = λ k l m v known two le some is other.
        let row : l - 1 ≡ suc (l - 2) = omega arith in
        let here : fresh k (l - 1) m ≡ fresh k (suc (l - 2)) m = ap (λ r. fresh k r m) row in
        let is_number : fresh k (suc (l - 2)) m < never_in_memory = let n = some_below (fresh k (l - 1) m) v is in omega arith in
        let by = fresh_by k (l - 2) m known (omega arith) some is_number (λ j e same. other j e (ap entry (here ∙ same ∙ ap (λ r. fresh j r (room book j steps)) (sym row)))) in
        let n = by.0 in let i = by.2.0 in let lt = by.2.1 in let value = by.2.2 in
        let more = by.1 in
        let first : fresh k (l - suc i - 1) n ≡ fresh k (suc (l - 2) - (i + 1)) n = ap (λ r. fresh k r n) (omega arith) in
        let second : held k (suc i - 1) n ≡ held k i n = ap (λ r. held k r n) (omega arith) in
        let product : suc i * book.forward ≡ (i + 1) * book.forward = ap (λ x. x * book.forward) (sym (add-one i)) in (
          n,
          more,
          (
            suc i,
            omega arith,
            omega arith,
            sum_entries (write_cost book k + suc i * book.forward) (fresh k (l - suc i - 1) n) (held k (suc i - 1) n) (fresh k (l - 1) m) (omega arith) (omega arith) (omega arith) (omega arith),
          ),
        );
    held_split = λ k l m known two le some other.
        let row : l - 1 ≡ suc (l - 2) = omega arith in
        let here : held k (l - 1) m ≡ held k (suc (l - 2)) m = ap (λ r. held k r m) row in
        let is_number = held_small steps (room book k steps) book.forward (write_cost book k) (read_cost book k) (own k) (fresh k) (held k) (small steps book fresh held modest are k known (omega arith)) (are k known) (suc (l - 2)) m (omega arith) some in
        let by = held_by k (l - 2) m known (omega arith) some (λ j e low same.
        let there : fresh j (l - 1) (room book j steps) ≡ fresh j (suc (l - 2)) (room book j steps) = ap (λ r. fresh j r (room book j steps)) row in
        other j e (sum_entries (read_cost book k) 0 (fresh j (l - 1) (room book j steps)) (held k (l - 1) m) (omega arith) (omega arith) (omega arith) (omega arith))) in
        let i = by.0 in let lt = by.1 in let value = by.2 in
        let first : fresh k (l - suc i - 1) m ≡ fresh k (suc (l - 2) - (i + 1)) m = ap (λ r. fresh k r m) (omega arith) in
        let second : held k (suc i - 1) m ≡ held k i m = ap (λ r. held k r m) (omega arith) in
        let product : suc i * book.forward ≡ (i + 1) * book.forward = ap (λ x. x * book.forward) (sym (add-one i)) in (
          suc i,
          omega arith,
          omega arith,
          sum_entries (read_cost book k + suc i * book.forward) (fresh k (l - suc i - 1) m) (held k (suc i - 1) m) (held k (l - 1) m) (omega arith) (omega arith) (omega arith) (omega arith),
        );
    held_number = λ k l m known one le some none.
        let is_number = held_small steps (room book k steps) book.forward (write_cost book k) (read_cost book k) (own k) (fresh k) (held k) (small steps book fresh held modest are k known (omega arith)) (are k known) (l - 1) m (omega arith) some in
        absurd (let e = sym (entry_number (held k (l - 1) m) is_number) ∙ none in cc);
    fresh_never = λ k l m known one le some none.
        let high : never_in_memory ≤ fresh k (l - 1) m = none_above (fresh k (l - 1) m) none in
        let is = never_only k (l - 1) m known (omega arith) some high in
        (omega (arith, is.0), is.1, is.2);
    never_fresh = λ k l known two le none.
        let row : l - 1 ≡ suc (l - 2) = omega arith in
        let e = ap (λ r. fresh k r 0) row ∙ only_never k (l - 2) known (omega arith) none in
        entry_never (fresh k (l - 1) 0) (omega arith);
  }
