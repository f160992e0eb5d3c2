-- All levels of a book.
use Rattle.std.proofs.Common.{◌≡◌, ℕ, zero, suc, ◌+◌, ◌-◌, ◌<◌, ◌≤◌, length, slice_index_or, sym, subst, arith}
use Rattle.level_book.specs.declared.book.Slots.{Slots}
use Rattle.level_book.specs.declared.book.Slots.TheVariants.{Count, Unlimited}
use Rattle.level_book.specs.BookCosts.{BookCosts, slots_of, room, least}
use Rattle.level_book.specs.UnderTable.{Tables, IsUnderTable, IsGreatest, IsAtMost, sum_of, write_cost, read_cost, number}
use Rattle.cost_tables.specs.Entries.{never_in_memory, entry}
use Rattle.cost_tables.specs.Levels.{AreLevels, base_of, IsModest, tables_of}
use Rattle.cost_tables.proofs.Splits.{entry_number, at_most_trans, entry_mono, entry_at_most, IsSmall, first_fresh, held_small}
use Rattle.cost_tables.proofs.GreatestTable.{reach, more_of, below_base, fresh_split, held_split, fresh_stored, held_base, Above, above}

pub room_le : (steps : ℕ) (slots : Slots) → least slots steps ≤ steps
room_le steps (Count n) = omega arith
room_le steps Unlimited = omega arith

module _ (steps : ℕ) (book : BookCosts) (fresh held : ℕ → ℕ → ℕ → ℕ) (modest : IsModest steps book) (are : AreLevels steps book fresh held) where
  abbrev pub base : ℕ → ℕ → ℕ
  base k r = base_of book.forward book.reverse (λ j. room book j steps) fresh k r

  abbrev pub Small : ℕ → Type 0
  Small k = IsSmall steps (room book k steps) book.forward (write_cost book k) (read_cost book k) (base k)

  small_of : (k : ℕ) → base k 0 ≤ book.forward + book.reverse → Small k
  small_of k low =
      let f = modest.cheap_forward in
      let b = modest.cheap_reverse in
      record { few = modest.few; cheap_steps = f; cheap_write = modest.cheap_write k; cheap_read = modest.cheap_read k; low = omega arith }

  base_first : (k : ℕ) → k < length book.levels → 0 < steps → base k 0 ≤ book.forward + book.reverse
  base_first zero known some = omega arith
  base_first (suc k) known some =
      let low = base_first k (omega arith) some in
      let le = first_fresh steps (room book k steps) book.forward (write_cost book k) (read_cost book k) (base k) (fresh k) (held k) (small_of k low) (are k (omega arith)) (room book k steps) some (omega arith) in
      omega arith

  pub small : (k : ℕ) → k < length book.levels → 0 < steps → Small k
  small k known some = small_of k (base_first k known some)

  below : (k r m : ℕ) → k < length book.levels → r < steps → m ≤ room book k steps → fresh k r m ≤ base k r
  below k r m known lt le = below_base steps (room book k steps) book.forward (write_cost book k) (read_cost book k) (base k) (fresh k) (held k) (small k known (omega arith)) (are k known) r m lt le

  under : IsUnderTable steps book (tables_of fresh held)
  under = record {
    one_fresh = λ k m some known le.
        let low = base_first k known (omega arith) in
        let le' = below k 0 m known (omega arith) le in
        let f = modest.cheap_forward in let b = modest.cheap_reverse in
        entry_at_most (fresh k 0 m) (book.forward + book.reverse) (omega arith) (omega arith);
    faster_fresh = λ k l m known pos le some. entry_mono (fresh (suc k) (l - 1) m) (fresh k (l - 1) (room book k steps)) (below (suc k) (l - 1) m known (omega arith) some);
    split_fresh = λ k j l m known hj hl le some. fresh_split steps (room book k steps) book.forward (write_cost book k) (read_cost book k) (base k) (fresh k) (held k) (small k known (omega arith)) (are k known) j l m hj hl le some;
    stored_fresh = λ k l m known pos le some. fresh_stored steps (room book k steps) book.forward (write_cost book k) (read_cost book k) (base k) (fresh k) (held k) (small k known (omega arith)) (are k known) (l - 1) m (omega arith) some;
    one_held = λ k m known some.
        let within = room_le steps (slice_index_or (slots_of book) k (Count 0)) in
        let lt : 0 < steps = omega arith in
        let low = base_first k known lt in
        let e = (are k known).is_held 0 m lt some in
        let is_number = held_small steps (room book k steps) book.forward (write_cost book k) (read_cost book k) (base k) (fresh k) (held k) (small k known lt) (are k known) 0 m lt some in
        entry_at_most (held k 0 m) (read_cost book k + book.forward + book.reverse) (omega arith) is_number;
    faster_held = λ k l m known pos le some. held_base steps (room book (suc k) steps) book.forward (write_cost book (suc k)) (read_cost book (suc k)) (base (suc k)) (fresh (suc k)) (held (suc k)) (small (suc k) known (omega arith)) (are (suc k) known) (l - 1) m (omega arith) some;
    split_held = λ k j l m known hj hl le some. held_split steps (room book k steps) book.forward (write_cost book k) (read_cost book k) (base k) (fresh k) (held k) (small k known (omega arith)) (are k known) j l m hj hl le some;
  }

  module _ (s : Tables) (is : IsUnderTable steps book s) where
    abbrev AboveAt : ℕ → ℕ → Type 0
    AboveAt k r = Above (room book k steps) (fresh k) (held k) (s.fresh k) (s.held k) r

    level_above : (k : ℕ) → k < length book.levels →
        ((r m : ℕ) → r < steps → m ≤ room book k steps → IsAtMost (s.fresh k (suc r) m) (entry (base k r))) →
        ((r m : ℕ) → r < steps → m < room book k steps → IsAtMost (s.held k (suc r) m) (sum_of (read_cost book k) (number 0) (entry (base k r)))) →
        (r : ℕ) → r < steps → AboveAt k r
    level_above k known base_fresh base_held r lt =
        above steps (room book k steps) book.forward (write_cost book k) (read_cost book k) (base k) (fresh k) (held k) (small k known (omega arith)) (are k known) (s.fresh k) (s.held k)
        base_fresh base_held (λ j l m hj hl le some. is.split_fresh k j l m known hj hl le some) (λ j l m hj hl le some. is.split_held k j l m known hj hl le some) r lt

    first_fresh_above : (r m : ℕ) → 0 < length book.levels → r < steps → m ≤ room book 0 steps → IsAtMost (s.fresh 0 (suc r) m) (entry (base 0 r))
    first_fresh_above zero m known lt some = reach (s.fresh 0 1 m) (book.forward + book.reverse) (book.forward + book.reverse) (is.one_fresh 0 m lt known some) (omega arith)
    first_fresh_above (suc r) m known lt some = tt

    first_held_above : (r m : ℕ) → 0 < length book.levels → r < steps → m < room book 0 steps → IsAtMost (s.held 0 (suc r) m) (sum_of (read_cost book 0) (number 0) (entry (base 0 r)))
    first_held_above zero m known lt some =
        let f = modest.cheap_forward in let b = modest.cheap_reverse in
        let is_number : book.forward + book.reverse < never_in_memory = omega arith in
        let le : read_cost book 0 + book.forward + book.reverse ≤ read_cost book 0 + 0 + (book.forward + book.reverse) = omega arith in
        subst (λ e. IsAtMost (s.held 0 1 m) (sum_of (read_cost book 0) (number 0) e)) (sym (entry_number (book.forward + book.reverse) is_number))
        (at_most_trans (s.held 0 1 m) (number (read_cost book 0 + book.forward + book.reverse)) (number (read_cost book 0 + 0 + (book.forward + book.reverse))) (is.one_held 0 m known some) le)
    first_held_above (suc r) m known lt some = tt

    all_above : (k : ℕ) → k < length book.levels → (r : ℕ) → r < steps → AboveAt k r
    all_above zero known = level_above zero known (λ r m lt some. first_fresh_above r m known lt some) (λ r m lt some. first_held_above r m known lt some)
    all_above (suc k) known =
        let before = all_above k (omega arith) in
        level_above (suc k) known
        (λ r m lt some. at_most_trans (s.fresh (suc k) (suc r) m) (s.fresh k (suc r) (room book k steps)) (entry (base (suc k) r))
        (is.faster_fresh k (suc r) m known (omega arith) (omega arith) some) ((before r lt).fresh_above (room book k steps) (omega arith)))
        (λ r m lt some. at_most_trans (s.held (suc k) (suc r) m) (sum_of (read_cost book (suc k)) (number 0) (s.fresh k (suc r) (room book k steps))) (sum_of (read_cost book (suc k)) (number 0) (entry (base (suc k) r)))
        (is.faster_held k (suc r) m known (omega arith) (omega arith) some)
        (more_of (read_cost book (suc k)) (s.fresh k (suc r) (room book k steps)) (entry (base (suc k) r)) ((before r lt).fresh_above (room book k steps) (omega arith))))

  pub greatest : IsGreatest steps book (tables_of fresh held)
  greatest = record {
    under = under;
    fresh = λ s is k l m known pos le some. let e : suc (l - 1) ≡ l = omega arith in
        subst (λ n. IsAtMost (s.fresh k n m) (entry (fresh k (l - 1) m))) e ((all_above s is k known (l - 1) (omega arith)).fresh_above m some);
    held = λ s is k l m known pos le some. let e : suc (l - 1) ≡ l = omega arith in
        subst (λ n. IsAtMost (s.held k n m) (entry (held k (l - 1) m))) e ((all_above s is k known (l - 1) (omega arith)).held_above m some);
  }
