-- The tables over both levels are the greatest, over the greatest ones of level 0 alone.
use Rattle.std.proofs.Common.{◌≡◌, ℕ, zero, suc, ◌+◌, ◌-◌, ◌*◌, ◌<◌, ◌≤◌, List, [], ◌∷◌, sym, ap, ◌∙◌, subst, arith}
use Rattle.level_book.specs.declared.book.Level.{Level}
use Rattle.level_book.specs.BookCosts.{BookCosts, room}
use Rattle.level_book.specs.UnderTable.{Entry, number, never, Tables, IsAtMost, IsUnderTable, IsGreatest, sum_of, write_cost, read_cost}
use Rattle.level_book.specs.DiskUnderTable.{DiskTables, IsDiskUnderTable, IsGreatestDisk}
use Rattle.cost_tables.specs.Entries.{entry}
use Rattle.disk_gen.specs.DiskRevolveList.{fast_tables}
use Rattle.disk_gen.proofs.DiskColumns.{AreColumns, AreSmall, fast_clause, split_clause, stored_clause, moved_clause, copied_clause, fresh_above, held_above}

-- the disk tables of columns, over tables of level 0
abbrev pub over : Tables → (ℕ → ℕ) → (ℕ → ℕ) → DiskTables
over t fresh held = record { fresh = t.fresh 0; held = t.held 0; disk_fresh = λ l. entry (fresh (l - 1)); disk_held = λ l. entry (held (l - 1)) }

-- tables of the fastest level, with no cost for the other
abbrev beside : Tables → DiskTables
beside s = record { fresh = s.fresh 0; held = s.held 0; disk_fresh = λ _. number 0; disk_held = λ _. number 0 }

zero_least : (e : Entry) → IsAtMost (number 0) e
zero_least (number n) = omega arith
zero_least never = tt

module _ (steps f r : ℕ) (x : Level) (rest : List Level) where
  abbrev book : BookCosts
  book = record { forward = f; reverse = r; levels = x ∷ rest }

  abbrev own : BookCosts
  own = record { forward = f; reverse = r; levels = x ∷ [] }

  -- the part of level 0 of a disk under-table is an under-table
  pub fast_under : (s : DiskTables) → IsDiskUnderTable steps book s → IsUnderTable steps own (fast_tables s)
  fast_under s is = record {
    one_fresh = one_fresh';
    faster_fresh = λ k l m known. absurd (omega arith);
    split_fresh = split_fresh';
    stored_fresh = stored_fresh';
    one_held = one_held';
    faster_held = λ k l m known. absurd (omega arith);
    split_held = split_held';
  }
    where
      one_fresh' : (k m : ℕ) → 1 ≤ steps → k < 1 → m ≤ room own k steps → IsAtMost (s.fresh 1 m) (number (f + r))
      one_fresh' zero m some known le = is.one_fresh m some le
      one_fresh' (suc k) m some known le = absurd (omega arith)

      split_fresh' : (k j l m : ℕ) → k < 1 → 1 ≤ j → 1 ≤ l → j + l ≤ steps → suc m ≤ room own k steps → IsAtMost (s.fresh (j + l) (suc m)) (sum_of (write_cost own k + j * f) (s.fresh l m) (s.held j m))
      split_fresh' zero j l m known hj hl le some = is.split_fresh j l m hj hl le some
      split_fresh' (suc k) j l m known hj hl le some = absurd (omega arith)

      stored_fresh' : (k l m : ℕ) → k < 1 → 1 ≤ l → l ≤ steps → suc m ≤ room own k steps → IsAtMost (s.fresh l (suc m)) (sum_of (write_cost own k) (number 0) (s.held l m))
      stored_fresh' zero l m known one le some = is.stored_fresh l m one le some
      stored_fresh' (suc k) l m known one le some = absurd (omega arith)

      one_held' : (k m : ℕ) → k < 1 → m < room own k steps → IsAtMost (s.held 1 m) (number (read_cost own k + f + r))
      one_held' zero m known some = is.one_held m some
      one_held' (suc k) m known some = absurd (omega arith)

      split_held' : (k j l m : ℕ) → k < 1 → 1 ≤ j → 1 ≤ l → j + l ≤ steps → m < room own k steps → IsAtMost (s.held (j + l) m) (sum_of (read_cost own k + j * f) (s.fresh l m) (s.held j m))
      split_held' zero j l m known hj hl le some = is.split_held j l m hj hl le some
      split_held' (suc k) j l m known hj hl le some = absurd (omega arith)

  -- an under-table of level 0 is part of a disk under-table
  beside_under : (s : Tables) → IsUnderTable steps own s → IsDiskUnderTable steps book (beside s)
  beside_under s is = record {
    one_fresh = λ m some le. is.one_fresh 0 m some (omega arith) le;
    split_fresh = λ j l m hj hl le some. is.split_fresh 0 j l m (omega arith) hj hl le some;
    stored_fresh = λ l m one le some. is.stored_fresh 0 l m (omega arith) one le some;
    one_held = λ m some. is.one_held 0 m (omega arith) some;
    split_held = λ j l m hj hl le some. is.split_held 0 j l m (omega arith) hj hl le some;
    fast_disk = λ l one le. zero_least (s.fresh 0 l (room book 0 steps));
    split_disk = λ j l hj hl le. omega arith;
    stored_disk = λ l one le. omega arith;
    moved_disk = λ l one le. zero_least (sum_of (read_cost book 1) (number 0) (s.fresh 0 l (room book 0 steps)));
    copied_disk = λ j l hj hl le. zero_least (sum_of (read_cost book 1 + j * f) (s.fresh 0 l (room book 0 steps)) (number 0));
  }

  -- the part of level 0 of the greatest disk under-table is the greatest
  pub fast_greatest : (t : DiskTables) → IsGreatestDisk steps book t → IsGreatest steps own (fast_tables t)
  fast_greatest t is = record { under = fast_under t is.under; fresh = fresh'; held = held' }
    where
      fresh' : (s : Tables) → IsUnderTable steps own s → (k l m : ℕ) → k < 1 → 1 ≤ l → l ≤ steps → m ≤ room own k steps → IsAtMost (s.fresh k l m) (t.fresh l m)
      fresh' s js zero l m known one le some = is.fresh (beside s) (beside_under s js) l m one le some
      fresh' s js (suc k) l m known one le some = absurd (omega arith)

      held' : (s : Tables) → IsUnderTable steps own s → (k l m : ℕ) → k < 1 → 1 ≤ l → l ≤ steps → m < room own k steps → IsAtMost (s.held k l m) (t.held l m)
      held' s js zero l m known one le some = is.held (beside s) (beside_under s js) l m one le some
      held' s js (suc k) l m known one le some = absurd (omega arith)

  module _ (t : Tables) (is : IsGreatest steps own t) (fast fresh held : ℕ → ℕ) (seen : (q : ℕ) → q < steps → entry (fast q) ≡ t.fresh 0 (suc q) (room book 0 steps))
      (small : AreSmall steps f (write_cost book 1) (read_cost book 1) fast) (are : AreColumns steps f (write_cost book 1) (read_cost book 1) fast fresh held) where
    abbrev w : ℕ
    w = write_cost book 1

    abbrev c : ℕ
    c = read_cost book 1

    -- an entry of level 0 alone
    fast_seen : (l : ℕ) → 1 ≤ l → l ≤ steps → entry (fast (l - 1)) ≡ t.fresh 0 l (room book 0 steps)
    fast_seen l one le = let e : suc (l - 1) ≡ l = omega arith in seen (l - 1) (omega arith) ∙ ap (λ l. t.fresh 0 l (room book 0 steps)) e

    columns_under : IsDiskUnderTable steps book (over t fresh held)
    columns_under = record {
      one_fresh = λ m some le. is.under.one_fresh 0 m some (omega arith) le;
      split_fresh = λ j l m hj hl le some. is.under.split_fresh 0 j l m (omega arith) hj hl le some;
      stored_fresh = λ l m one le some. is.under.stored_fresh 0 l m (omega arith) one le some;
      one_held = λ m some. is.under.one_held 0 m (omega arith) some;
      split_held = λ j l m hj hl le some. is.under.split_held 0 j l m (omega arith) hj hl le some;
      fast_disk = λ l one le. subst (λ e. IsAtMost (entry (fresh (l - 1))) e) (fast_seen l one le) (fast_clause steps f w c fast fresh held small are l one le);
      split_disk = λ j l hj hl le. split_clause steps f w c fast fresh held small are j l hj hl le;
      stored_disk = λ l one le. stored_clause steps f w c fast fresh held small are l one le;
      moved_disk = λ l one le. subst (λ e. IsAtMost (entry (held (l - 1))) (sum_of c (number 0) e)) (fast_seen l one le) (moved_clause steps f w c fast fresh held small are l one le);
      copied_disk = λ j l hj hl le.
          subst (λ e. IsAtMost (entry (held (j + l - 1))) (sum_of (c + j * f) e (entry (held (j - 1))))) (fast_seen l hl (omega arith)) (copied_clause steps f w c fast fresh held small are j l hj hl le);
    }

    module _ (s : DiskTables) (js : IsDiskUnderTable steps book s) where
      base : (q : ℕ) → q < steps → IsAtMost (s.fresh (suc q) (room book 0 steps)) (entry (fast q))
      base q lt =
          let top : room book 0 steps ≤ room book 0 steps = omega arith in
          subst (λ e. IsAtMost (s.fresh (suc q) (room book 0 steps)) e) (sym (seen q lt)) (is.fresh (fast_tables s) (fast_under s js) 0 (suc q) (room book 0 steps) (omega arith) (omega arith) (omega arith) top)

      fresh_most : (l : ℕ) → 1 ≤ l → l ≤ steps → IsAtMost (s.disk_fresh l) (entry (fresh (l - 1)))
      fresh_most l one le =
          let e : suc (l - 1) ≡ l = omega arith in
          subst (λ n. IsAtMost (s.disk_fresh n) (entry (fresh (l - 1)))) e
          (fresh_above steps f w c fast fresh held small are (λ l. s.fresh l (room book 0 steps)) s.disk_fresh s.disk_held base js.fast_disk js.split_disk js.moved_disk js.copied_disk (l - 1) (omega arith))

      held_most : (l : ℕ) → 1 ≤ l → l ≤ steps → IsAtMost (s.disk_held l) (entry (held (l - 1)))
      held_most l one le =
          let e : suc (l - 1) ≡ l = omega arith in
          subst (λ n. IsAtMost (s.disk_held n) (entry (held (l - 1)))) e
          (held_above steps f w c fast fresh held small are (λ l. s.fresh l (room book 0 steps)) s.disk_fresh s.disk_held base js.fast_disk js.split_disk js.moved_disk js.copied_disk (l - 1) (omega arith))

    pub columns_greatest : IsGreatestDisk steps book (over t fresh held)
    columns_greatest = record {
      under = columns_under;
      fresh = λ s js l m one le some. is.fresh (fast_tables s) (fast_under s js) 0 l m (omega arith) one le some;
      held = λ s js l m one le some. is.held (fast_tables s) (fast_under s js) 0 l m (omega arith) one le some;
      disk_fresh = λ s js l one le. fresh_most s js l one le;
      disk_held = λ s js l one le. held_most s js l one le;
    }
