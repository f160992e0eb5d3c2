-- An under-table as the tables of the nested class. They don't ask for EndForward, and allow everything.
use Rattle.std.proofs.Common.{◌≡◌, ℕ, suc, ◌+◌, ◌*◌, ◌<◌, ◌≤◌, true, length, refl, sym, subst, arith}
use Rattle.level_book.specs.BookCosts.{BookCosts, room}
use Rattle.level_book.specs.UnderTable.{Tables, IsUnderTable, write_cost, read_cost}
use Rattle.class_bounds.proofs.Bounds.{Within, within_more, within_entry, within_sum, within_one, same_entry, Rates, IsBound}

abbrev pub nested_rates : Tables → Rates
nested_rates t = record { fresh = λ e. t.fresh; held = t.held; storing = λ e k. true; reading = λ e. true }

module _ (steps : ℕ) (book : BookCosts) (t : Tables) (under : IsUnderTable steps book t) where
  one_fresh : (k l m x : ℕ) → k < length book.levels → m ≤ room book k steps → l ≡ 1 → l ≤ steps → book.forward + book.reverse ≤ x → Within (t.fresh k l m) x
  one_fresh k l m x h fits is most le =
      same_entry (t.fresh k) 1 l m m x (within_more (t.fresh k 1 m) (book.forward + book.reverse) x (under.one_fresh k m (omega arith) h fits) le) (sym is) refl

  stored_fresh : (k l m m' x z : ℕ) → k < length book.levels → 1 ≤ l → l ≤ steps → m ≤ room book k steps → m ≡ suc m' →
      Within (t.held k l m') x → write_cost book k + x ≤ z → Within (t.fresh k l m) z
  stored_fresh k l m m' x z h one most fits is w le =
      same_entry (t.fresh k) l l (suc m') m z
      (within_one (t.fresh k l (suc m')) (t.held k l m') (write_cost book k) x z (under.stored_fresh k l m' h one most (omega arith)) w le) refl (sym is)

  split_fresh : (k j l i m m' x y z : ℕ) → k < length book.levels → 1 ≤ j → 1 ≤ l → i ≡ j + l → i ≤ steps → m ≤ room book k steps → m ≡ suc m' →
      Within (t.fresh k l m') x → Within (t.held k j m') y → write_cost book k + j * book.forward + x + y ≤ z → Within (t.fresh k i m) z
  split_fresh k j l i m m' x y z h one one' sum most fits is u w le =
      same_entry (t.fresh k) (j + l) i (suc m') m z
      (within_sum (t.fresh k (j + l) (suc m')) (t.fresh k l m') (t.held k j m') (write_cost book k + j * book.forward) x y z (under.split_fresh k j l m' h one one' (omega arith) (omega arith)) u w le) (sym sum) (sym is)

  one_held : (k l m x : ℕ) → k < length book.levels → m < room book k steps → l ≡ 1 → read_cost book k + book.forward + book.reverse ≤ x → Within (t.held k l m) x
  one_held k l m x h fits is le =
      same_entry (t.held k) 1 l m m x (within_more (t.held k 1 m) (read_cost book k + book.forward + book.reverse) x (under.one_held k m h fits) le) (sym is) refl

  faster_held : (k j l m x z : ℕ) → k ≡ suc j → k < length book.levels → 1 ≤ l → l ≤ steps → m < room book k steps →
      Within (t.fresh j l (room book j steps)) x → read_cost book k + x ≤ z → Within (t.held k l m) z
  faster_held k j l m x z is h one most fits w le =
      let P : ℕ → Type 0 = λ i. i < length book.levels → m < room book i steps → read_cost book i + x ≤ z → Within (t.held i l m) z in
      subst P (sym is)
      (λ h' fits' le'. within_one (t.held (suc j) l m) (t.fresh j l (room book j steps)) (read_cost book (suc j)) x z (under.faster_held j l m h' one most fits') w le')
      h fits le

  split_held : (k j l i m x y z : ℕ) → k < length book.levels → 1 ≤ j → 1 ≤ l → i ≡ j + l → i ≤ steps → m < room book k steps →
      Within (t.fresh k l m) x → Within (t.held k j m) y → read_cost book k + j * book.forward + x + y ≤ z → Within (t.held k i m) z
  split_held k j l i m x y z h one one' sum most fits u w le =
      same_entry (t.held k) (j + l) i m m z
      (within_sum (t.held k (j + l) m) (t.fresh k l m) (t.held k j m) (read_cost book k + j * book.forward) x y z (under.split_held k j l m h one one' (omega arith) fits) u w le) (sym sum) refl

  pub nested_bound : IsBound steps book (nested_rates t)
  nested_bound = record {
    one_fresh = λ e. one_fresh;
    faster_fresh = λ e k l m x h one most fits w. within_entry (t.fresh (suc k) l m) (t.fresh k l (room book k steps)) x (under.faster_fresh k l m h one most fits) w;
    stored_fresh = λ e k l m m' x z _. stored_fresh k l m m' x z;
    split_fresh = λ e k j l i m m' x y z _. split_fresh k j l i m m' x y z;
    one_held = λ k l m x h fits is _. one_held k l m x h fits is;
    faster_held = λ e k j l m x z _. faster_held k j l m x z;
    split_held = λ e k j l i m x y z _. split_held k j l i m x y z;
    ended = λ k l m x h one most fits w. w;
  }
