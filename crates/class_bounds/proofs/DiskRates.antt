-- A disk under-table as the tables of the disk class. Behind EndForward nothing is stored on level 1, so that a stretch there has
-- level 0 alone; before it nothing is read.
use Rattle.std.proofs.Common.{◌≡◌, ℕ, zero, suc, ◌+◌, ◌*◌, ◌<◌, ◌≤◌, Bool, true, false, not, length, refl, sym, arith, true≢false}
use Rattle.level_book.specs.BookCosts.{BookCosts, room}
use Rattle.level_book.specs.UnderTable.{Entry, write_cost, read_cost}
use Rattle.level_book.specs.DiskUnderTable.{DiskTables, IsDiskUnderTable}
use Rattle.class_bounds.proofs.Bounds.{Within, within_more, within_entry, within_sum, within_one, same_row, same_entry, Rates, IsBound}

module _ (steps : ℕ) (book : BookCosts) (t : DiskTables) where
  abbrev fresh_on : Bool → ℕ → ℕ → ℕ → Entry
  fresh_on e zero l m = t.fresh l m
  fresh_on true (suc k) l m = t.fresh l (room book 0 steps)
  fresh_on false (suc k) l m = t.disk_fresh l

  abbrev held_on : ℕ → ℕ → ℕ → Entry
  held_on zero l m = t.held l m
  held_on (suc k) l m = t.disk_held l

  abbrev storing_on : Bool → ℕ → Bool
  storing_on e zero = true
  storing_on e (suc zero) = not e
  storing_on e (suc (suc k)) = true

  abbrev pub disk_rates : Rates
  disk_rates = record { fresh = fresh_on; held = held_on; storing = storing_on; reading = λ e. e }

  module _ (under : IsDiskUnderTable steps book t) (two : length book.levels ≡ 2) where
    -- one step that is fresh, on level 0
    one_step : (l m x : ℕ) → m ≤ room book 0 steps → l ≡ 1 → l ≤ steps → book.forward + book.reverse ≤ x → Within (t.fresh l m) x
    one_step l m x fits is most le =
        same_row (λ i. t.fresh i m) 1 l x (within_more (t.fresh 1 m) (book.forward + book.reverse) x (under.one_fresh m (omega arith) fits) le) (sym is)

    -- a stretch that uses level 0 alone, and one that is read from level 1 for the last time
    fast : (l x : ℕ) → 1 ≤ l → l ≤ steps → Within (t.fresh l (room book 0 steps)) x → Within (t.disk_fresh l) x
    fast l x one most w = within_entry (t.disk_fresh l) (t.fresh l (room book 0 steps)) x (under.fast_disk l one most) w

    moved : (l x z : ℕ) → 1 ≤ l → l ≤ steps → Within (t.fresh l (room book 0 steps)) x → read_cost book 1 + x ≤ z → Within (t.disk_held l) z
    moved l x z one most w le = within_one (t.disk_held l) (t.fresh l (room book 0 steps)) (read_cost book 1) x z (under.moved_disk l one most) w le

    one_fresh : (e : Bool) (k l m x : ℕ) → k < length book.levels → m ≤ room book k steps → l ≡ 1 → l ≤ steps → book.forward + book.reverse ≤ x → Within (fresh_on e k l m) x
    one_fresh e zero l m x h fits is most le = one_step l m x fits is most le
    one_fresh true (suc k) l m x h fits is most le = one_step l (room book 0 steps) x (omega arith) is most le
    one_fresh false (suc k) l m x h fits is most le = fast l x (omega arith) most (one_step l (room book 0 steps) x (omega arith) is most le)

    faster_fresh : (e : Bool) (k l m x : ℕ) → suc k < length book.levels → 1 ≤ l → l ≤ steps → m ≤ room book (suc k) steps →
        Within (fresh_on e k l (room book k steps)) x → Within (fresh_on e (suc k) l m) x
    faster_fresh true zero l m x h one most fits w = w
    faster_fresh false zero l m x h one most fits w = fast l x one most w
    faster_fresh e (suc k) l m x h one most fits w = absurd (omega arith)

    stored_fresh : (e : Bool) (k l m m' x z : ℕ) → storing_on e k ≡ true → k < length book.levels → 1 ≤ l → l ≤ steps → m ≤ room book k steps → m ≡ suc m' →
        Within (held_on k l m') x → write_cost book k + x ≤ z → Within (fresh_on e k l m) z
    stored_fresh e zero l m m' x z may h one most fits is w le =
        same_entry t.fresh l l (suc m') m z
        (within_one (t.fresh l (suc m')) (t.held l m') (write_cost book 0) x z (under.stored_fresh l m' one most (omega arith)) w le) refl (sym is)
    stored_fresh true (suc zero) l m m' x z may h one most fits is w le = absurd (true≢false (sym may))
    stored_fresh false (suc zero) l m m' x z may h one most fits is w le =
        within_one (t.disk_fresh l) (t.disk_held l) (write_cost book 1) x z (under.stored_disk l one most) w le
    stored_fresh e (suc (suc k)) l m m' x z may h one most fits is w le = absurd (omega arith)

    split_fresh : (e : Bool) (k j l i m m' x y z : ℕ) → storing_on e k ≡ true → k < length book.levels → 1 ≤ j → 1 ≤ l → i ≡ j + l → i ≤ steps → m ≤ room book k steps → m ≡ suc m' →
        Within (fresh_on e k l m') x → Within (held_on k j m') y → write_cost book k + j * book.forward + x + y ≤ z → Within (fresh_on e k i m) z
    split_fresh e zero j l i m m' x y z may h one one' sum most fits is u w le =
        same_entry t.fresh (j + l) i (suc m') m z
        (within_sum (t.fresh (j + l) (suc m')) (t.fresh l m') (t.held j m') (write_cost book 0 + j * book.forward) x y z (under.split_fresh j l m' one one' (omega arith) (omega arith)) u w le) (sym sum) (sym is)
    split_fresh true (suc zero) j l i m m' x y z may h one one' sum most fits is u w le = absurd (true≢false (sym may))
    split_fresh false (suc zero) j l i m m' x y z may h one one' sum most fits is u w le =
        same_row t.disk_fresh (j + l) i z
        (within_sum (t.disk_fresh (j + l)) (t.disk_fresh l) (t.disk_held j) (write_cost book 1 + j * book.forward) x y z (under.split_disk j l one one' (omega arith)) u w le) (sym sum)
    split_fresh e (suc (suc k)) j l i m m' x y z may h one one' sum most fits is u w le = absurd (omega arith)

    one_held : (k l m x : ℕ) → k < length book.levels → m < room book k steps → l ≡ 1 → l ≤ steps → read_cost book k + book.forward + book.reverse ≤ x → Within (held_on k l m) x
    one_held zero l m x h fits is most le =
        same_row (λ i. t.held i m) 1 l x (within_more (t.held 1 m) (read_cost book 0 + book.forward + book.reverse) x (under.one_held m fits) le) (sym is)
    one_held (suc zero) l m x h fits is most le =
        moved l (book.forward + book.reverse) x (omega arith) most (one_step l (room book 0 steps) (book.forward + book.reverse) (omega arith) is most (omega arith)) (omega arith)
    one_held (suc (suc k)) l m x h fits is most le = absurd (omega arith)

    faster_held : (e : Bool) (k j l m x z : ℕ) → e ≡ true → k ≡ suc j → k < length book.levels → 1 ≤ l → l ≤ steps → m < room book k steps →
        Within (fresh_on e j l (room book j steps)) x → read_cost book k + x ≤ z → Within (held_on k l m) z
    faster_held e zero j l m x z may is h one most fits w le = absurd (omega arith)
    faster_held e (suc zero) zero l m x z may is h one most fits w le = moved l x z one most w le
    faster_held e (suc zero) (suc j) l m x z may is h one most fits w le = absurd (omega arith)
    faster_held e (suc (suc k)) j l m x z may is h one most fits w le = absurd (omega arith)

    split_held : (e : Bool) (k j l i m x y z : ℕ) → e ≡ true → k < length book.levels → 1 ≤ j → 1 ≤ l → i ≡ j + l → i ≤ steps → m < room book k steps →
        Within (fresh_on e k l m) x → Within (held_on k j m) y → read_cost book k + j * book.forward + x + y ≤ z → Within (held_on k i m) z
    split_held e zero j l i m x y z may h one one' sum most fits u w le =
        same_row (λ i. t.held i m) (j + l) i z
        (within_sum (t.held (j + l) m) (t.fresh l m) (t.held j m) (read_cost book 0 + j * book.forward) x y z (under.split_held j l m one one' (omega arith) fits) u w le) (sym sum)
    split_held true (suc zero) j l i m x y z may h one one' sum most fits u w le =
        same_row t.disk_held (j + l) i z
        (within_sum (t.disk_held (j + l)) (t.fresh l (room book 0 steps)) (t.disk_held j) (read_cost book 1 + j * book.forward) x y z (under.copied_disk j l one one' (omega arith)) u w le) (sym sum)
    split_held false (suc zero) j l i m x y z may h one one' sum most fits u w le = absurd (true≢false (sym may))
    split_held e (suc (suc k)) j l i m x y z may h one one' sum most fits u w le = absurd (omega arith)

    ended : (k l m x : ℕ) → k < length book.levels → 1 ≤ l → l ≤ steps → m ≤ room book k steps → Within (fresh_on true k l m) x → Within (fresh_on false k l m) x
    ended zero l m x h one most fits w = w
    ended (suc k) l m x h one most fits w = fast l x one most w

    pub disk_bound : IsBound steps book disk_rates
    disk_bound = record {
      one_fresh = one_fresh;
      faster_fresh = faster_fresh;
      stored_fresh = stored_fresh;
      split_fresh = split_fresh;
      one_held = one_held;
      faster_held = faster_held;
      split_held = split_held;
      ended = ended;
    }
