-- What a lower bound needs of tables. The clauses of a class's tables are stated once for both classes, of the numbers that
-- the entries are at most.
use Rattle.std.proofs.Common.{◌≡◌, ℕ, zero, suc, ◌+◌, ◌*◌, ◌<◌, ◌≤◌, Bool, true, false, length, subst, arith, inl, inr}
use Rattle.std.proofs.lemmas.Bool.{cases_lt}
use Rattle.level_book.specs.BookCosts.{BookCosts, room}
use Rattle.level_book.specs.UnderTable.{Entry, number, never, IsAtMost, sum_of, write_cost, read_cost}

-- an entry that is at most x
abbrev pub Within : Entry → ℕ → Type 0
Within e x = IsAtMost e (number x)

pub within_more : (e : Entry) (x y : ℕ) → Within e x → x ≤ y → Within e y
within_more (number n) x y w h = omega arith
within_more never x y w h = absurd w

pub within_entry : (e f : Entry) (x : ℕ) → IsAtMost e f → Within f x → Within e x
within_entry (number a) (number b) x le w = omega arith
within_entry never (number b) x le w = absurd le
within_entry e never x le w = absurd w

pub within_sum : (e f g : Entry) (n x y z : ℕ) → IsAtMost e (sum_of n f g) → Within f x → Within g y → n + x + y ≤ z → Within e z
within_sum (number a) (number b) (number c) n x y z le u v h = omega arith
within_sum never (number b) (number c) n x y z le u v h = absurd le
within_sum e (number b) never n x y z le u v h = absurd v
within_sum e never g n x y z le u v h = absurd u

-- the sum of a number and one entry
pub within_one : (e g : Entry) (n y z : ℕ) → IsAtMost e (sum_of n (number 0) g) → Within g y → n + y ≤ z → Within e z
within_one e g n y z le w h = within_sum e (number 0) g n 0 y z le (omega arith) w (omega arith)

-- an entry that is a number
pub least_from_bound : (e : Entry) (n x : ℕ) → e ≡ number n → Within e x → n ≤ x
least_from_bound e n x is w = let P : Entry → Type 0 = λ f. Within f x in subst P is w

-- an entry at equal numbers of steps, and of steps and slots
pub same_row : (f : ℕ → Entry) (l l' x : ℕ) → Within (f l) x → l ≡ l' → Within (f l') x
same_row f l l' x w e = let P : ℕ → Type 0 = λ i. Within (f i) x in subst P e w

pub same_entry : (f : ℕ → ℕ → Entry) (l l' m m' x : ℕ) → Within (f l m) x → l ≡ l' → m ≡ m' → Within (f l' m') x
same_entry f l l' m m' x w e g = same_row (f l') m m' x (same_row (λ i. f i m) l l' x w e) g

-- The tables of a class, for a level, a number of steps and a number of free slots of the level. `fresh` is asked with false
-- before EndForward, and with true behind it. A Store on a level is allowed where `storing` says so, and a Copy or a Move where
-- `reading` does.
pub record Rates : Type 0 where
  pub fresh : Bool → ℕ → ℕ → ℕ → Entry
  pub held : ℕ → ℕ → ℕ → Entry
  pub storing : Bool → ℕ → Bool
  pub reading : Bool → Bool

-- The clauses, under the names that they have for under-tables. Where a stretch of i steps is split, j steps are followed by l.
pub record IsBound (steps : ℕ) (book : BookCosts) (r : Rates) : Type 0 where
  pub one_fresh : (e : Bool) (k l m x : ℕ) → k < length book.levels → m ≤ room book k steps → l ≡ 1 → l ≤ steps → book.forward + book.reverse ≤ x → Within (r.fresh e k l m) x
  pub faster_fresh : (e : Bool) (k l m x : ℕ) → suc k < length book.levels → 1 ≤ l → l ≤ steps → m ≤ room book (suc k) steps →
      Within (r.fresh e k l (room book k steps)) x → Within (r.fresh e (suc k) l m) x
  pub stored_fresh : (e : Bool) (k l m m' x z : ℕ) → r.storing e k ≡ true → k < length book.levels → 1 ≤ l → l ≤ steps → m ≤ room book k steps → m ≡ suc m' →
      Within (r.held k l m') x → write_cost book k + x ≤ z → Within (r.fresh e k l m) z
  pub split_fresh : (e : Bool) (k j l i m m' x y z : ℕ) → r.storing e k ≡ true → k < length book.levels → 1 ≤ j → 1 ≤ l → i ≡ j + l → i ≤ steps → m ≤ room book k steps → m ≡ suc m' →
      Within (r.fresh e k l m') x → Within (r.held k j m') y → write_cost book k + j * book.forward + x + y ≤ z → Within (r.fresh e k i m) z
  pub one_held : (k l m x : ℕ) → k < length book.levels → m < room book k steps → l ≡ 1 → l ≤ steps → read_cost book k + book.forward + book.reverse ≤ x → Within (r.held k l m) x
  pub faster_held : (e : Bool) (k j l m x z : ℕ) → r.reading e ≡ true → k ≡ suc j → k < length book.levels → 1 ≤ l → l ≤ steps → m < room book k steps →
      Within (r.fresh e j l (room book j steps)) x → read_cost book k + x ≤ z → Within (r.held k l m) z
  pub split_held : (e : Bool) (k j l i m x y z : ℕ) → r.reading e ≡ true → k < length book.levels → 1 ≤ j → 1 ≤ l → i ≡ j + l → i ≤ steps → m < room book k steps →
      Within (r.fresh e k l m) x → Within (r.held k j m) y → read_cost book k + j * book.forward + x + y ≤ z → Within (r.held k i m) z
  -- what bounds a stretch behind EndForward bounds it before
  pub ended : (k l m x : ℕ) → k < length book.levels → 1 ≤ l → l ≤ steps → m ≤ room book k steps → Within (r.fresh true k l m) x → Within (r.fresh false k l m) x

module _ (steps : ℕ) (book : BookCosts) (r : Rates) (under : IsBound steps book r) where
  -- what bounds a stretch on a level with all its slots bounds it on a slower level
  pub slower_fresh : (e : Bool) (k j l m x : ℕ) → j < k → k < length book.levels → 1 ≤ l → l ≤ steps → m ≤ room book k steps →
      Within (r.fresh e j l (room book j steps)) x → Within (r.fresh e k l m) x
  slower_fresh e zero j l m x lt h one most fits w = absurd (omega arith)
  slower_fresh e (suc k) j l m x lt h one most fits w =
      under.faster_fresh e k l m x h one most fits
      (elim (cases_lt j k) [
        | inl below ↦ slower_fresh e k j l (room book k steps) x below (omega arith) one most (omega arith) w
        | inr past ↦ same_row (λ i. r.fresh e i l (room book i steps)) j k x w (omega arith)
      ])
