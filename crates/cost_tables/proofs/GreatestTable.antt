-- The levels' numbers are the greatest under-table.
use Rattle.std.proofs.Common.{◌≡◌, ℕ, zero, suc, ◌+◌, ◌-◌, ◌*◌, ◌<◌, ◌≤◌, sym, ap, ◌∙◌, subst, add-one, arith, inl, inr}
use Rattle.std.proofs.lemmas.Bool.{cases_lt}
use Rattle.level_book.specs.UnderTable.{IsAtMost, sum_of, Entry, number, never}
use Rattle.cost_tables.specs.Entries.{never_in_memory, entry, least_split}
use Rattle.cost_tables.specs.Levels.{IsLevel}
use Rattle.cost_tables.proofs.Splits.{min_cases, entry_number, entry_never, at_most_trans, sum_at_most, entry_mono, entry_sum, split_least, split_attained, IsSmall, held_small, fresh_small}

pub reach : (a : Entry) (x n : ℕ) → IsAtMost a (number n) → n ≤ x → IsAtMost a (entry x)
reach a x n h le = at_most_trans a (entry n) (entry x) (at_most_trans a (number n) (entry n) h (own n)) (entry_mono n x le)
  where
    own : (n : ℕ) → IsAtMost (number n) (entry n)
    own n = elim (cases_lt n never_in_memory) [
      | inl lt ↦ subst (λ e. IsAtMost (number n) e) (sym (entry_number n lt)) (let le : n ≤ n = omega arith in le)
      | inr ge ↦ subst (λ e. IsAtMost (number n) e) (sym (none n ge)) tt
    ]
      where
        none : (n : ℕ) → never_in_memory ≤ n → entry n ≡ never
        none n ge = entry_never n ge

pub from_entry : (a : Entry) (x : ℕ) → IsAtMost a (entry x) → x < never_in_memory → IsAtMost a (number x)
from_entry a x h lt = subst (λ e. IsAtMost a e) (entry_number x lt) h

pub more_of : (n : ℕ) (a b : Entry) → IsAtMost a b → IsAtMost (sum_of n (number 0) a) (sum_of n (number 0) b)
more_of n a never h = tt
more_of n never (number y) h = absurd h
more_of n (number x) (number y) h = omega arith

pub at_split : (forward : ℕ) (fresh held : ℕ → ℕ) (j l : ℕ) → 1 ≤ j → 1 ≤ l → least_split forward fresh held (j + l - 1) (j + l - 1) ≤ j * forward + fresh (l - 1) + held (j - 1)
at_split forward fresh held j l hj hl =
    let least = split_least forward fresh held (j + l - 1) (j + l - 1) (j - 1) (omega arith) in
    let e : j - 1 + 1 ≡ j = omega arith in
    let f : j + l - 1 - (j - 1 + 1) ≡ l - 1 = omega arith in
    let same : (j - 1 + 1) * forward + fresh (j + l - 1 - (j - 1 + 1)) + held (j - 1) ≡ j * forward + fresh (l - 1) + held (j - 1) = (λ t. e t * forward + fresh (f t) + held (j - 1)) in
    omega arith

-- the entries of another table in row r are at most a level's
pub record Above (room : ℕ) (fresh held : ℕ → ℕ → ℕ) (f h : ℕ → ℕ → Entry) (r : ℕ) : Type 0 where
  pub fresh_above : (m : ℕ) → m ≤ room → IsAtMost (f (suc r) m) (entry (fresh r m))
  pub held_above : (m : ℕ) → m < room → IsAtMost (h (suc r) m) (entry (held r m))

-- one level
module _ (steps room forward write read : ℕ) (base : ℕ → ℕ) (fresh held : ℕ → ℕ → ℕ) (small : IsSmall steps room forward write read base) (is : IsLevel steps room forward write read base fresh held) where
  pub below_base : (r m : ℕ) → r < steps → m ≤ room → fresh r m ≤ base r
  below_base r zero lt le = let e = is.none_free r lt in omega arith
  below_base r (suc m) lt le = let e = is.some_free r m lt (omega arith) in omega arith

  pub fresh_split : (j l m : ℕ) → 1 ≤ j → 1 ≤ l → j + l ≤ steps → suc m ≤ room → IsAtMost (entry (fresh (j + l - 1) (suc m))) (sum_of (write + j * forward) (entry (fresh (l - 1) m)) (entry (held (j - 1) m)))
  fresh_split j l m hj hl le some =
      let e = is.some_free (j + l - 1) m (omega arith) (omega arith) in
      let least = at_split forward (λ q. fresh q m) (λ q. held q m) j l hj hl in
      entry_sum (fresh (j + l - 1) (suc m)) (write + j * forward) (fresh (l - 1) m) (held (j - 1) m) (omega arith)
      (fresh_small steps room forward write read base fresh held small is (j + l - 1) m (omega arith) (omega arith))

  pub held_split : (j l m : ℕ) → 1 ≤ j → 1 ≤ l → j + l ≤ steps → m < room → IsAtMost (entry (held (j + l - 1) m)) (sum_of (read + j * forward) (entry (fresh (l - 1) m)) (entry (held (j - 1) m)))
  held_split j l m hj hl le some =
      let e = is.is_held (j + l - 1) m (omega arith) (omega arith) in
      let least = at_split forward (λ q. fresh q m) (λ q. held q m) j l hj hl in
      entry_sum (held (j + l - 1) m) (read + j * forward) (fresh (l - 1) m) (held (j - 1) m) (omega arith)
      (held_small steps room forward write read base fresh held small is (j + l - 1) m (omega arith) (omega arith))

  pub fresh_stored : (r m : ℕ) → r < steps → suc m ≤ room → IsAtMost (entry (fresh r (suc m))) (sum_of write (number 0) (entry (held r m)))
  fresh_stored r m lt some =
      let e = is.some_free r m lt (omega arith) in
      let f = is.is_held r m lt (omega arith) in
      entry_sum (fresh r (suc m)) write 0 (held r m) (omega arith) (fresh_small steps room forward write read base fresh held small is r m lt (omega arith))

  pub held_base : (r m : ℕ) → r < steps → m < room → IsAtMost (entry (held r m)) (sum_of read (number 0) (entry (base r)))
  held_base r m lt some =
      let f = is.is_held r m lt some in
      entry_sum (held r m) read 0 (base r) (omega arith) (held_small steps room forward write read base fresh held small is r m lt some)

  -- what else meets the clauses is at most the level's numbers
  module _ (f h : ℕ → ℕ → Entry)
      (base_fresh : (r m : ℕ) → r < steps → m ≤ room → IsAtMost (f (suc r) m) (entry (base r)))
      (base_held : (r m : ℕ) → r < steps → m < room → IsAtMost (h (suc r) m) (sum_of read (number 0) (entry (base r))))
      (split_fresh : (j l m : ℕ) → 1 ≤ j → 1 ≤ l → j + l ≤ steps → suc m ≤ room → IsAtMost (f (j + l) (suc m)) (sum_of (write + j * forward) (f l m) (h j m)))
      (split_held : (j l m : ℕ) → 1 ≤ j → 1 ≤ l → j + l ≤ steps → m < room → IsAtMost (h (j + l) m) (sum_of (read + j * forward) (f l m) (h j m))) where
    abbrev At : ℕ → Type 0
    At r = Above room fresh held f h r

    -- where the least split is a is_number, the split that gives it is one for the other table too
    by_split : (r m n : ℕ) → r < steps → m < room → ((q : ℕ) → q < r → At q) → least_split forward (λ q. fresh q m) (λ q. held q m) r r < never_in_memory →
        (j : ℕ) × (l : ℕ) × (1 ≤ j) × (1 ≤ l) × (j + l ≡ suc r) × IsAtMost (sum_of (n + j * forward) (f l m) (h j m)) (number (n + least_split forward (λ q. fresh q m) (λ q. held q m) r r))
    by_split r m n lt some before is_number =
        let S = split_attained forward (λ q. fresh q m) (λ q. held q m) r r is_number in
        let i = S.0 in let q = r - (i + 1) in
        let below = S.1 in let is_it = S.2 in
        let other = held_small steps room forward write read base fresh held small is i m (omega arith) some in
        let product : suc i * forward ≡ (i + 1) * forward = ap (λ k. k * forward) (sym (add-one i)) in
        let fq : fresh q m < never_in_memory = omega arith in (
          suc i,
          suc q,
          omega arith,
          omega arith,
          omega arith,
          sum_at_most (f (suc q) m) (h (suc i) m) (n + suc i * forward) (fresh q m) (held i m) (n + least_split forward (λ q. fresh q m) (λ q. held q m) r r)
              (from_entry (f (suc q) m) (fresh q m) ((before q (omega arith)).fresh_above m (omega arith)) fq)
              (from_entry (h (suc i) m) (held i m) ((before i (omega arith)).held_above m some) other)
              (omega arith),
        )

    fresh_step : (r m : ℕ) → r < steps → m ≤ room → ((q : ℕ) → q < r → At q) → IsAtMost (f (suc r) m) (entry (fresh r m))
    fresh_step r zero lt le before = subst (λ x. IsAtMost (f (suc r) 0) (entry x)) (sym (is.none_free r lt)) (base_fresh r 0 lt le)
    fresh_step r (suc m) lt le before =
        let e = is.some_free r m lt (omega arith) in
        let is_number = fresh_small steps room forward write read base fresh held small is r m lt (omega arith) in
        let S = least_split forward (λ q. fresh q m) (λ q. held q m) r r in
        elim (min_cases (base r) (write + S)) [
          | inl b ↦ subst (λ x. IsAtMost (f (suc r) (suc m)) (entry x)) (sym (e ∙ b)) (base_fresh r (suc m) lt le)
          | inr b ↦
              let s = by_split r m write lt (omega arith) before (omega arith) in
              let own = split_fresh s.0 s.1 m s.2 s.3 (omega (arith, s.4)) le in
              reach (f (suc r) (suc m)) (fresh r (suc m)) (write + S)
              (subst (λ l. IsAtMost (f l (suc m)) (number (write + S))) s.4 (at_most_trans (f (s.0 + s.1) (suc m)) (sum_of (write + s.0 * forward) (f s.1 m) (h s.0 m)) (number (write + S)) own s.5))
              (omega arith)
        ]

    held_step : (r m : ℕ) → r < steps → m < room → ((q : ℕ) → q < r → At q) → IsAtMost (h (suc r) m) (entry (held r m))
    held_step r m lt le before =
        let e = is.is_held r m lt le in
        let is_number = held_small steps room forward write read base fresh held small is r m lt le in
        let S = least_split forward (λ q. fresh q m) (λ q. held q m) r r in
        elim (min_cases (base r) S) [
          | inl b ↦
              let low : base r < never_in_memory = omega arith in
              reach (h (suc r) m) (held r m) (read + 0 + base r) (subst (λ x. IsAtMost (h (suc r) m) (sum_of read (number 0) x)) (entry_number (base r) low) (base_held r m lt le)) (omega arith)
          | inr b ↦
              let s = by_split r m read lt le before (omega arith) in
              let own = split_held s.0 s.1 m s.2 s.3 (omega (arith, s.4)) le in
              reach (h (suc r) m) (held r m) (read + S)
              (subst (λ l. IsAtMost (h l m) (number (read + S))) s.4 (at_most_trans (h (s.0 + s.1) m) (sum_of (read + s.0 * forward) (f s.1 m) (h s.0 m)) (number (read + S)) own s.5))
              (omega arith)
        ]

    all_before : (n : ℕ) → n ≤ steps → (q : ℕ) → q < n → At q
    all_before zero le q h = absurd (omega arith)
    all_before (suc n) le q h =
        let before = all_before n (omega arith) in
        elim (cases_lt q n) [
          | inl lt ↦ before q lt
          | inr ge ↦ let e : n ≡ q = omega arith in
              subst At e (record { fresh_above = λ m some. fresh_step n m (omega arith) some before; held_above = λ m some. held_step n m (omega arith) some before })
        ]

    pub above : (r : ℕ) → r < steps → At r
    above r lt = all_before steps (omega arith) r lt
