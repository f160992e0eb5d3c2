-- The columns over both levels are the greatest entries.
use Rattle.std.proofs.Common.{◌≡◌, ℕ, zero, suc, ◌+◌, ◌-◌, ◌*◌, ◌<◌, ◌≤◌, ◌^◌, min, sym, ap, ◌∙◌, subst, add-one, arith, inl, inr}
use Rattle.std.proofs.lemmas.Bool.{cases_lt}
use Rattle.level_book.specs.UnderTable.{Entry, number, IsAtMost, sum_of}
use Rattle.cost_tables.specs.Entries.{never_in_memory, entry, least_split}
use Rattle.cost_tables.proofs.Splits.{min_cases, entry_number, at_most_trans, sum_at_most, entry_mono, entry_sum, split_least, split_attained, step_costs}
use Rattle.cost_tables.proofs.GreatestTable.{reach, from_entry, more_of, at_split}

-- the columns, over what the stretches cost with level 0 alone; row r is for r + 1 steps
pub record AreColumns (steps forward write read : ℕ) (fast fresh held : ℕ → ℕ) : Type 0 where
  pub is_held : (r : ℕ) → r < steps → held r ≡ read + min (fast r) (least_split forward fast held r r)
  pub is_fresh : (r : ℕ) → r < steps → fresh r ≡ min (fast r) (write + least_split forward fresh held r r)

-- what the costs and the first row are within
pub record AreSmall (steps forward write read : ℕ) (fast : ℕ → ℕ) : Type 0 where
  pub few : steps ≤ 8192
  pub cheap_steps : forward < 2 ^ 32
  pub cheap_write : write < 2 ^ 32
  pub cheap_read : read < 2 ^ 32
  pub low : 0 < steps → fast 0 < 2 ^ 33

module _ (steps forward write read : ℕ) (fast fresh held : ℕ → ℕ) (small : AreSmall steps forward write read fast) (are : AreColumns steps forward write read fast fresh held) where
  pub below_fast : (r : ℕ) → r < steps → fresh r ≤ fast r
  below_fast r lt = let e = are.is_fresh r lt in omega arith

  held_within : (r : ℕ) → r < steps → held r ≤ (r + 1) * 2 ^ 46
  held_within zero lt = let e = are.is_held 0 lt in let low = small.low lt in omega arith
  held_within (suc r) lt =
      let e = are.is_held (suc r) lt in
      let before = held_within r (omega arith) in
      let least = split_least forward fast held (suc r) (suc r) r (omega arith) in
      let steps_cost = step_costs (r + 1) forward (omega arith) small.cheap_steps in
      let same : fast (suc r - (r + 1)) ≡ fast 0 = ap fast (omega arith) in
      let low = small.low (omega arith) in
      omega arith

  pub held_small : (r : ℕ) → r < steps → held r < never_in_memory
  held_small r lt = let within = held_within r lt in omega arith

  pub fresh_small : (r : ℕ) → r < steps → fresh r < never_in_memory
  fresh_small zero lt = let below = below_fast 0 lt in let low = small.low lt in omega arith
  fresh_small (suc r) lt =
      let e = are.is_fresh (suc r) lt in
      let before = held_within r (omega arith) in
      let first = below_fast 0 (omega arith) in
      let least = split_least forward fresh held (suc r) (suc r) r (omega arith) in
      let steps_cost = step_costs (r + 1) forward (omega arith) small.cheap_steps in
      let same : fresh (suc r - (r + 1)) ≡ fresh 0 = ap fresh (omega arith) in
      let low = small.low (omega arith) in
      omega arith

  pub fast_clause : (l : ℕ) → 1 ≤ l → l ≤ steps → IsAtMost (entry (fresh (l - 1))) (entry (fast (l - 1)))
  fast_clause l one le = entry_mono (fresh (l - 1)) (fast (l - 1)) (below_fast (l - 1) (omega arith))

  pub split_clause : (j l : ℕ) → 1 ≤ j → 1 ≤ l → j + l ≤ steps → IsAtMost (entry (fresh (j + l - 1))) (sum_of (write + j * forward) (entry (fresh (l - 1))) (entry (held (j - 1))))
  split_clause j l hj hl le =
      let e = are.is_fresh (j + l - 1) (omega arith) in
      let least = at_split forward fresh held j l hj hl in
      entry_sum (fresh (j + l - 1)) (write + j * forward) (fresh (l - 1)) (held (j - 1)) (omega arith) (fresh_small (j + l - 1) (omega arith))

  -- storing without a split costs no less, since what is held is fast or is split
  stored_le : (r : ℕ) → r < steps → fresh r ≤ write + 0 + held r
  stored_le r lt =
      let e = are.is_held r lt in
      let f = are.is_fresh r lt in
      let is_number = held_small r lt in
      elim (min_cases (fast r) (least_split forward fast held r r)) [
        | inl b ↦ omega arith
        | inr b ↦
            let s = split_attained forward fast held r r (omega arith) in
            let i = s.0 in let within = s.1 in let value = s.2 in
            let other = split_least forward fresh held r r i within in
            let below = below_fast (r - (i + 1)) (omega arith) in
            omega arith
      ]

  pub stored_clause : (l : ℕ) → 1 ≤ l → l ≤ steps → IsAtMost (entry (fresh (l - 1))) (sum_of write (number 0) (entry (held (l - 1))))
  stored_clause l one le = entry_sum (fresh (l - 1)) write 0 (held (l - 1)) (stored_le (l - 1) (omega arith)) (fresh_small (l - 1) (omega arith))

  pub moved_clause : (l : ℕ) → 1 ≤ l → l ≤ steps → IsAtMost (entry (held (l - 1))) (sum_of read (number 0) (entry (fast (l - 1))))
  moved_clause l one le = let e = are.is_held (l - 1) (omega arith) in entry_sum (held (l - 1)) read 0 (fast (l - 1)) (omega arith) (held_small (l - 1) (omega arith))

  pub copied_clause : (j l : ℕ) → 1 ≤ j → 1 ≤ l → j + l ≤ steps → IsAtMost (entry (held (j + l - 1))) (sum_of (read + j * forward) (entry (fast (l - 1))) (entry (held (j - 1))))
  copied_clause j l hj hl le =
      let e = are.is_held (j + l - 1) (omega arith) in
      let least = at_split forward fast held j l hj hl in
      entry_sum (held (j + l - 1)) (read + j * forward) (fast (l - 1)) (held (j - 1)) (omega arith) (held_small (j + l - 1) (omega arith))

  -- what else meets the clauses, over b for level 0 alone, is at most the columns
  module _ (b f h : ℕ → Entry)
      (base : (r : ℕ) → r < steps → IsAtMost (b (suc r)) (entry (fast r)))
      (fast_f : (l : ℕ) → 1 ≤ l → l ≤ steps → IsAtMost (f l) (b l))
      (split_f : (j l : ℕ) → 1 ≤ j → 1 ≤ l → j + l ≤ steps → IsAtMost (f (j + l)) (sum_of (write + j * forward) (f l) (h j)))
      (moved_h : (l : ℕ) → 1 ≤ l → l ≤ steps → IsAtMost (h l) (sum_of read (number 0) (b l)))
      (copied_h : (j l : ℕ) → 1 ≤ j → 1 ≤ l → j + l ≤ steps → IsAtMost (h (j + l)) (sum_of (read + j * forward) (b l) (h j))) where
    abbrev HeldAt : ℕ → Type 0
    HeldAt r = IsAtMost (h (suc r)) (entry (held r))

    abbrev FreshAt : ℕ → Type 0
    FreshAt r = IsAtMost (f (suc r)) (entry (fresh r))

    -- where the least split is a number, the split that gives it is one for the other tables too
    by_split : (u : ℕ → ℕ) (U : ℕ → Entry) (r n : ℕ) → r < steps → ((q : ℕ) → q < r → IsAtMost (U (suc q)) (entry (u q))) → ((q : ℕ) → q < r → HeldAt q) → least_split forward u held r r < never_in_memory →
        (j : ℕ) × (l : ℕ) × (1 ≤ j) × (1 ≤ l) × (j + l ≡ suc r) × IsAtMost (sum_of (n + j * forward) (U l) (h j)) (number (n + least_split forward u held r r))
    by_split u U r n lt later before is_number =
        let S = split_attained forward u held r r is_number in
        let i = S.0 in let q = r - (i + 1) in
        let below = S.1 in let is_it = S.2 in
        let other = held_small i (omega arith) in
        let product : suc i * forward ≡ (i + 1) * forward = ap (λ k. k * forward) (sym (add-one i)) in
        let uq : u q < never_in_memory = omega arith in (
          suc i,
          suc q,
          omega arith,
          omega arith,
          omega arith,
          sum_at_most (U (suc q)) (h (suc i)) (n + suc i * forward) (u q) (held i) (n + least_split forward u held r r)
              (from_entry (U (suc q)) (u q) (later q (omega arith)) uq)
              (from_entry (h (suc i)) (held i) (before i (omega arith)) other)
              (omega arith),
        )

    held_step : (r : ℕ) → r < steps → ((q : ℕ) → q < r → HeldAt q) → HeldAt r
    held_step r lt before =
        let e = are.is_held r lt in
        let is_number = held_small r lt in
        let S = least_split forward fast held r r in
        elim (min_cases (fast r) S) [
          | inl first ↦
              let low : fast r < never_in_memory = omega arith in
              let own = at_most_trans (h (suc r)) (sum_of read (number 0) (b (suc r))) (sum_of read (number 0) (entry (fast r))) (moved_h (suc r) (omega arith) (omega arith)) (more_of read (b (suc r)) (entry (fast r)) (base r lt)) in
              reach (h (suc r)) (held r) (read + 0 + fast r) (subst (λ x. IsAtMost (h (suc r)) (sum_of read (number 0) x)) (entry_number (fast r) low) own) (omega arith)
          | inr second ↦
              let s = by_split fast b r read lt (λ q h. base q (omega arith)) before (omega arith) in
              let own = copied_h s.0 s.1 s.2 s.3 (omega (arith, s.4)) in
              reach (h (suc r)) (held r) (read + S)
              (subst (λ l. IsAtMost (h l) (number (read + S))) s.4 (at_most_trans (h (s.0 + s.1)) (sum_of (read + s.0 * forward) (b s.1) (h s.0)) (number (read + S)) own s.5))
              (omega arith)
        ]

    held_before : (n : ℕ) → n ≤ steps → (q : ℕ) → q < n → HeldAt q
    held_before zero le q lt = absurd (omega arith)
    held_before (suc n) le q lt =
        let before = held_before n (omega arith) in
        elim (cases_lt q n) [ inl less ↦ before q less | inr ge ↦ let e : n ≡ q = omega arith in subst HeldAt e (held_step n (omega arith) before) ]

    pub held_above : (r : ℕ) → r < steps → HeldAt r
    held_above r lt = held_before steps (omega arith) r lt

    fresh_step : (r : ℕ) → r < steps → ((q : ℕ) → q < r → FreshAt q) → FreshAt r
    fresh_step r lt before =
        let e = are.is_fresh r lt in
        let is_number = fresh_small r lt in
        let S = least_split forward fresh held r r in
        elim (min_cases (fast r) (write + S)) [
          | inl first ↦
              subst (λ x. IsAtMost (f (suc r)) (entry x)) (sym (e ∙ first))
              (at_most_trans (f (suc r)) (b (suc r)) (entry (fast r)) (fast_f (suc r) (omega arith) (omega arith)) (base r lt))
          | inr second ↦
              let s = by_split fresh f r write lt before (λ q h. held_above q (omega arith)) (omega arith) in
              let own = split_f s.0 s.1 s.2 s.3 (omega (arith, s.4)) in
              reach (f (suc r)) (fresh r) (write + S)
              (subst (λ l. IsAtMost (f l) (number (write + S))) s.4 (at_most_trans (f (s.0 + s.1)) (sum_of (write + s.0 * forward) (f s.1) (h s.0)) (number (write + S)) own s.5))
              (omega arith)
        ]

    fresh_before : (n : ℕ) → n ≤ steps → (q : ℕ) → q < n → FreshAt q
    fresh_before zero le q lt = absurd (omega arith)
    fresh_before (suc n) le q lt =
        let before = fresh_before n (omega arith) in
        elim (cases_lt q n) [ inl less ↦ before q less | inr ge ↦ let e : n ≡ q = omega arith in subst FreshAt e (fresh_step n (omega arith) before) ]

    pub fresh_above : (r : ℕ) → r < steps → FreshAt r
    fresh_above r lt = fresh_before steps (omega arith) r lt
