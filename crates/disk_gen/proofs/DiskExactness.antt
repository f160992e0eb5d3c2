-- The greatest tables over both levels are exact.
use Rattle.std.proofs.Common.{◌≡◌, ◌≢◌, ℕ, zero, suc, ◌+◌, ◌-◌, ◌*◌, ◌<◌, ◌≤◌, min, cond, nat_lt, List, [], ◌∷◌, length, refl, sym, ap, ◌∙◌, subst, add-one, arith, inl, inr}
use Rattle.std.proofs.lemmas.Bool.{cases_lt, lt-ltb, le-ltb}
use Rattle.level_book.specs.declared.book.Level.{Level}
use Rattle.level_book.specs.BookCosts.{BookCosts, room, IsWithinLimits}
use Rattle.level_book.specs.UnderTable.{Entry, number, never, IsAtMost, sum_of, write_cost, read_cost}
use Rattle.level_book.specs.DiskUnderTable.{DiskTables, IsGreatestDisk}
use Rattle.cost_tables.specs.Entries.{never_in_memory, entry, least_split}
use Rattle.cost_tables.specs.ExactTables.{IsExact}
use Rattle.cost_tables.specs.TableRows.{fastest}
use Rattle.cost_tables.proofs.Splits.{min_cases, entry_number, split_attained}
use Rattle.cost_tables.proofs.RowExtension.{split_same}
use Rattle.cost_tables.proofs.Exactness.{sum_entries}
use Rattle.cost_tables.proofs.Recurrences.{exact_within, in_memory}
use Rattle.disk_gen.specs.DiskPlans.{HasDiskPlan}
use Rattle.disk_gen.specs.DiskRevolveList.{fast_tables, held_split, disk_split}
use Rattle.disk_gen.specs.ReadableDiskTables.{IsDiskExact}
use Rattle.disk_gen.proofs.DiskColumns.{AreColumns, AreSmall, held_small, fresh_small}
use Rattle.disk_gen.proofs.DiskGreatestTable.{over, fast_greatest, columns_greatest}
use Rattle.disk_gen.proofs.DiskRowExtension.{entry_below}

-- columns over what the stretches cost with level 0 alone
module _ (forward write read : ℕ) (fast : ℕ → ℕ) where
  -- the first n rows
  unfoldable held_to : ℕ → ℕ → ℕ
  held_to zero r = 0
  held_to (suc n) r = cond (nat_lt r n) (held_to n r) (read + min (fast n) (least_split forward fast (λ q. held_to n q) n n))

  abbrev held_row : ℕ → ℕ
  held_row r = held_to (suc r) r

  unfoldable fresh_to : ℕ → ℕ → ℕ
  fresh_to zero r = 0
  fresh_to (suc n) r = cond (nat_lt r n) (fresh_to n r) (min (fast n) (write + least_split forward (λ q. fresh_to n q) held_row n n))

  abbrev fresh_row : ℕ → ℕ
  fresh_row r = fresh_to (suc r) r

  held_stays : (n r : ℕ) → r < n → held_to n r ≡ held_row r
  unfolding held_to
  held_stays zero r h = absurd (omega arith)
  held_stays (suc n) r h = elim (cases_lt r n) [
    | inl lt ↦ ap (λ b. cond b (held_to n r) (read + min (fast n) (least_split forward fast (λ q. held_to n q) n n))) (lt-ltb r n lt) ∙ held_stays n r lt
    | inr ge ↦ let e : r ≡ n = omega arith in let P : ℕ → Type 0 = λ n. held_to (suc n) r ≡ held_row r in subst P e refl
  ]

  fresh_stays : (n r : ℕ) → r < n → fresh_to n r ≡ fresh_row r
  unfolding fresh_to
  fresh_stays zero r h = absurd (omega arith)
  fresh_stays (suc n) r h = elim (cases_lt r n) [
    | inl lt ↦ ap (λ b. cond b (fresh_to n r) (min (fast n) (write + least_split forward (λ q. fresh_to n q) held_row n n))) (lt-ltb r n lt) ∙ fresh_stays n r lt
    | inr ge ↦ let e : r ≡ n = omega arith in let P : ℕ → Type 0 = λ n. fresh_to (suc n) r ≡ fresh_row r in subst P e refl
  ]

  held_here : (r : ℕ) → held_row r ≡ read + min (fast r) (least_split forward fast (λ q. held_to r q) r r)
  unfolding held_to
  held_here r = ap (λ b. cond b (held_to r r) (read + min (fast r) (least_split forward fast (λ q. held_to r q) r r))) (le-ltb r r (omega arith))

  fresh_here : (r : ℕ) → fresh_row r ≡ min (fast r) (write + least_split forward (λ q. fresh_to r q) held_row r r)
  unfolding fresh_to
  fresh_here r = ap (λ b. cond b (fresh_to r r) (min (fast r) (write + least_split forward (λ q. fresh_to r q) held_row r r))) (le-ltb r r (omega arith))

  pub worked_out : (steps : ℕ) → (fresh : ℕ → ℕ) × (held : ℕ → ℕ) × AreColumns steps forward write read fast fresh held
  worked_out steps = (
    fresh_row,
    held_row,
    record {
      is_held = λ r lt. held_here r ∙ ap (λ s. read + min (fast r) s) (split_same forward fast fast (λ q. held_to r q) held_row r r (λ q h. refl) (λ q h. held_stays r q h) (omega arith));
      is_fresh = λ r lt. fresh_here r ∙ ap (λ s. min (fast r) (write + s)) (split_same forward (λ q. fresh_to r q) fresh_row held_row held_row r r (λ q h. fresh_stays r q h) (λ q h. refl) (omega arith));
    },
  )

same_entry : (a b : Entry) → IsAtMost a b → IsAtMost b a → a ≡ b
same_entry (number x) (number y) h g = let e : x ≡ y = omega arith in ap (λ n. number n) e
same_entry (number x) never h g = absurd g
same_entry never (number y) h g = absurd h
same_entry never never h g = refl

some_entry : (x : ℕ) (e : Entry) → e ≡ entry x → x < never_in_memory → e ≢ never
some_entry x e is lt none = let some = sym (entry_number x lt) ∙ sym is ∙ none in cc

module _ (steps f r : ℕ) (x : Level) (rest : List Level) where
  abbrev book : BookCosts
  book = record { forward = f; reverse = r; levels = x ∷ rest }

  abbrev top : ℕ
  top = room book 0 steps

  abbrev w : ℕ
  w = write_cost book 1

  abbrev c : ℕ
  c = read_cost book 1

  module _ (t : DiskTables) (is : IsGreatestDisk steps book t) (fast : ℕ → ℕ) (seen : (q : ℕ) → q < steps → entry (fast q) ≡ t.fresh (suc q) top) (small : AreSmall steps f w c fast)
      (fresh held : ℕ → ℕ) (are : AreColumns steps f w c fast fresh held) where
    abbrev own : DiskTables
    own = over (fast_tables t) fresh held

    own_greatest : IsGreatestDisk steps book own
    own_greatest = columns_greatest steps f r x rest (fast_tables t) (fast_greatest steps f r x rest t is) fast fresh held seen small are

    same_fresh : (l : ℕ) → 1 ≤ l → l ≤ steps → t.disk_fresh l ≡ entry (fresh (l - 1))
    same_fresh l one le = same_entry (t.disk_fresh l) (entry (fresh (l - 1))) (own_greatest.disk_fresh t is.under l one le) (is.disk_fresh own own_greatest.under l one le)

    same_held : (l : ℕ) → 1 ≤ l → l ≤ steps → t.disk_held l ≡ entry (held (l - 1))
    same_held l one le = same_entry (t.disk_held l) (entry (held (l - 1))) (own_greatest.disk_held t is.under l one le) (is.disk_held own own_greatest.under l one le)

    fast_is : (l : ℕ) → 1 ≤ l → l ≤ steps → t.fresh l top ≡ entry (fast (l - 1))
    fast_is l one le = let e : l ≡ suc (l - 1) = omega arith in ap (λ l. t.fresh l top) e ∙ sym (seen (l - 1) (omega arith))

    fresh_by' : (l : ℕ) → 1 ≤ l → l ≤ steps → t.disk_fresh l ≢ t.fresh l top → (j : ℕ) × (1 ≤ j) × (j < l) × (t.disk_fresh l ≡ disk_split book t l j)
    fresh_by' l one le other =
        let q = l - 1 in
        let e = are.is_fresh q (omega arith) in
        let is_number = fresh_small steps f w c fast fresh held small are q (omega arith) in
        elim (min_cases (fast q) (w + least_split f fresh held q q)) [
          | inl b ↦ absurd (other (same_fresh l one le ∙ ap entry (e ∙ b) ∙ sym (fast_is l one le)))
          | inr b ↦
              let s = split_attained f fresh held q q (omega arith) in
              let i = s.0 in let within = s.1 in let value = s.2 in
              let first : fresh (l - suc i - 1) ≡ fresh (q - (i + 1)) = ap fresh (omega arith) in
              let second : held (suc i - 1) ≡ held i = ap held (omega arith) in
              let product : suc i * f ≡ (i + 1) * f = ap (λ n. n * f) (sym (add-one i)) in
              let sum = sum_entries (w + suc i * f) (fresh (l - suc i - 1)) (held (suc i - 1)) (fresh q) (omega arith) (omega arith) (omega arith) is_number in
              let later = same_fresh (l - suc i) (omega arith) (omega arith) in
              let sooner = same_held (suc i) (omega arith) (omega arith) in
              (suc i, omega arith, omega arith, same_fresh l one le ∙ sum ∙ (λ n. sum_of (w + suc i * f) (sym later n) (sym sooner n)))
        ]

    held_by' : (l : ℕ) → 1 ≤ l → l ≤ steps → t.disk_held l ≢ sum_of c (number 0) (t.fresh l top) → (i : ℕ) × (1 ≤ i) × (i < l) × (t.disk_held l ≡ held_split book top t l i)
    held_by' l one le other =
        let q = l - 1 in
        let e = are.is_held q (omega arith) in
        let is_number = held_small steps f w c fast fresh held small are q (omega arith) in
        elim (min_cases (fast q) (least_split f fast held q q)) [
          | inl b ↦
              let sum = sum_entries c 0 (fast q) (held q) (omega arith) (omega arith) (omega arith) is_number in
              let alone = fast_is l one le in
              absurd (other (same_held l one le ∙ sum ∙ (λ n. sum_of c (number 0) (sym alone n))))
          | inr b ↦
              let s = split_attained f fast held q q (omega arith) in
              let i = s.0 in let within = s.1 in let value = s.2 in
              let first : fast (l - suc i - 1) ≡ fast (q - (i + 1)) = ap fast (omega arith) in
              let second : held (suc i - 1) ≡ held i = ap held (omega arith) in
              let product : suc i * f ≡ (i + 1) * f = ap (λ n. n * f) (sym (add-one i)) in
              let sum = sum_entries (c + suc i * f) (fast (l - suc i - 1)) (held (suc i - 1)) (held q) (omega arith) (omega arith) (omega arith) is_number in
              let later = fast_is (l - suc i) (omega arith) (omega arith) in
              let sooner = same_held (suc i) (omega arith) (omega arith) in
              (suc i, omega arith, omega arith, same_held l one le ∙ sum ∙ (λ n. sum_of (c + suc i * f) (sym later n) (sym sooner n)))
        ]

    pub exact_by : IsDiskExact steps book t
    exact_by = record {
      fresh_number = λ l one le. some_entry (fresh (l - 1)) (t.disk_fresh l) (same_fresh l one le) (fresh_small steps f w c fast fresh held small are (l - 1) (omega arith));
      held_number = λ l one le. some_entry (held (l - 1)) (t.disk_held l) (same_held l one le) (held_small steps f w c fast fresh held small are (l - 1) (omega arith));
      fresh_by = fresh_by';
      held_by = held_by';
    }

  exact_two : (t : DiskTables) → IsGreatestDisk steps book t → steps ≤ 8192 → IsWithinLimits book → w ≤ 1000000 → c ≤ 1000000 → IsDiskExact steps book t
  exact_two t is few limits wide deep =
      let forward_limit = limits.forward in let reverse_limit = limits.reverse in
      let first = fast_greatest steps f r x rest t is in
      let memory = in_memory steps (record { forward = f; reverse = r; levels = x ∷ [] }) (fast_tables t) few (record { forward = limits.forward; reverse = limits.reverse; levels = (limits.levels.0, tt) }) first in
      let fast : ℕ → ℕ = λ q. memory.0 0 q top in
      let whole : top ≤ top = omega arith in
      let seen = λ (q : ℕ) (lt : q < steps). let same : q ≡ suc q - 1 = omega arith in ap (λ n. entry (memory.0 0 n top)) same ∙ sym (memory.1 0 (suc q) top (omega arith) (omega arith) (omega arith) whole) in
      let small : AreSmall steps f w c fast = record {
        few = few;
        cheap_steps = omega arith;
        cheap_write = omega arith;
        cheap_read = omega arith;
        low = λ some.
            let E : Entry → Type 0 = λ e. IsAtMost e (number (f + r)) in
            let le = entry_below (fast 0) (f + r) (subst E (sym (seen 0 some)) (is.under.one_fresh top (omega arith) whole)) in
            omega arith;
      } in
      let columns = worked_out f w c fast steps in
      exact_by t is fast seen small columns.0 columns.1 columns.2

module _ (steps f r : ℕ) (t : DiskTables) where
  abbrev of : List Level → BookCosts
  of levels = record { forward = f; reverse = r; levels = levels }

  exact_of : (levels : List Level) → length levels ≡ 2 → IsGreatestDisk steps (of levels) t → steps ≤ 8192 → IsWithinLimits (of levels) → IsDiskExact steps (of levels) t
  exact_of [] two is few limits = absurd (omega arith)
  exact_of (x ∷ []) two is few limits = absurd (omega arith)
  exact_of (x ∷ y ∷ rest) two is few limits = exact_two steps f r x (y ∷ rest) t is few limits limits.levels.1.0.write limits.levels.1.0.read

  fast_of : (levels : List Level) → length levels ≡ 2 → IsGreatestDisk steps (of levels) t → steps ≤ 8192 → IsWithinLimits (of levels) → IsExact steps (fastest (of levels)) (fast_tables t)
  fast_of [] two is few limits = absurd (omega arith)
  fast_of (x ∷ []) two is few limits = absurd (omega arith)
  fast_of (x ∷ y ∷ rest) two is few limits =
      exact_within steps (record { forward = f; reverse = r; levels = x ∷ [] }) (fast_tables t) few (record { forward = limits.forward; reverse = limits.reverse; levels = (limits.levels.0, tt) }) (fast_greatest steps f r x (y ∷ rest) t is)

pub fast_exact : (steps : ℕ) (book : BookCosts) (t : DiskTables) → HasDiskPlan book → IsGreatestDisk steps book t → steps ≤ 8192 → IsWithinLimits book → IsExact steps (fastest book) (fast_tables t)
fast_exact steps book t plan is few limits = fast_of steps book.forward book.reverse t book.levels plan.two is few limits

pub disk_exact : (steps : ℕ) (book : BookCosts) (t : DiskTables) → HasDiskPlan book → IsGreatestDisk steps book t → steps ≤ 8192 → IsWithinLimits book → IsDiskExact steps book t
disk_exact steps book t plan is few limits = exact_of steps book.forward book.reverse t book.levels plan.two is few limits
