-- Tables are an under-table, or there is a first place at which a clause fails.
use Rattle.std.proofs.Common.{◌≡◌, ◌⊎◌, ℕ, zero, suc, ◌+◌, ◌-◌, ◌*◌, ◌<◌, ◌≤◌, length, slice_index_or, refl, subst, inl, inr, arith}
use Rattle.std.proofs.lemmas.Bool.{cases_lt, cases_eq}
use Rattle.level_book.specs.declared.book.Slots.TheVariants.{Count}
use Rattle.level_book.specs.BookCosts.{BookCosts, slots_of, room}
use Rattle.level_book.specs.UnderTable.{Entry, number, never, Tables, sum_of, write_cost, read_cost}
use Rattle.level_book.specs.DiskUnderTable.{DiskTables}
use Rattle.cost_tables.proofs.AllLevels.{room_le}
use Rattle.table_clauses.specs.declared.entry.Entry.{Entry as Place}
use Rattle.table_clauses.specs.ClauseFailures.{IsAbove, FreshFails, HeldFails, Breaks, ComesBefore, IsFirst, DiskFreshFails, DiskHeldFails, DiskBreaks, fast_of}
use Rattle.table_clauses.specs.Laws.{UnderOrFirst, DiskUnderOrFirst}
use Rattle.table_clauses.proofs.NoFailures.{under_where_none}
use Rattle.table_clauses.proofs.DiskNoFailures.{disk_under_where_none}

-- ---- what is so or isn't

abbrev IsKnown : Type 0 → Type 0
IsKnown P = P ⊎ (P → ⊥)

both_known : (P Q : Type 0) → IsKnown P → IsKnown Q → IsKnown (P × Q)
both_known P Q (inl p) (inl q) = inl (p, q)
both_known P Q (inl p) (inr other) = inr (λ h. other h.1)
both_known P Q (inr other) q = inr (λ h. other h.0)

three_known : (P Q R : Type 0) → IsKnown P → IsKnown Q → IsKnown R → IsKnown (P × Q × R)
three_known P Q R (inl p) (inl q) (inl r) = inl (p, q, r)
three_known P Q R (inl p) (inl q) (inr other) = inr (λ h. other h.2)
three_known P Q R (inl p) (inr other) r = inr (λ h. other h.1)
three_known P Q R (inr other) q r = inr (λ h. other h.0)

four_known : (P Q R S : Type 0) → IsKnown P → IsKnown Q → IsKnown R → IsKnown S → IsKnown (P × Q × R × S)
four_known P Q R S (inl p) (inl q) (inl r) (inl s) = inl (p, q, r, s)
four_known P Q R S (inl p) (inl q) (inl r) (inr other) = inr (λ h. other h.3)
four_known P Q R S (inl p) (inl q) (inr other) s = inr (λ h. other h.2)
four_known P Q R S (inl p) (inr other) r s = inr (λ h. other h.1)
four_known P Q R S (inr other) q r s = inr (λ h. other h.0)

either_known : (P Q : Type 0) → IsKnown P → IsKnown Q → IsKnown (P ⊎ Q)
either_known P Q (inl p) q = inl (inl p)
either_known P Q (inr other) (inl q) = inl (inr q)
either_known P Q (inr other) (inr another) = inr (λ h. elim h [ inl p ↦ other p | inr q ↦ another q ])

known_as : (P Q : Type 0) → (P → Q) → (Q → P) → IsKnown P → IsKnown Q
known_as P Q to back (inl p) = inl (to p)
known_as P Q to back (inr other) = inr (λ q. other (back q))

below : (m n : ℕ) → IsKnown (m < n)
below m n = elim (cases_lt m n) [ inl less ↦ inl less | inr more ↦ inr (λ h. absurd (omega (arith, more, h))) ]

at_most : (m n : ℕ) → IsKnown (m ≤ n)
at_most m n = elim (cases_lt n m) [ inl more ↦ inr (λ h. absurd (omega (arith, more, h))) | inr le ↦ inl le ]

-- the first number of those below n of which something holds, or it holds of none
first_or_none : (P : ℕ → Type 0) → ((i : ℕ) → IsKnown (P i)) → (n : ℕ) → ((i : ℕ) × (i < n) × P i × ((k : ℕ) → k < i → P k → ⊥)) ⊎ ((i : ℕ) → i < n → P i → ⊥)
first_or_none P known zero = inr (λ i low. absurd (omega (arith, low)))
first_or_none P known (suc n) = elim (first_or_none P known n) [
  | inl found ↦ inl (found.0, omega (arith, found.1), found.2, found.3)
  | inr none ↦ elim (known n) [
    | inl here ↦ inl (n, omega arith, here, none)
    | inr other ↦ inr (λ i low. elim (cases_lt i n) [
      | inl lt ↦ none i lt
      | inr ge ↦ let e : n ≡ i = omega (arith, ge, low) in let Q : ℕ → Type 0 = λ k. P k → ⊥ in subst Q e other
    ])
  ]
]

-- ---- the first place

abbrev place : ℕ → ℕ → ℕ → ℕ → ℕ → Place
place t k m l c = record { table = t; level = k; free = m; steps = l; clause = c }

-- a place is within these bounds
record IsWithin (tables levels frees lengths clauses : ℕ) (p : Place) : Type 0 where
  table : p.table < tables
  level : p.level < levels
  free : p.free < frees
  steps : p.steps < lengths
  clause : p.clause < clauses

module _ (Broken : Place → Type 0) (known : (p : Place) → IsKnown (Broken p)) (tables levels frees lengths clauses : ℕ) (within : (p : Place) → Broken p → IsWithin tables levels frees lengths clauses p) where
  -- at an entry, in a column, at a level, and in a table, the first
  abbrev AtEntry : ℕ → ℕ → ℕ → ℕ → Type 0
  AtEntry t k m l = (c : ℕ) × (c < clauses) × Broken (place t k m l c) × ((d : ℕ) → d < c → Broken (place t k m l d) → ⊥)

  at_entry : (t k m l : ℕ) → IsKnown (AtEntry t k m l)
  at_entry t k m l = elim (first_or_none (λ c. Broken (place t k m l c)) (λ c. known (place t k m l c)) clauses) [
    | inl found ↦ inl found
    | inr none ↦ inr (λ h. none h.0 h.1 h.2)
  ]

  abbrev InColumn : ℕ → ℕ → ℕ → Type 0
  InColumn t k m = (l : ℕ) × (l < lengths) × AtEntry t k m l × ((n : ℕ) → n < l → AtEntry t k m n → ⊥)

  in_column : (t k m : ℕ) → IsKnown (InColumn t k m)
  in_column t k m = elim (first_or_none (λ l. AtEntry t k m l) (λ l. at_entry t k m l) lengths) [
    | inl found ↦ inl found
    | inr none ↦ inr (λ h. none h.0 h.1 h.2)
  ]

  abbrev OnLevel : ℕ → ℕ → Type 0
  OnLevel t k = (m : ℕ) × (m < frees) × InColumn t k m × ((n : ℕ) → n < m → InColumn t k n → ⊥)

  on_level : (t k : ℕ) → IsKnown (OnLevel t k)
  on_level t k = elim (first_or_none (λ m. InColumn t k m) (λ m. in_column t k m) frees) [
    | inl found ↦ inl found
    | inr none ↦ inr (λ h. none h.0 h.1 h.2)
  ]

  abbrev InTable : ℕ → Type 0
  InTable t = (k : ℕ) × (k < levels) × OnLevel t k × ((n : ℕ) → n < k → OnLevel t n → ⊥)

  in_table : (t : ℕ) → IsKnown (InTable t)
  in_table t = elim (first_or_none (λ k. OnLevel t k) (λ k. on_level t k) levels) [
    | inl found ↦ inl found
    | inr none ↦ inr (λ h. none h.0 h.1 h.2)
  ]

  -- where a place is broken there is a first one at its entry, in its column, at its level, and in its table
  entry_of : (q : Place) → Broken q → AtEntry q.table q.level q.free q.steps
  entry_of q b = elim (first_or_none (λ c. Broken (place q.table q.level q.free q.steps c)) (λ c. known (place q.table q.level q.free q.steps c)) clauses) [
    | inl found ↦ found
    | inr none ↦ absurd (none q.clause (within q b).clause b)
  ]

  column_of : (q : Place) → Broken q → InColumn q.table q.level q.free
  column_of q b = elim (first_or_none (λ l. AtEntry q.table q.level q.free l) (λ l. at_entry q.table q.level q.free l) lengths) [
    | inl found ↦ found
    | inr none ↦ absurd (none q.steps (within q b).steps (entry_of q b))
  ]

  level_of : (q : Place) → Broken q → OnLevel q.table q.level
  level_of q b = elim (first_or_none (λ m. InColumn q.table q.level m) (λ m. in_column q.table q.level m) frees) [
    | inl found ↦ found
    | inr none ↦ absurd (none q.free (within q b).free (column_of q b))
  ]

  table_of : (q : Place) → Broken q → InTable q.table
  table_of q b = elim (first_or_none (λ k. OnLevel q.table k) (λ k. on_level q.table k) levels) [
    | inl found ↦ found
    | inr none ↦ absurd (none q.level (within q b).level (level_of q b))
  ]

  -- the first of all
  none_before : (t k m l c : ℕ) → ((n : ℕ) → n < t → InTable n → ⊥) → ((n : ℕ) → n < k → OnLevel t n → ⊥) → ((n : ℕ) → n < m → InColumn t k n → ⊥) → ((n : ℕ) → n < l → AtEntry t k m n → ⊥) →
      ((n : ℕ) → n < c → Broken (place t k m l n) → ⊥) → (q : Place) → ComesBefore q (place t k m l c) → Broken q → ⊥
  none_before t k m l c no_table no_level no_column no_entry no_clause q before b = elim before [
    | inl table ↦ no_table q.table table (table_of q b)
    | inr same_table ↦
        let T : ℕ → Type 0 = λ t. OnLevel t q.level in
        elim same_table.1 [
          | inl level ↦ no_level q.level level (subst T same_table.0 (level_of q b))
          | inr same_level ↦
              let C : ℕ → ℕ → Type 0 = λ t k. InColumn t k q.free in
              elim same_level.1 [
                | inl free ↦ no_column q.free free (subst (λ k. C t k) same_level.0 (subst (λ t. C t q.level) same_table.0 (column_of q b)))
                | inr same_free ↦
                    let E : ℕ → ℕ → ℕ → Type 0 = λ t k m. AtEntry t k m q.steps in
                    elim same_free.1 [
                      | inl steps ↦ no_entry q.steps steps (subst (λ m. E t k m) same_free.0 (subst (λ k. E t k q.free) same_level.0 (subst (λ t. E t q.level q.free) same_table.0 (entry_of q b))))
                      | inr same_steps ↦
                          let B : ℕ → ℕ → ℕ → ℕ → Type 0 = λ t k m l. Broken (place t k m l q.clause) in
                          no_clause q.clause same_steps.1
                          (subst (λ l. B t k m l) same_steps.0 (subst (λ m. B t k m q.steps) same_free.0 (subst (λ k. B t k q.free q.steps) same_level.0 (subst (λ t. B t q.level q.free q.steps) same_table.0 b))))
                    ]
              ]
        ]
  ]

  first_place : ((p : Place) → Broken p → ⊥) ⊎ ((p : Place) × IsFirst Broken p)
  first_place = elim (first_or_none (λ t. InTable t) (λ t. in_table t) tables) [
    | inr none ↦ inl (λ p b. none p.table (within p b).table (table_of p b))
    | inl found ↦
        let in_level = found.2 in
        let in_free = in_level.2 in
        let in_steps = in_free.2 in
        let in_clause = in_steps.2 in
        inr (
          place found.0 in_level.0 in_free.0 in_steps.0 in_clause.0,
          record {
            broken = in_clause.2;
            none_before = none_before found.0 in_level.0 in_free.0 in_steps.0 in_clause.0 found.3 in_level.3 in_free.3 in_steps.3 in_clause.3;
          },
        )
  ]

-- ---- whether a clause fails

above_known : (a b : Entry) → IsKnown (IsAbove a b)
above_known a never = inr (λ h. h tt)
above_known never (number b) = inl (λ h. h)
above_known (number a) (number b) = elim (at_most a b) [ inl le ↦ inr (λ h. h le) | inr other ↦ inl other ]

-- some split costs less than an entry
splits_known : (own : Entry) (cost : ℕ → ℕ → Entry) (l : ℕ) → IsKnown ((j : ℕ) × (i : ℕ) × (1 ≤ j) × (1 ≤ i) × (j + i ≡ l) × IsAbove own (cost j i))
splits_known own cost l = elim (first_or_none (λ j. (1 ≤ j) × IsAbove own (cost j (l - j))) (λ j. both_known (1 ≤ j) (IsAbove own (cost j (l - j))) (at_most 1 j) (above_known own (cost j (l - j)))) l) [
  | inl found ↦ inl (found.0, l - found.0, found.2.0, omega (arith, found.1), omega (arith, found.1), found.2.1)
  | inr none ↦ inr (λ h.
      let e : h.1 ≡ l - h.0 = omega (arith, h.4) in
      let P : ℕ → Type 0 = λ i. IsAbove own (cost h.0 i) in
      none h.0 (omega (arith, h.3, h.4)) (h.2, subst P e h.5))
]

-- the level before
before_known : (k : ℕ) (P : ℕ → Type 0) → ((j : ℕ) → IsKnown (P j)) → IsKnown ((j : ℕ) × (suc j ≡ k) × P j)
before_known zero P known = inr (λ h. absurd (omega (arith, h.1)))
before_known (suc k) P known = elim (known k) [
  | inl p ↦ inl (k, refl, p)
  | inr other ↦ inr (λ h. let e : h.0 ≡ k = omega (arith, h.1) in other (subst P e h.2))
]

module _ (steps : ℕ) (book : BookCosts) where
  fresh_known : (t : Tables) (k m l clause : ℕ) → IsKnown (FreshFails steps book t k m l clause)
  fresh_known t k m l clause =
      either_known _ _
      (three_known (clause ≡ 1) (l ≡ 1) (IsAbove (t.fresh k 1 m) (number (book.forward + book.reverse))) (cases_eq clause 1) (cases_eq l 1) (above_known (t.fresh k 1 m) (number (book.forward + book.reverse))))
      (either_known _ _
      (both_known (clause ≡ 2) _ (cases_eq clause 2) (before_known k (λ j. IsAbove (t.fresh k l m) (t.fresh j l (room book j steps))) (λ j. above_known (t.fresh k l m) (t.fresh j l (room book j steps)))))
      (either_known _ _
      (both_known (clause ≡ 3) _ (cases_eq clause 3)
      (before_known m (λ n. (j : ℕ) × (i : ℕ) × (1 ≤ j) × (1 ≤ i) × (j + i ≡ l) × IsAbove (t.fresh k l m) (sum_of (write_cost book k + j * book.forward) (t.fresh k i n) (t.held k j n)))
      (λ n. splits_known (t.fresh k l m) (λ j i. sum_of (write_cost book k + j * book.forward) (t.fresh k i n) (t.held k j n)) l)))
      (both_known (clause ≡ 4) _ (cases_eq clause 4)
      (before_known m (λ n. IsAbove (t.fresh k l m) (sum_of (write_cost book k) (number 0) (t.held k l n))) (λ n. above_known (t.fresh k l m) (sum_of (write_cost book k) (number 0) (t.held k l n)))))))

  held_known : (t : Tables) (k m l clause : ℕ) → IsKnown (HeldFails steps book t k m l clause)
  held_known t k m l clause =
      either_known _ _
      (three_known (clause ≡ 5) (l ≡ 1) (IsAbove (t.held k 1 m) (number (read_cost book k + book.forward + book.reverse))) (cases_eq clause 5) (cases_eq l 1) (above_known (t.held k 1 m) (number (read_cost book k + book.forward + book.reverse))))
      (either_known _ _
      (both_known (clause ≡ 6) _ (cases_eq clause 6)
      (before_known k (λ j. IsAbove (t.held k l m) (sum_of (read_cost book k) (number 0) (t.fresh j l (room book j steps)))) (λ j. above_known (t.held k l m) (sum_of (read_cost book k) (number 0) (t.fresh j l (room book j steps))))))
      (both_known (clause ≡ 7) _ (cases_eq clause 7) (splits_known (t.held k l m) (λ j i. sum_of (read_cost book k + j * book.forward) (t.fresh k i m) (t.held k j m)) l)))

  disk_fresh_known : (t : DiskTables) (l clause : ℕ) → IsKnown (DiskFreshFails steps book t l clause)
  disk_fresh_known t l clause =
      either_known _ _
      (both_known (clause ≡ 11) _ (cases_eq clause 11) (above_known (t.disk_fresh l) (t.fresh l (room book 0 steps))))
      (either_known _ _
      (both_known (clause ≡ 12) _ (cases_eq clause 12) (splits_known (t.disk_fresh l) (λ j i. sum_of (write_cost book 1 + j * book.forward) (t.disk_fresh i) (t.disk_held j)) l))
      (both_known (clause ≡ 13) _ (cases_eq clause 13) (above_known (t.disk_fresh l) (sum_of (write_cost book 1) (number 0) (t.disk_held l)))))

  disk_held_known : (t : DiskTables) (l clause : ℕ) → IsKnown (DiskHeldFails steps book t l clause)
  disk_held_known t l clause =
      either_known _ _
      (both_known (clause ≡ 14) _ (cases_eq clause 14) (above_known (t.disk_held l) (sum_of (read_cost book 1) (number 0) (t.fresh l (room book 0 steps)))))
      (both_known (clause ≡ 15) _ (cases_eq clause 15) (splits_known (t.disk_held l) (λ j i. sum_of (read_cost book 1 + j * book.forward) (t.fresh i (room book 0 steps)) (t.disk_held j)) l))

  fresh_clause : (t : Tables) (k m l clause : ℕ) → FreshFails steps book t k m l clause → clause < 16
  fresh_clause t k m l clause h = elim h [
    | inl a ↦ omega (arith, a.0)
    | inr (inl a) ↦ omega (arith, a.0)
    | inr (inr (inl a)) ↦ omega (arith, a.0)
    | inr (inr (inr a)) ↦ omega (arith, a.0)
  ]

  held_clause : (t : Tables) (k m l clause : ℕ) → HeldFails steps book t k m l clause → clause < 16
  held_clause t k m l clause h = elim h [ inl a ↦ omega (arith, a.0) | inr (inl a) ↦ omega (arith, a.0) | inr (inr a) ↦ omega (arith, a.0) ]

  disk_fresh_clause : (t : DiskTables) (l clause : ℕ) → DiskFreshFails steps book t l clause → clause < 16
  disk_fresh_clause t l clause h = elim h [ inl a ↦ omega (arith, a.0) | inr (inl a) ↦ omega (arith, a.0) | inr (inr a) ↦ omega (arith, a.0) ]

  disk_held_clause : (t : DiskTables) (l clause : ℕ) → DiskHeldFails steps book t l clause → clause < 16
  disk_held_clause t l clause h = elim h [ inl a ↦ omega (arith, a.0) | inr a ↦ omega (arith, a.0) ]

  few_free : (k : ℕ) → room book k steps ≤ steps
  few_free k = room_le steps (slice_index_or (slots_of book) k (Count 0))

  -- ---- of under-tables

  breaks_known : (t : Tables) (p : Place) → IsKnown (Breaks steps book t p)
  breaks_known t p =
      four_known (p.level < length book.levels) (1 ≤ p.steps) (p.steps ≤ steps) _ (below p.level (length book.levels)) (at_most 1 p.steps) (at_most p.steps steps)
      (either_known _ _
      (three_known (p.table ≡ 0) (p.free ≤ room book p.level steps) (FreshFails steps book t p.level p.free p.steps p.clause) (cases_eq p.table 0) (at_most p.free (room book p.level steps)) (fresh_known t p.level p.free p.steps p.clause))
      (three_known (p.table ≡ 1) (p.free < room book p.level steps) (HeldFails steps book t p.level p.free p.steps p.clause) (cases_eq p.table 1) (below p.free (room book p.level steps)) (held_known t p.level p.free p.steps p.clause)))

  breaks_within : (t : Tables) (p : Place) → Breaks steps book t p → IsWithin 4 (length book.levels) (suc steps) (suc steps) 16 p
  breaks_within t p b =
      let few = few_free p.level in
      elim b.3 [
        | inl f ↦ record { table = omega (arith, f.0); level = b.0; free = omega (arith, f.1, few); steps = omega (arith, b.2); clause = fresh_clause t p.level p.free p.steps p.clause f.2 }
        | inr h ↦ record { table = omega (arith, h.0); level = b.0; free = omega (arith, h.1, few); steps = omega (arith, b.2); clause = held_clause t p.level p.free p.steps p.clause h.2 }
      ]

  pub under_or_first : (t : Tables) → UnderOrFirst steps book t
  under_or_first t = elim (first_place (Breaks steps book t) (breaks_known t) 4 (length book.levels) (suc steps) (suc steps) 16 (breaks_within t)) [
    | inl none ↦ inl ((under_where_none steps book t).1 none)
    | inr first ↦ inr first
  ]

  -- ---- of disk under-tables

  disk_breaks_known : (t : DiskTables) (p : Place) → IsKnown (DiskBreaks steps book t p)
  disk_breaks_known t p =
      three_known (1 ≤ p.steps) (p.steps ≤ steps) _ (at_most 1 p.steps) (at_most p.steps steps)
      (either_known _ _
      (four_known (p.table ≡ 0) (p.level ≡ 0) (p.free ≤ room book 0 steps) (FreshFails steps book (fast_of t) 0 p.free p.steps p.clause) (cases_eq p.table 0) (cases_eq p.level 0) (at_most p.free (room book 0 steps)) (fresh_known (fast_of t) 0 p.free p.steps p.clause))
      (either_known _ _
      (four_known (p.table ≡ 1) (p.level ≡ 0) (p.free < room book 0 steps) (HeldFails steps book (fast_of t) 0 p.free p.steps p.clause) (cases_eq p.table 1) (cases_eq p.level 0) (below p.free (room book 0 steps)) (held_known (fast_of t) 0 p.free p.steps p.clause))
      (either_known _ _
      (four_known (p.table ≡ 2) (p.level ≡ 1) (p.free ≡ 0) (DiskFreshFails steps book t p.steps p.clause) (cases_eq p.table 2) (cases_eq p.level 1) (cases_eq p.free 0) (disk_fresh_known t p.steps p.clause))
      (four_known (p.table ≡ 3) (p.level ≡ 1) (p.free ≡ 0) (DiskHeldFails steps book t p.steps p.clause) (cases_eq p.table 3) (cases_eq p.level 1) (cases_eq p.free 0) (disk_held_known t p.steps p.clause)))))

  disk_within : (t : DiskTables) (p : Place) → DiskBreaks steps book t p → IsWithin 4 2 (suc steps) (suc steps) 16 p
  disk_within t p b =
      let few = few_free 0 in
      elim b.2 [
        | inl f ↦ record { table = omega (arith, f.0); level = omega (arith, f.1); free = omega (arith, f.2, few); steps = omega (arith, b.1); clause = fresh_clause (fast_of t) 0 p.free p.steps p.clause f.3 }
        | inr (inl f) ↦ record { table = omega (arith, f.0); level = omega (arith, f.1); free = omega (arith, f.2, few); steps = omega (arith, b.1); clause = held_clause (fast_of t) 0 p.free p.steps p.clause f.3 }
        | inr (inr (inl f)) ↦ record { table = omega (arith, f.0); level = omega (arith, f.1); free = omega (arith, f.2, few); steps = omega (arith, b.1); clause = disk_fresh_clause t p.steps p.clause f.3 }
        | inr (inr (inr f)) ↦ record { table = omega (arith, f.0); level = omega (arith, f.1); free = omega (arith, f.2, few); steps = omega (arith, b.1); clause = disk_held_clause t p.steps p.clause f.3 }
      ]

  pub disk_under_or_first : (t : DiskTables) → DiskUnderOrFirst steps book t
  disk_under_or_first t = elim (first_place (DiskBreaks steps book t) (disk_breaks_known t) 4 2 (suc steps) (suc steps) 16 (disk_within t)) [
    | inl none ↦ inl ((disk_under_where_none steps book t).1 none)
    | inr first ↦ inr first
  ]
