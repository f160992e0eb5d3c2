-- From tables whose entries are attained a list can be read.
use Rattle.std.proofs.Common.{◌≡◌, ◌≢◌, ◌⊎◌, ℕ, zero, suc, ◌+◌, ◌-◌, ◌*◌, ◌<◌, ◌≤◌, true, false, [], ◌∷◌, length, refl, sym, ap, ◌∙◌, subst, arith, inl, inr}
use Rattle.std.proofs.lemmas.Bool.{cases_lt, cases_order}
use Rattle.plan_types.specs.declared.action.Action.TheVariants.{EndForward, EndReverse}
use Rattle.level_book.specs.BookCosts.{BookCosts, room}
use Rattle.level_book.specs.UnderTable.{Entry, number, never, Tables, sum_of, write_cost, read_cost}
use Rattle.cost_tables.specs.ExactTables.{IsExactTo}
use Rattle.hrevolve_gen.specs.Laws.{ListExists}
use Rattle.hrevolve_gen.specs.HRevolveList.{Part, one, faster, split, Reads, whole}
use Rattle.hrevolve_gen.proofs.NoPlans.{top_none}

-- ---- entries

-- two entries are the same or they aren't
pub same_or_other : (a b : Entry) → (a ≡ b) ⊎ (a ≢ b)
same_or_other (number x) (number y) = elim (cases_order x y) [
  | inl same ↦ inl (ap (λ n. number n) same)
  | inr apart ↦ inr (λ e. let same : x ≡ y = cc in elim apart [ inl less ↦ absurd (omega (arith, less, same)) | inr more ↦ absurd (omega (arith, more, same)) ])
]
same_or_other (number x) never = inr (λ e. cc)
same_or_other never (number y) = inr (λ e. cc)
same_or_other never never = inl refl

-- an entry that isn't Never is a number
some_number : (e : Entry) → e ≢ never → (v : ℕ) × (e ≡ number v)
some_number (number v) h = (v, refl)
some_number never h = absurd (h refl)

-- a sum with Never is Never
pub never_first : (n : ℕ) (a b : Entry) → a ≡ never → sum_of n a b ≡ never
never_first n a b e = ap (λ (x : Entry). sum_of n x b) e

pub never_second : (n : ℕ) (a b : Entry) → b ≡ never → sum_of n a b ≡ never
never_second n (number a) b e = ap (λ (x : Entry). sum_of n (number a) x) e
never_second n never b e = refl

-- the first place from 1 on at which something is the entry, or there is none before n
pub record IsFirstSame (own : Entry) (after : ℕ → Entry) (n j : ℕ) : Type 0 where
  pub from_one : 1 ≤ j
  pub low : j < n
  pub same : own ≡ after j
  pub least : (i : ℕ) → 1 ≤ i → i < j → own ≢ after i

pub first_same : (own : Entry) (after : ℕ → Entry) (n : ℕ) → ((j : ℕ) × IsFirstSame own after n j) ⊎ ((i : ℕ) → 1 ≤ i → i < n → own ≢ after i)
first_same own after zero = inr (λ i pos low. absurd (omega (arith, pos, low)))
first_same own after (suc n) = elim (first_same own after n) [
  | inl found ↦ let f = found.1 in inl (found.0, record { from_one = f.from_one; low = omega (arith, f.low); same = f.same; least = f.least })
  | inr none ↦ elim (cases_lt 0 n) [
    | inl pos ↦ elim (same_or_other own (after n)) [
      | inl same ↦ inl (n, record { from_one = omega (arith, pos); low = omega arith; same = same; least = none })
      | inr other ↦ inr (λ i one_on low. elim (cases_lt i n) [
        | inl lt ↦ none i one_on lt
        | inr ge ↦ let e : n ≡ i = omega (arith, ge, low) in let P : ℕ → Type 0 = λ k. own ≢ after k in subst P e other
      ])
    ]
    | inr empty ↦ inr (λ i pos low. absurd (omega (arith, empty, pos, low)))
  ]
]

-- ---- parts

module _ (count steps : ℕ) (book : BookCosts) (t : Tables) (exact : IsExactTo count steps book t) where
  -- a stretch of at most n steps is read on level k
  abbrev pub ReadsFresh : ℕ → ℕ → Type 0
  ReadsFresh k n = (l m : ℕ) → 1 ≤ l → l ≤ n → l ≤ steps → m ≤ room book k steps → t.fresh k l m ≢ never → (p : Part) × Reads steps book t false k l m p

  abbrev ReadsHeld : ℕ → ℕ → Type 0
  ReadsHeld k n = (l m : ℕ) → 1 ≤ l → l ≤ n → l ≤ steps → m < room book k steps → (p : Part) × Reads steps book t true k l m p

  -- one step
  one_fresh : (k l m : ℕ) → k < count → l ≡ 1 → l ≤ steps → m ≤ room book k steps → (p : Part) × Reads steps book t false k l m p
  one_fresh k l m known is le some =
      let P : ℕ → Type 0 = λ n. t.fresh k n m ≡ number (book.forward + book.reverse) in
      (one, (is, subst P (sym is) (exact.fresh_one k m (omega (arith, is, le)) known some)))

  one_held : (k l m : ℕ) → k < count → l ≡ 1 → m < room book k steps → (p : Part) × Reads steps book t true k l m p
  one_held k l m known is some =
      let P : ℕ → Type 0 = λ n. t.held k n m ≡ number (read_cost book k + book.forward + book.reverse) in
      (one, (is, subst P (sym is) (exact.held_one k m known some)))

  -- a split
  split_fresh : (k n l m : ℕ) → k < count → ReadsFresh k n → ReadsHeld k n → 2 ≤ l → l ≤ suc n → l ≤ steps → m ≤ room book k steps → t.fresh k l m ≢ never →
      ((i : ℕ) → suc i ≡ k → t.fresh k l m ≢ t.fresh i l (room book i steps)) → (p : Part) × Reads steps book t false k l m p
  split_fresh k n l zero known later sooner two few le some is used =
      let v = some_number (t.fresh k l zero) is in
      let by = exact.fresh_split k l zero v.0 known two le some v.1 used in
      absurd (omega (arith, by.1))
  split_fresh k n l (suc m) known later sooner two few le some is used =
      let own = t.fresh k l (suc m) in
      let v = some_number own is in
      let by = exact.fresh_split k l (suc m) v.0 known two le some v.1 used in
      let e : by.0 ≡ m = omega (arith, by.1) in
      let after : ℕ → Entry = λ i. sum_of (write_cost book k + i * book.forward) (t.fresh k (l - i) m) (t.held k i m) in
      let S : ℕ → Type 0 = λ x. own ≡ sum_of (write_cost book k + by.2.0 * book.forward) (t.fresh k (l - by.2.0) x) (t.held k by.2.0 x) in
      elim (first_same own after l) [
        | inl found ↦
            let j = found.0 in
            let f = found.1 in
            let from_one = f.from_one in
            let low = f.low in
            let first = later (l - j) m (omega (arith, low)) (omega (arith, from_one, few)) (omega (arith, le)) (omega (arith, some)) (λ none. is (f.same ∙ never_first (write_cost book k + j * book.forward) (t.fresh k (l - j) m) (t.held k j m) none)) in
            let second = sooner j m from_one (omega (arith, low, few)) (omega (arith, low, le)) (omega (arith, some)) in
            (split j first.0 second.0, (from_one, low, f.same, first.1, second.1, record { used = used; least = f.least }))
        | inr none ↦ absurd (none by.2.0 by.2.1 by.2.2 (subst S e by.2.3))
      ]

  split_held : (k n l m : ℕ) → k < count → ReadsFresh k n → ReadsHeld k n → 2 ≤ l → l ≤ suc n → l ≤ steps → m < room book k steps →
      ((i : ℕ) → suc i ≡ k → t.held k l m ≢ sum_of (read_cost book k) (number 0) (t.fresh i l (room book i steps))) → (p : Part) × Reads steps book t true k l m p
  split_held k n l m known later sooner two few le some used =
      let own = t.held k l m in
      let is = exact.held_number k l m known (omega (arith, two)) le some in
      let by = exact.held_split k l m known two le some used in
      let after : ℕ → Entry = λ i. sum_of (read_cost book k + i * book.forward) (t.fresh k (l - i) m) (t.held k i m) in
      elim (first_same own after l) [
        | inl found ↦
            let j = found.0 in
            let f = found.1 in
            let from_one = f.from_one in
            let low = f.low in
            let first = later (l - j) m (omega (arith, low)) (omega (arith, from_one, few)) (omega (arith, le)) (omega (arith, some)) (λ none. is (f.same ∙ never_first (read_cost book k + j * book.forward) (t.fresh k (l - j) m) (t.held k j m) none)) in
            let second = sooner j m from_one (omega (arith, low, few)) (omega (arith, low, le)) some in
            (split j first.0 second.0, (from_one, low, f.same, first.1, second.1, record { used = used; least = f.least }))
        | inr none ↦ absurd (none by.0 by.1 by.2 by.3)
      ]

  -- two steps or more: the level isn't used, or there is a split
  more_fresh : (k n l m : ℕ) → k < count → ((j : ℕ) → suc j ≡ k → ReadsFresh j steps) → ReadsFresh k n → ReadsHeld k n → 2 ≤ l → l ≤ suc n → l ≤ steps → m ≤ room book k steps → t.fresh k l m ≢ never →
      (p : Part) × Reads steps book t false k l m p
  more_fresh zero n l m known before later sooner two few le some is = split_fresh zero n l m known later sooner two few le some is (λ i e. absurd (omega (arith, e)))
  more_fresh (suc k) n l m known before later sooner two few le some is = elim (same_or_other (t.fresh (suc k) l m) (t.fresh k l (room book k steps))) [
    | inl same ↦
        let p = before k refl l (room book k steps) (omega (arith, two)) le le (omega arith) (λ none. is (same ∙ none)) in
        (faster p.0, (two, same, p.1))
    | inr other ↦ split_fresh (suc k) n l m known later sooner two few le some is (λ i e.
        let back : k ≡ i = omega (arith, e) in
        let P : ℕ → Type 0 = λ x. t.fresh (suc k) l m ≢ t.fresh x l (room book x steps) in
        subst P back other)
  ]

  more_held : (k n l m : ℕ) → k < count → ((j : ℕ) → suc j ≡ k → ReadsFresh j steps) → ReadsFresh k n → ReadsHeld k n → 2 ≤ l → l ≤ suc n → l ≤ steps → m < room book k steps →
      (p : Part) × Reads steps book t true k l m p
  more_held zero n l m known before later sooner two few le some = split_held zero n l m known later sooner two few le some (λ i e. absurd (omega (arith, e)))
  more_held (suc k) n l m known before later sooner two few le some = elim (same_or_other (t.held (suc k) l m) (sum_of (read_cost book (suc k)) (number 0) (t.fresh k l (room book k steps)))) [
    | inl same ↦
        let is = exact.held_number (suc k) l m known (omega (arith, two)) le some in
        let p = before k refl l (room book k steps) (omega (arith, two)) le le (omega arith) (λ none. is (same ∙ never_second (read_cost book (suc k)) (number 0) (t.fresh k l (room book k steps)) none)) in
        (faster p.0, (two, same, p.1))
    | inr other ↦ split_held (suc k) n l m known later sooner two few le some (λ i e.
        let back : k ≡ i = omega (arith, e) in
        let P : ℕ → Type 0 = λ x. t.held (suc k) l m ≢ sum_of (read_cost book (suc k)) (number 0) (t.fresh x l (room book x steps)) in
        subst P back other)
  ]

  -- all stretches of a level, over the faster one
  on_level : (k : ℕ) → k < count → ((j : ℕ) → suc j ≡ k → ReadsFresh j steps) → (n : ℕ) → ReadsFresh k n × ReadsHeld k n
  on_level k known before zero = (λ l m pos few le some is. absurd (omega (arith, pos, few)), λ l m pos few le some. absurd (omega (arith, pos, few)))
  on_level k known before (suc n) =
      let less = on_level k known before n in (
        λ l m pos few le some is. elim (cases_lt 1 l) [
          | inl more ↦ more_fresh k n l m known before less.0 less.1 (omega (arith, more)) few le some is
          | inr one_step ↦ one_fresh k l m known (omega (arith, one_step, pos)) le some
        ],
        λ l m pos few le some. elim (cases_lt 1 l) [
          | inl more ↦ more_held k n l m known before less.0 less.1 (omega (arith, more)) few le some
          | inr one_step ↦ one_held k l m known (omega (arith, one_step, pos)) some
        ],
      )

  pub on_levels : (k : ℕ) → k < count → ReadsFresh k steps
  on_levels zero known = (on_level zero known (λ j e. absurd (omega (arith, e))) steps).0
  on_levels (suc k) known =
      (on_level (suc k) known (λ j e. let back : k ≡ j = omega (arith, e) in let P : ℕ → Type 0 = λ i. ReadsFresh i steps in subst P back (on_levels k (omega (arith, known)))) steps).0

-- ---- the list

pub list_exists : (steps : ℕ) (book : BookCosts) (t : Tables) → ListExists steps book t
list_exists zero book t exact some plan = (EndForward ∷ EndReverse ∷ [], refl)
list_exists (suc n) book t exact some plan =
    let last = length book.levels - 1 in
    let p = on_levels (length book.levels) (suc n) book t exact last (omega (arith, some)) (suc n) (room book last (suc n)) (omega arith) (omega arith) (omega arith) (omega arith) (λ none. plan (top_none (suc n) book t exact some none)) in
    (whole (suc n) last p.0, (p.0, p.1, refl))
