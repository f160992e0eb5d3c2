-- A part that is read from disk tables of the greatest entries is read from all such tables, so at most one list is.
use Rattle.std.proofs.Common.{◌≡◌, ℕ, zero, suc, ◌+◌, ◌-◌, ◌*◌, ◌<◌, ◌≤◌, Bool, true, false, List, [], ◌∷◌, ◌++◌, refl, sym, ap, ◌∙◌, subst, arith, inl, inr, true≢false}
use Rattle.std.proofs.lemmas.Bool.{cases_lt}
use Rattle.plan_types.specs.declared.action.Action.{Action}
use Rattle.plan_types.specs.declared.action.Action.TheVariants.{EndReverse}
use Rattle.level_book.specs.BookCosts.{BookCosts, room}
use Rattle.level_book.specs.UnderTable.{Entry, number, sum_of, write_cost, read_cost}
use Rattle.level_book.specs.DiskUnderTable.{DiskTables, IsGreatestDisk}
use Rattle.hrevolve_gen.specs.HRevolveList.{Part, one, faster, split, Reads}
use Rattle.hrevolve_gen.proofs.PlanUniqueness.{same_entry, first_alike}
use Rattle.hrevolve_gen.proofs.OnePart.{same_part}
use Rattle.disk_gen.specs.DiskRevolveList.{HeldPart, finally, again, DiskPart, alone, parted, disk_actions, fast_tables, IsLeast, held_split, disk_split, ReadsHeld, ReadsDisk}
use Rattle.disk_gen.specs.Laws.{DiskPlanIsUnique}

-- ---- one part is read at most

-- the least split at which an entry is attained is one
same_least : (i j : ℕ) (own : Entry) (after : ℕ → Entry) → 1 ≤ i → 1 ≤ j → own ≡ after i → own ≡ after j → IsLeast i own after → IsLeast j own after → i ≡ j
same_least i j own after hi hj ei ej fi fj =
    elim (cases_lt i j) [
      | inl lt ↦ absurd (fj i hi lt ei)
      | inr ge ↦ elim (cases_lt j i) [ inl lt ↦ absurd (fi j hj lt ej) | inr le ↦ omega arith ]
    ]

module _ (steps : ℕ) (book : BookCosts) (t : DiskTables) where
  same_held : (p q : HeldPart) (l : ℕ) → ReadsHeld steps book t l p → ReadsHeld steps book t l q → p ≡ q
  same_held (finally p) (finally q) l is js = ap finally (same_part steps book (fast_tables t) p q false 0 l (room book 0 steps) is.1 js.1)
  same_held (finally p) (again j q r) l is js = absurd (js.5 is.0)
  same_held (again i p q) (finally r) l is js = absurd (is.5 js.0)
  same_held (again i p q) (again j r s) l is js =
      let e = same_least i j _ (held_split book (room book 0 steps) t l) is.0 js.0 is.2 js.2 is.6 js.6 in
      let F : ℕ → Type 0 = λ j. Reads steps book (fast_tables t) false 0 (l - j) (room book 0 steps) r in
      let H : ℕ → Type 0 = λ j. ReadsHeld steps book t j s in
      let later = same_part steps book (fast_tables t) p r false 0 (l - i) (room book 0 steps) is.3 (subst F (sym e) js.3) in
      let sooner = same_held q s i is.4 (subst H (sym e) js.4) in
      λ x. again (e x) (later x) (sooner x)

  same_disk : (p q : DiskPart) (l : ℕ) → ReadsDisk steps book t l p → ReadsDisk steps book t l q → p ≡ q
  same_disk (alone p) (alone q) l is js = ap alone (same_part steps book (fast_tables t) p q false 0 l (room book 0 steps) is.1 js.1)
  same_disk (alone p) (parted j q r) l is js = absurd (js.5 is.0)
  same_disk (parted i p q) (alone r) l is js = absurd (is.5 js.0)
  same_disk (parted i p q) (parted j r s) l is js =
      let e = same_least i j _ (disk_split book t l) is.0 js.0 is.2 js.2 is.6 js.6 in
      let F : ℕ → Type 0 = λ j. ReadsDisk steps book t (l - j) r in
      let H : ℕ → Type 0 = λ j. ReadsHeld steps book t j s in
      let later = same_disk p r (l - i) is.3 (subst F (sym e) js.3) in
      let sooner = same_held q s i is.4 (subst H (sym e) js.4) in
      λ x. parted (e x) (later x) (sooner x)

-- ---- it is read from all tables of the greatest entries

module _ (steps : ℕ) (book : BookCosts) (s t : DiskTables) (first : IsGreatestDisk steps book s) (second : IsGreatestDisk steps book t) where
  fresh_alike : (l m : ℕ) → 1 ≤ l → l ≤ steps → m ≤ room book 0 steps → s.fresh l m ≡ t.fresh l m
  fresh_alike l m some most free = same_entry (s.fresh l m) (t.fresh l m) (second.fresh s first.under l m some most free) (first.fresh t second.under l m some most free)

  held_alike : (l m : ℕ) → 1 ≤ l → l ≤ steps → m < room book 0 steps → s.held l m ≡ t.held l m
  held_alike l m some most free = same_entry (s.held l m) (t.held l m) (second.held s first.under l m some most free) (first.held t second.under l m some most free)

  disk_fresh_alike : (l : ℕ) → 1 ≤ l → l ≤ steps → s.disk_fresh l ≡ t.disk_fresh l
  disk_fresh_alike l some most = same_entry (s.disk_fresh l) (t.disk_fresh l) (second.disk_fresh s first.under l some most) (first.disk_fresh t second.under l some most)

  disk_held_alike : (l : ℕ) → 1 ≤ l → l ≤ steps → s.disk_held l ≡ t.disk_held l
  disk_held_alike l some most = same_entry (s.disk_held l) (t.disk_held l) (second.disk_held s first.under l some most) (first.disk_held t second.under l some most)

  -- with level 0 alone
  split_alike : (n l m j : ℕ) → 1 ≤ j → j < l → l ≤ steps → m < room book 0 steps → sum_of n (s.fresh (l - j) m) (s.held j m) ≡ sum_of n (t.fresh (l - j) m) (t.held j m)
  split_alike n l m j some lt most free =
      let after = fresh_alike (l - j) m (omega arith) (omega arith) (omega arith) in
      let before = held_alike j m some (omega arith) free in
      λ x. sum_of n (after x) (before x)

  fast_part : (p : Part) (held : Bool) (l m : ℕ) → 1 ≤ l → l ≤ steps → m ≤ room book 0 steps → (held ≡ true → m < room book 0 steps) → Reads steps book (fast_tables s) held 0 l m p → Reads steps book (fast_tables t) held 0 l m p
  fast_part one false l m some most free beside is = (is.0, sym (fresh_alike l m some most free) ∙ is.1)
  fast_part one true l m some most free beside is = (is.0, sym (held_alike l m some most (beside refl)) ∙ is.1)
  fast_part (faster p) held l m some most free beside is = absurd is
  fast_part (split j p q) false l zero some most free beside is = absurd is
  fast_part (split j p q) false l (suc m) some most free beside is =
      let own = fresh_alike l (suc m) some most free in
      let splits = λ (i : ℕ) (lo : 1 ≤ i) (hi : i < l). split_alike (write_cost book 0 + i * book.forward) l m i lo hi most (omega arith) in (
        is.0,
        is.1,
        sym own ∙ is.2 ∙ splits j is.0 is.1,
        fast_part p false (l - j) m (omega (arith, is.0, is.1)) (omega arith) (omega arith) (λ e. absurd (true≢false (sym e))) is.3,
        fast_part q true j m is.0 (omega (arith, is.1)) (omega arith) (λ _. omega arith) is.4,
        first_alike 0 j _ _ _ _ _ _ own (λ i e. absurd (omega (arith, e))) (λ i lo hi. splits i lo (omega (arith, is.1))) is.5,
      )
  fast_part (split j p q) true l m some most free beside is =
      let lt = beside refl in
      let own = held_alike l m some most lt in
      let splits = λ (i : ℕ) (lo : 1 ≤ i) (hi : i < l). split_alike (read_cost book 0 + i * book.forward) l m i lo hi most lt in (
        is.0,
        is.1,
        sym own ∙ is.2 ∙ splits j is.0 is.1,
        fast_part p false (l - j) m (omega (arith, is.0, is.1)) (omega arith) (omega arith) (λ e. absurd (true≢false (sym e))) is.3,
        fast_part q true j m is.0 (omega (arith, is.1)) (omega arith) (λ _. lt) is.4,
        first_alike 0 j _ _ _ _ _ _ own (λ i e. absurd (omega (arith, e))) (λ i lo hi. splits i lo (omega (arith, is.1))) is.5,
      )

  -- a part on level 0 with all its slots, whose first state is in work
  whole_part : (p : Part) (l : ℕ) → 1 ≤ l → l ≤ steps → Reads steps book (fast_tables s) false 0 l (room book 0 steps) p → Reads steps book (fast_tables t) false 0 l (room book 0 steps) p
  whole_part p l some most is = fast_part p false l (room book 0 steps) some most (omega arith) (λ e. absurd (true≢false (sym e))) is

  fast_alike : (l : ℕ) → 1 ≤ l → l ≤ steps → s.fresh l (room book 0 steps) ≡ t.fresh l (room book 0 steps)
  fast_alike l some most = fresh_alike l (room book 0 steps) some most (omega arith)

  held_split_alike : (l i : ℕ) → 1 ≤ i → i < l → l ≤ steps → held_split book (room book 0 steps) s l i ≡ held_split book (room book 0 steps) t l i
  held_split_alike l i some lt most =
      let after = fast_alike (l - i) (omega arith) (omega arith) in
      let before = disk_held_alike i some (omega arith) in
      λ x. sum_of (read_cost book 1 + i * book.forward) (after x) (before x)

  disk_split_alike : (l j : ℕ) → 1 ≤ j → j < l → l ≤ steps → disk_split book s l j ≡ disk_split book t l j
  disk_split_alike l j some lt most =
      let after = disk_fresh_alike (l - j) (omega arith) (omega arith) in
      let before = disk_held_alike j some (omega arith) in
      λ x. sum_of (write_cost book 1 + j * book.forward) (after x) (before x)

  held_part : (p : HeldPart) (l : ℕ) → 1 ≤ l → l ≤ steps → ReadsHeld steps book s l p → ReadsHeld steps book t l p
  held_part (finally p) l some most is =
      (sym (disk_held_alike l some most) ∙ is.0 ∙ ap (sum_of (read_cost book 1) (number 0)) (fast_alike l some most), whole_part p l some most is.1)
  held_part (again i p q) l some most is =
      let own = disk_held_alike l some most in (
        is.0,
        is.1,
        sym own ∙ is.2 ∙ held_split_alike l i is.0 is.1 most,
        whole_part p (l - i) (omega (arith, is.0, is.1)) (omega arith) is.3,
        held_part q i is.0 (omega (arith, is.1)) is.4,
        (λ same. is.5 (own ∙ same ∙ sym (ap (sum_of (read_cost book 1) (number 0)) (fast_alike l some most)))),
        (λ k lo hi same. is.6 k lo hi (own ∙ same ∙ sym (held_split_alike l k lo (omega (arith, hi, is.1)) most))),
      )

  disk_part : (p : DiskPart) (l : ℕ) → 1 ≤ l → l ≤ steps → ReadsDisk steps book s l p → ReadsDisk steps book t l p
  disk_part (alone p) l some most is = (sym (disk_fresh_alike l some most) ∙ is.0 ∙ fast_alike l some most, whole_part p l some most is.1)
  disk_part (parted j p q) l some most is =
      let own = disk_fresh_alike l some most in (
        is.0,
        is.1,
        sym own ∙ is.2 ∙ disk_split_alike l j is.0 is.1 most,
        disk_part p (l - j) (omega (arith, is.0, is.1)) (omega arith) is.3,
        held_part q j is.0 (omega (arith, is.1)) is.4,
        (λ same. is.5 (own ∙ same ∙ sym (fast_alike l some most))),
        (λ k lo hi same. is.6 k lo hi (own ∙ same ∙ sym (disk_split_alike l k lo (omega (arith, hi, is.1)) most))),
      )

pub disk_plan_unique : (steps : ℕ) (book : BookCosts) (s t : DiskTables) (list other : List Action) → DiskPlanIsUnique steps book s t list other
disk_plan_unique zero book s t list other first second is js = is ∙ sym js
disk_plan_unique (suc n) book s t list other first second is js =
    let read = disk_part (suc n) book s t first second is.0 (suc n) (omega arith) (omega arith) is.1 in
    is.2 ∙ ap (λ p. disk_actions (suc n) 0 p ++ EndReverse ∷ []) (same_disk (suc n) book t is.0 js.0 (suc n) read js.1) ∙ sym js.2
