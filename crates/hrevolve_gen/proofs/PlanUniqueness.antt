-- A part that is read from tables of the greatest entries is read from all such tables, so at most one list is.
use Rattle.std.proofs.Common.{◌≡◌, ℕ, zero, suc, ◌+◌, ◌-◌, ◌*◌, ◌<◌, ◌≤◌, min, Bool, true, false, List, [], ◌∷◌, length, map, slice_index_or, refl, sym, ap, ◌∙◌, subst, arith, true≢false}
use Rattle.plan_types.specs.declared.action.Action.{Action}
use Rattle.level_book.specs.declared.book.Level.{Level}
use Rattle.level_book.specs.declared.book.Slots.TheVariants.{Count}
use Rattle.level_book.specs.BookCosts.{BookCosts, least, room}
use Rattle.level_book.specs.UnderTable.{Entry, number, never, Tables, IsAtMost, IsGreatest, sum_of, write_cost, read_cost}
use Rattle.hrevolve_gen.specs.HRevolveList.{Part, one, faster, split, IsFirst, Reads, whole, IsWritten}
use Rattle.hrevolve_gen.specs.Laws.{PlanIsUnique}
use Rattle.hrevolve_gen.proofs.OnePart.{unique}

-- two entries that are at most each other are one
pub same_entry : (a b : Entry) → IsAtMost a b → IsAtMost b a → a ≡ b
same_entry (number a) (number b) le ge = ap number (omega arith)
same_entry (number a) never le ge = absurd ge
same_entry never (number b) le ge = absurd le
same_entry never never le ge = refl

-- a split is the first one, where each entry is another's
pub first_alike : (k j : ℕ) (own own' : Entry) (without without' after after' : ℕ → Entry) → own ≡ own' → ((i : ℕ) → suc i ≡ k → without i ≡ without' i) →
    ((i : ℕ) → 1 ≤ i → i < j → after i ≡ after' i) → IsFirst k j own without after → IsFirst k j own' without' after'
first_alike k j own own' without without' after after' e others splits is = record {
  used = λ i is_before same. is.used i is_before (e ∙ same ∙ sym (others i is_before));
  least = λ i one lt same. is.least i one lt (e ∙ same ∙ sym (splits i one lt));
}

module _ (steps : ℕ) (book : BookCosts) (s t : Tables) (first : IsGreatest steps book s) (second : IsGreatest steps book t) where
  fresh_alike : (k l m : ℕ) → k < length book.levels → 1 ≤ l → l ≤ steps → m ≤ room book k steps → s.fresh k l m ≡ t.fresh k l m
  fresh_alike k l m known some most free =
      same_entry (s.fresh k l m) (t.fresh k l m) (second.fresh s first.under k l m known some most free) (first.fresh t second.under k l m known some most free)

  held_alike : (k l m : ℕ) → k < length book.levels → 1 ≤ l → l ≤ steps → m < room book k steps → s.held k l m ≡ t.held k l m
  held_alike k l m known some most free =
      same_entry (s.held k l m) (t.held k l m) (second.held s first.under k l m known some most free) (first.held t second.under k l m known some most free)

  -- splitting costs the same by both
  split_alike : (n k l m j : ℕ) → k < length book.levels → 1 ≤ j → j < l → l ≤ steps → m < room book k steps →
      sum_of n (s.fresh k (l - j) m) (s.held k j m) ≡ sum_of n (t.fresh k (l - j) m) (t.held k j m)
  split_alike n k l m j known some lt most free =
      let after = fresh_alike k (l - j) m known (omega arith) (omega arith) (omega arith) in
      let before = held_alike k j m known some (omega arith) free in
      λ x. sum_of n (after x) (before x)

  part_alike : (p : Part) (held : Bool) (k l m : ℕ) → k < length book.levels → 1 ≤ l → l ≤ steps → m ≤ room book k steps → (held ≡ true → m < room book k steps) →
      Reads steps book s held k l m p → Reads steps book t held k l m p
  part_alike one false k l m known some most free beside is = (is.0, sym (fresh_alike k l m known some most free) ∙ is.1)
  part_alike one true k l m known some most free beside is = (is.0, sym (held_alike k l m known some most (beside refl)) ∙ is.1)
  part_alike (faster p) held zero l m known some most free beside is = absurd is
  part_alike (faster p) false (suc k) l m known some most free beside is =
      let r = room book k steps in
      let le : r ≤ r = omega arith in
      let other = fresh_alike k l r (omega arith) some most le in (
        is.0,
        sym (fresh_alike (suc k) l m known some most free) ∙ is.1 ∙ other,
        part_alike p false k l r (omega arith) some most le (λ e. absurd (true≢false (sym e))) is.2,
      )
  part_alike (faster p) true (suc k) l m known some most free beside is =
      let r = room book k steps in
      let le : r ≤ r = omega arith in
      let other = fresh_alike k l r (omega arith) some most le in (
        is.0,
        sym (held_alike (suc k) l m known some most (beside refl)) ∙ is.1 ∙ (λ x. sum_of (read_cost book (suc k)) (number 0) (other x)),
        part_alike p false k l r (omega arith) some most le (λ e. absurd (true≢false (sym e))) is.2,
      )
  part_alike (split j p q) false k l zero known some most free beside is = absurd is
  part_alike (split j p q) false k l (suc m) known some most free beside is =
      let own = fresh_alike k l (suc m) known some most free in
      let splits = λ (i : ℕ) (lo : 1 ≤ i) (hi : i < l). split_alike (write_cost book k + i * book.forward) k l m i known lo hi most (omega arith) in (
        is.0,
        is.1,
        sym own ∙ is.2 ∙ splits j is.0 is.1,
        part_alike p false k (l - j) m known (omega (arith, is.0, is.1)) (omega arith) (omega arith) (λ e. absurd (true≢false (sym e))) is.3,
        part_alike q true k j m known is.0 (omega (arith, is.1)) (omega arith) (λ _. omega arith) is.4,
        first_alike k j _ _ _ _ _ _ own (λ i e. fresh_alike i l (room book i steps) (omega arith) some most (omega arith)) (λ i lo hi. splits i lo (omega (arith, is.1))) is.5,
      )
  part_alike (split j p q) true k l m known some most free beside is =
      let lt = beside refl in
      let own = held_alike k l m known some most lt in
      let splits = λ (i : ℕ) (lo : 1 ≤ i) (hi : i < l). split_alike (read_cost book k + i * book.forward) k l m i known lo hi most lt in (
        is.0,
        is.1,
        sym own ∙ is.2 ∙ splits j is.0 is.1,
        part_alike p false k (l - j) m known (omega (arith, is.0, is.1)) (omega arith) (omega arith) (λ e. absurd (true≢false (sym e))) is.3,
        part_alike q true k j m known is.0 (omega (arith, is.1)) (omega arith) (λ _. lt) is.4,
        first_alike k j _ _ _ _ _ _ own
            (λ i e. let other = fresh_alike i l (room book i steps) (omega arith) some most (omega arith) in λ x. sum_of (read_cost book k) (number 0) (other x))
            (λ i lo hi. splits i lo (omega (arith, is.1))) is.5,
      )

-- without slots, a part on the fastest level has one step
alone : (steps l : ℕ) (book : BookCosts) (t : Tables) (p : Part) → Reads steps book t false 0 l 0 p → p ≡ one
alone steps l book t one is = refl
alone steps l book t (faster p) is = absurd is
alone steps l book t (split j p q) is = absurd is

-- a book without levels has no room
no_room : (steps : ℕ) (book : BookCosts) → book.levels ≡ [] → room book 0 steps ≡ 0
no_room steps book e =
    let none : min 0 steps ≡ 0 = omega arith in
    ap (λ (levels : List Level). least (slice_index_or (map (λ level. level.slots) levels) 0 (Count 0)) steps) e ∙ none

module _ (n : ℕ) (book : BookCosts) (s t : Tables) (list other : List Action) (first : IsGreatest (suc n) book s) (second : IsGreatest (suc n) book t)
    (is : IsWritten (suc n) book s list) (js : IsWritten (suc n) book t other) where
  by_levels : (levels : List Level) → book.levels ≡ levels → list ≡ other
  by_levels [] e =
      let last : length book.levels - 1 ≡ 0 = omega (arith, ap length e) in
      let S : ℕ → Type 0 = λ k. Reads (suc n) book s false k (suc n) (room book k (suc n)) is.0 in
      let T : ℕ → Type 0 = λ k. Reads (suc n) book t false k (suc n) (room book k (suc n)) js.0 in
      let S' : ℕ → Type 0 = λ m. Reads (suc n) book s false 0 (suc n) m is.0 in
      let T' : ℕ → Type 0 = λ m. Reads (suc n) book t false 0 (suc n) m js.0 in
      let none = no_room (suc n) book e in
      let one' = alone (suc n) (suc n) book s is.0 (subst S' none (subst S last is.1)) in
      let other' = alone (suc n) (suc n) book t js.0 (subst T' none (subst T last js.1)) in
      is.2 ∙ ap (λ p. whole (suc n) (length book.levels - 1) p) (one' ∙ sym other') ∙ sym js.2
  by_levels (level ∷ rest) e =
      let known : length book.levels - 1 < length book.levels = omega (arith, ap length e) in
      let le : suc n ≤ suc n = omega arith in
      let free : room book (length book.levels - 1) (suc n) ≤ room book (length book.levels - 1) (suc n) = omega arith in
      let read = part_alike (suc n) book s t first second is.0 false (length book.levels - 1) (suc n) (room book (length book.levels - 1) (suc n)) known (omega arith) le free (λ e. absurd (true≢false (sym e))) is.1 in
      unique (suc n) book t list other (is.0, read, is.2) js

pub plan_unique : (steps : ℕ) (book : BookCosts) (s t : Tables) (list other : List Action) → PlanIsUnique steps book s t list other
plan_unique zero book s t list other first second is js = is ∙ sym js
plan_unique (suc n) book s t list other first second is js = by_levels n book s t list other first second is js book.levels refl
