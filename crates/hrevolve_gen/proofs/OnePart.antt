-- At most one part is read from tables, and at most one list.
use Rattle.std.proofs.Common.{◌≡◌, ℕ, zero, suc, ◌-◌, ◌≤◌, Bool, true, false, List, length, refl, sym, ap, ◌∙◌, subst, arith, inl, inr}
use Rattle.std.proofs.lemmas.Bool.{cases_lt}
use Rattle.plan_types.specs.declared.action.Action.{Action}
use Rattle.level_book.specs.BookCosts.{BookCosts, room}
use Rattle.level_book.specs.UnderTable.{Entry, Tables}
use Rattle.hrevolve_gen.specs.HRevolveList.{Part, one, faster, split, IsFirst, Reads, whole, IsWritten}

-- the first split at which the entry is attained is one
same_split : (k i j : ℕ) (own : Entry) (without after : ℕ → Entry) → 1 ≤ i → 1 ≤ j → own ≡ after i → own ≡ after j → IsFirst k i own without after → IsFirst k j own without after → i ≡ j
same_split k i j own without after hi hj ei ej fi fj =
    elim (cases_lt i j) [
      | inl lt ↦ absurd (fj.least i hi lt ei)
      | inr ge ↦ elim (cases_lt j i) [ inl lt ↦ absurd (fi.least j hj lt ej) | inr le ↦ omega arith ]
    ]

module _ (steps : ℕ) (book : BookCosts) (t : Tables) where
  pub same_part : (p q : Part) (held : Bool) (k l m : ℕ) → Reads steps book t held k l m p → Reads steps book t held k l m q → p ≡ q
  same_part one one held k l m is js = refl
  same_part one (faster q) held zero l m is js = absurd js
  same_part one (faster q) false (suc k) l m is js = absurd (omega (arith, is.0, js.0))
  same_part one (faster q) true (suc k) l m is js = absurd (omega (arith, is.0, js.0))
  same_part one (split j q r) false k l zero is js = absurd js
  same_part one (split j q r) false k l (suc m) is js = absurd (omega (arith, is.0, js.0, js.1))
  same_part one (split j q r) true k l m is js = absurd (omega (arith, is.0, js.0, js.1))
  same_part (faster p) one held zero l m is js = absurd is
  same_part (faster p) one false (suc k) l m is js = absurd (omega (arith, is.0, js.0))
  same_part (faster p) one true (suc k) l m is js = absurd (omega (arith, is.0, js.0))
  same_part (faster p) (faster q) held zero l m is js = absurd is
  same_part (faster p) (faster q) false (suc k) l m is js = ap faster (same_part p q false k l (room book k steps) is.2 js.2)
  same_part (faster p) (faster q) true (suc k) l m is js = ap faster (same_part p q false k l (room book k steps) is.2 js.2)
  same_part (faster p) (split j q r) held zero l m is js = absurd is
  same_part (faster p) (split j q r) false (suc k) l zero is js = absurd js
  same_part (faster p) (split j q r) false (suc k) l (suc m) is js = absurd (js.5.used k refl is.1)
  same_part (faster p) (split j q r) true (suc k) l m is js = absurd (js.5.used k refl is.1)
  same_part (split i p q) one false k l zero is js = absurd is
  same_part (split i p q) one false k l (suc m) is js = absurd (omega (arith, is.0, is.1, js.0))
  same_part (split i p q) one true k l m is js = absurd (omega (arith, is.0, is.1, js.0))
  same_part (split i p q) (faster r) held zero l m is js = absurd js
  same_part (split i p q) (faster r) false (suc k) l zero is js = absurd is
  same_part (split i p q) (faster r) false (suc k) l (suc m) is js = absurd (is.5.used k refl js.1)
  same_part (split i p q) (faster r) true (suc k) l m is js = absurd (is.5.used k refl js.1)
  same_part (split i p q) (split j r s) false k l zero is js = absurd is
  same_part (split i p q) (split j r s) false k l (suc m) is js =
      let e = same_split k i j _ _ _ is.0 js.0 is.2 js.2 is.5 js.5 in
      let F : ℕ → Type 0 = λ j. Reads steps book t false k (l - j) m r in
      let H : ℕ → Type 0 = λ j. Reads steps book t true k j m s in
      let first = same_part p r false k (l - i) m is.3 (subst F (sym e) js.3) in
      let second = same_part q s true k i m is.4 (subst H (sym e) js.4) in
      λ x. split (e x) (first x) (second x)
  same_part (split i p q) (split j r s) true k l m is js =
      let e = same_split k i j _ _ _ is.0 js.0 is.2 js.2 is.5 js.5 in
      let F : ℕ → Type 0 = λ j. Reads steps book t false k (l - j) m r in
      let H : ℕ → Type 0 = λ j. Reads steps book t true k j m s in
      let first = same_part p r false k (l - i) m is.3 (subst F (sym e) js.3) in
      let second = same_part q s true k i m is.4 (subst H (sym e) js.4) in
      λ x. split (e x) (first x) (second x)

pub unique : (steps : ℕ) (book : BookCosts) (t : Tables) (list other : List Action) → IsWritten steps book t list → IsWritten steps book t other → list ≡ other
unique zero book t list other is js = is ∙ sym js
unique (suc n) book t list other is js =
    is.2 ∙ ap (λ p. whole (suc n) (length book.levels - 1) p) (same_part (suc n) book t is.0 js.0 false (length book.levels - 1) (suc n) (room book (length book.levels - 1) (suc n)) is.1 js.1) ∙ sym js.2
