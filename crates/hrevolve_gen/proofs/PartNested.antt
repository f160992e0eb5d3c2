-- A part is nested.
use Rattle.std.proofs.Common.{◌≡◌, ◌==◌, ℕ, zero, suc, ◌+◌, ◌-◌, ◌<◌, cond, Bool, true, false, List, [], ◌∷◌, ◌++◌, refl, sym, subst, arith, inl, inr, append_assoc}
use Rattle.std.proofs.lemmas.Bool.{cases_Bool}
use Rattle.plan_types.specs.declared.action.Keep.TheVariants.{Tape}
use Rattle.plan_types.specs.declared.action.Action.{Action}
use Rattle.plan_types.specs.declared.action.Action.TheVariants.{Forward, Reverse, EndForward}
use Rattle.level_book.specs.BookCosts.{BookCosts, room}
use Rattle.level_book.specs.NestedClass.{Image, IsNestedFrom, KeepsFaster}
use Rattle.level_book.specs.UnderTable.{Tables}
use Rattle.hrevolve_gen.specs.HRevolveList.{Part, one, faster, split, actions, Reads}
use Rattle.hrevolve_gen.proofs.Images.{Below, below_later, top_of_below}

abbrev pub image : ℕ → ℕ → Image
image n k = record { position = n; level = k }

-- what is held before a part
abbrev pub stack : Bool → ℕ → ℕ → List Image → List Image
stack true b k images = image b k ∷ images
stack false b k images = images

module _ (steps : ℕ) (book : BookCosts) (t : Tables) where
  -- a part whose first state is in work keeps that state on a level up to k
  pub keeps : (p : Part) (k j b l m : ℕ) (rest : List Action) → Reads steps book t false k l m p → k < j → KeepsFaster b j (actions steps false k b p ++ rest)
  keeps one k j b l m rest reads lt =
      let P : Bool → Type 0 = λ c. KeepsFaster b j (cond c (Forward b (b + 1) Tape ∷ EndForward ∷ Reverse (b + 1) b ∷ []) (Forward b (b + 1) Tape ∷ Reverse (b + 1) b ∷ []) ++ rest) in
      elim (cases_Bool (b + 1 == steps)) [ inl e ↦ subst P (sym e) refl | inr e ↦ subst P (sym e) refl ]
  keeps (faster p) zero j b l m rest reads lt = absurd reads
  keeps (faster p) (suc k) j b l m rest reads lt = keeps p k j b l (room book k steps) rest reads.2 (omega arith)
  keeps (split i p q) k j b l zero rest reads lt = absurd reads
  keeps (split i p q) k j b l (suc m) rest reads lt = (refl, lt)

  -- the two parts of a split
  both : (k b j l m : ℕ) (p q : Part) (images : List Image) (rest : List Action) → j < l →
      ((rest : List Action) → IsNestedFrom (b + j) (image b k ∷ images) rest → IsNestedFrom (b + j + (l - j)) (image b k ∷ images) (actions steps false k (b + j) p ++ rest)) →
      ((rest : List Action) → IsNestedFrom b images rest → IsNestedFrom (b + j) (image b k ∷ images) (actions steps true k b q ++ rest)) →
      IsNestedFrom b images rest → IsNestedFrom (b + l) (image b k ∷ images) ((actions steps false k (b + j) p ++ actions steps true k b q) ++ rest)
  both k b j l m p q images rest lt first second is =
      let e : b + j + (l - j) ≡ b + l = omega arith in
      let P : ℕ → Type 0 = λ n. IsNestedFrom n (image b k ∷ images) (actions steps false k (b + j) p ++ (actions steps true k b q ++ rest)) in
      let Q : List Action → Type 0 = λ list. IsNestedFrom (b + l) (image b k ∷ images) list in
      subst Q (sym (append_assoc (actions steps false k (b + j) p) (actions steps true k b q) rest)) (subst P e (first (actions steps true k b q ++ rest) (second rest is)))

  pub part_nested : (p : Part) (held : Bool) (k b l m : ℕ) (images : List Image) (rest : List Action) → Reads steps book t held k l m p → Below images b k → IsNestedFrom b images rest →
      IsNestedFrom (b + l) (stack held b k images) (actions steps held k b p ++ rest)
  part_nested one false k b l m images rest reads below is =
      let P : Bool → Type 0 = λ c. IsNestedFrom (b + l) images (cond c (Forward b (b + 1) Tape ∷ EndForward ∷ Reverse (b + 1) b ∷ []) (Forward b (b + 1) Tape ∷ Reverse (b + 1) b ∷ []) ++ rest) in
      elim (cases_Bool (b + 1 == steps)) [ inl e ↦ subst P (sym e) is | inr e ↦ subst P (sym e) is ]
  part_nested one true k b l m images rest reads below is = ((refl, refl), (λ lt. refl), is)
  part_nested (faster p) held zero b l m images rest reads below is = absurd reads
  part_nested (faster p) false (suc k) b l m images rest reads below is =
      part_nested p false k b l (room book k steps) images rest reads.2 (below_later images b b (suc k) k below (omega arith) (omega arith)) is
  part_nested (faster p) true (suc k) b l m images rest reads below is = (
    (refl, refl),
    (λ lt. keeps p k (suc k) b l (room book k steps) rest reads.2 (omega arith)),
    part_nested p false k b l (room book k steps) images rest reads.2 (below_later images b b (suc k) k below (omega arith) (omega arith)) is,
  )
  part_nested (split j p q) false k b l zero images rest reads below is = absurd reads
  part_nested (split j p q) false k b l (suc m) images rest reads below is = (
    top_of_below images b k below,
    both k b j l m p q images rest reads.1
        (λ rest is. part_nested p false k (b + j) (l - j) m (image b k ∷ images) rest reads.3 (omega (arith, reads.0), omega arith, below_later images b (b + j) k k below (omega arith) (omega arith)) is)
        (λ rest is. part_nested q true k b j m images rest reads.4 below is) is,
  )
  part_nested (split j p q) true k b l m images rest reads below is = (
    (refl, refl),
    both k b j l m p q images rest reads.1
        (λ rest is. part_nested p false k (b + j) (l - j) m (image b k ∷ images) rest reads.3 (omega (arith, reads.0), omega arith, below_later images b (b + j) k k below (omega arith) (omega arith)) is)
        (λ rest is. part_nested q true k b j m images rest reads.4 below is) is,
  )
