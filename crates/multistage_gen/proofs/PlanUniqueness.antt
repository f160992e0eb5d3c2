-- There is one planned list at most.
use Rattle.std.proofs.Common.{◌≡◌, ◌==◌, ◌⊎◌, ℕ, zero, suc, ◌<◌, ◌≤◌, Bool, cond, List, [], ◌∷◌, refl, sym, ap, subst, ◌∙◌, inl, inr, arith}
use Rattle.std.proofs.lemmas.Bool.{cases_eq, eq-eqb, ne_eqb}
use Rattle.plan_types.specs.declared.action.Action.{Action}
use Rattle.level_book.specs.declared.book.Level.{Level}
use Rattle.level_book.specs.BookCosts.{BookCosts, total_room}
use Rattle.revolve_gen.specs.Places.{places_on}
use Rattle.revolve_gen.specs.Stack.{written, read, places_used, placed}
use Rattle.revolve_gen.specs.Multistage.{saving}
use Rattle.revolve_gen.proofs.StackPlaces.{levels_free, used_same, first_of_both, second_of_both}
use Rattle.revolve_gen.proofs.MultistageValidity.{placed_same}
use Rattle.multistage_gen.specs.MultistageList.{ComesBefore, IsPlan, PlansAreUnique}
use Rattle.multistage_gen.proofs.ClassMembership.{saving_same}

abbrev one_if : Bool → ℕ
one_if t = cond t 1 0

is_one : (l : ℕ) → l ≡ 0 → one_if (l == 0) ≡ 1
is_one l e = ap one_if (eq-eqb l 0 e)

is_none : (l : ℕ) → (l ≡ 0 → ⊥) → one_if (l == 0) ≡ 0
is_none l ne = ap one_if (ne_eqb l 0 ne)

-- where each place that is on level 0 by g is there by f
no_fewer : (f g : ℕ → ℕ) (n : ℕ) → ((q : ℕ) → q < n → g q ≡ 0 → f q ≡ 0) → places_on g 0 n ≤ places_on f 0 n
no_fewer f g zero within = omega arith
no_fewer f g (suc n) within =
    let before = no_fewer f g n (λ q h. within q (omega arith)) in
    elim (cases_eq (g n) 0) [
      | inl e ↦ (let here = is_one (g n) e in let there = is_one (f n) (within n (omega arith) e) in omega arith)
      | inr ne ↦ (let here = is_none (g n) ne in omega arith)
    ]

-- and one more is
more_on : (f g : ℕ → ℕ) (p n : ℕ) → p < n → f p ≡ 0 → (g p ≡ 0 → ⊥) → ((q : ℕ) → q < n → g q ≡ 0 → f q ≡ 0) → places_on g 0 n < places_on f 0 n
more_on f g p zero h e ne within = absurd (omega arith)
more_on f g p (suc n) h e ne within = elim (cases_eq p n) [
  | inl same ↦
      let before = no_fewer f g n (λ q h. within q (omega arith)) in
      let here = is_none (g n) (λ z. ne (ap g same ∙ z)) in
      let there = is_one (f n) (ap f (sym same) ∙ e) in
      omega arith
  | inr other ↦
      let before = more_on f g p n (omega arith) e ne (λ q h. within q (omega arith)) in
      elim (cases_eq (g n) 0) [
        | inl z ↦ (let here = is_one (g n) z in let there = is_one (f n) (within n (omega arith) z) in omega arith)
        | inr nz ↦ (let here = is_none (g n) nz in omega arith)
      ]
]

not_one : (l : ℕ) → l < 2 → (l ≡ 0 → ⊥) → l ≡ 1
not_one zero h ne = absurd (ne refl)
not_one (suc zero) h ne = refl
not_one (suc (suc l)) h ne = absurd (omega arith)

module _ (B : ℕ → ℕ → Type 0) (one_way : (p q : ℕ) → B p q → B q p → ⊥) (n : ℕ) where
  -- two choices of as many places, each before the others, are one
  half : (f g : ℕ → ℕ) → ((p : ℕ) → p < n → f p < 2) → ((p : ℕ) → p < n → g p < 2) → places_on f 0 n ≡ places_on g 0 n →
      ((p q : ℕ) → p < n → q < n → f p ≡ 0 → f q ≡ 1 → B p q) → ((p q : ℕ) → p < n → q < n → g p ≡ 0 → g q ≡ 1 → B p q) →
      (p : ℕ) → p < n → f p ≡ 0 → g p ≡ 0
  half f g kf kg as_many of og p h e = elim (cases_eq (g p) 0) [
    | inl z ↦ z
    | inr nz ↦
        let last = not_one (g p) (kg p h) nz in
        let within : (q : ℕ) → q < n → g q ≡ 0 → f q ≡ 0 = λ q k z. elim (cases_eq (f q) 0) [
          | inl y ↦ y
          | inr ny ↦ absurd (one_way p q (of p q h k e (not_one (f q) (kf q k) ny)) (og q p k h z last))
        ] in
        let more = more_on f g p n h e nz within in
        absurd (omega arith)
  ]

  pub one_choice : (f g : ℕ → ℕ) → ((p : ℕ) → p < n → f p < 2) → ((p : ℕ) → p < n → g p < 2) → places_on f 0 n ≡ places_on g 0 n →
      ((p q : ℕ) → p < n → q < n → f p ≡ 0 → f q ≡ 1 → B p q) → ((p q : ℕ) → p < n → q < n → g p ≡ 0 → g q ≡ 1 → B p q) →
      (p : ℕ) → p < n → f p ≡ g p
  one_choice f g kf kg as_many of og p h = elim (cases_eq (f p) 0) [
    | inl e ↦ e ∙ sym (half f g kf kg as_many of og p h e)
    | inr ne ↦
        let last = not_one (f p) (kf p h) ne in
        last ∙ sym (not_one (g p) (kg p h) (λ z. ne (half g f kg kf (sym as_many) og of p h z)))
  ]

one_before : (list : List Action) (fast slow : Level) (p q : ℕ) → ComesBefore list fast slow p q → ComesBefore list fast slow q p → ⊥
one_before list fast slow p q (inl a) (inl b) = omega arith
one_before list fast slow p q (inl a) (inr b) = (let e = b.0 in omega arith)
one_before list fast slow p q (inr a) (inl b) = (let e = a.0 in omega arith)
one_before list fast slow p q (inr a) (inr b) = (let h = a.1 in let g = b.1 in omega arith)

order_of : (s t s' t' p q : ℕ) → s' ≡ s → t' ≡ t → (t' < s') ⊎ ((t' ≡ s') × (p < q)) → (t < s) ⊎ ((t ≡ s) × (p < q))
order_of s t s' t' p q e f (inl less) = inl (omega arith)
order_of s t s' t' p q e f (inr tie) = inr (sym f ∙ tie.0 ∙ e, tie.1)

same_levels : (book : BookCosts) (fast slow quick late : Level) → book.levels ≡ fast ∷ slow ∷ [] → book.levels ≡ quick ∷ late ∷ [] → (quick ≡ fast) × (late ≡ slow)
same_levels book fast slow quick late e f = let g : quick ∷ late ∷ [] ≡ fast ∷ slow ∷ [] = sym f ∙ e in (cc, cc)

-- two plans for one book, of which the second is told of the first one's levels
same_plans : (steps : ℕ) (book : BookCosts) (fast slow : Level) (f g : ℕ → ℕ) (list other : List Action) → IsPlan steps book fast slow f list → IsPlan steps book fast slow g other → list ≡ other
same_plans steps book fast slow f g list other a b =
    let c = total_room book steps in
    let n = places_used list in
    let moved : placed g 0 list ≡ other = ap (placed g 0) a.is ∙ levels_free steps c g f ∙ sym b.is in
    let itself : placed f 0 list ≡ list = ap (placed f 0) a.is ∙ levels_free steps c f f ∙ sym a.is in
    let used : places_used other ≡ n = ap places_used (sym moved) ∙ used_same g list in
    let saves : (p : ℕ) → saving other fast slow p ≡ saving list fast slow p = λ p. ap (λ l. saving l fast slow p) (sym moved) ∙ saving_same g list fast slow p in
    let many : places_on f 0 n ≡ places_on g 0 n = omega (arith, a.many, b.many, used, ap (places_on g 0) used) in
    let agree = one_choice (ComesBefore list fast slow) (one_before list fast slow) n f g a.known (λ p h. b.known p (omega arith)) many a.order
    (λ p q h k e d. order_of (saving list fast slow p) (saving list fast slow q) _ _ p q (saves p) (saves q) (b.order p q (omega arith) (omega arith) e d)) in
    sym itself ∙ placed_same n f g 0 list agree
    (first_of_both (written 0 list) (read 0 list) n (omega arith)) (second_of_both (written 0 list) (read 0 list) n (omega arith)) ∙ moved

pub plans_unique : (steps : ℕ) (book : BookCosts) → PlansAreUnique steps book
plans_unique steps book list other a b =
    let same = same_levels book a.fast a.slow b.fast b.slow a.two b.two in
    same_plans steps book a.fast a.slow a.level b.level list other a.planned
    (subst (λ l. IsPlan steps book l a.slow b.level other) same.0 (subst (λ l. IsPlan steps book b.fast l b.level other) same.1 b.planned))
