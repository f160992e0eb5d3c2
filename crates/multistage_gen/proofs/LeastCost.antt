-- The planned list costs the least of its class: what its places on level 1 would save at most is a threshold.
use Rattle.std.proofs.Common.{◌≡◌, ◌==◌, ◌⊎◌, ℕ, zero, suc, ◌<◌, ◌≤◌, Bool, true, false, cond, List, refl, sym, ◌∙◌, ap, inl, inr, arith}
use Rattle.std.proofs.lemmas.Bool.{cases_eq, cases_lt, ne_eqb}
use Rattle.plan_types.specs.declared.action.Action.{Action}
use Rattle.level_book.specs.BookCosts.{BookCosts}
use Rattle.revolve_gen.specs.Places.{places_on}
use Rattle.revolve_gen.specs.Stack.{places_used}
use Rattle.revolve_gen.specs.Multistage.{saving}
use Rattle.multistage_gen.specs.Threshold.{PlannedIsLeast}
use Rattle.multistage_gen.proofs.ClassMembership.{planned_levels}
use Rattle.multistage_gen.proofs.Exchange.{multistage_least}

-- no place is on level 1, or one there is where f is greatest
abbrev Greatest : (ℕ → ℕ) → (ℕ → ℕ) → ℕ → Type 0
Greatest f level n =
    ((p : ℕ) → p < n → level p ≡ 1 → ⊥)
    ⊎ ((q : ℕ) × (q < n) × (level q ≡ 1) × ((p : ℕ) → p < n → level p ≡ 1 → f p ≤ f q))

module _ (f level : ℕ → ℕ) (n : ℕ) where
  one_more : (q : ℕ) → f n ≤ f q → ((p : ℕ) → p < n → level p ≡ 1 → f p ≤ f q) → (p : ℕ) → p < suc n → level p ≡ 1 → f p ≤ f q
  one_more q last before p h on = elim (cases_eq p n) [
    | inl same ↦ (let e = ap f same in omega (arith, e, last))
    | inr other ↦ before p (omega arith) on
  ]

  none_more : (level n ≡ 1 → ⊥) → ((p : ℕ) → p < n → level p ≡ 1 → ⊥) → (p : ℕ) → p < suc n → level p ≡ 1 → ⊥
  none_more last before p h on = elim (cases_eq p n) [
    | inl same ↦ last (ap level (sym same) ∙ on)
    | inr other ↦ before p (omega arith) on
  ]

  but_last : (q : ℕ) → (level n ≡ 1 → ⊥) → ((p : ℕ) → p < n → level p ≡ 1 → f p ≤ f q) → (p : ℕ) → p < suc n → level p ≡ 1 → f p ≤ f q
  but_last q last before p h on = elim (cases_eq p n) [
    | inl same ↦ absurd (last (ap level (sym same) ∙ on))
    | inr other ↦ before p (omega arith) on
  ]

greatest_of : (f level : ℕ → ℕ) (n : ℕ) → Greatest f level n
greatest_of f level zero = inl (λ p h on. absurd (omega (arith, h)))
greatest_of f level (suc n) = elim (greatest_of f level n) [
  | inl none ↦ elim (cases_eq (level n) 1) [
    | inl on ↦ inr (n, omega arith, on, one_more f level n n (omega arith) (λ p h other. absurd (none p h other)))
    | inr off ↦ inl (none_more f level n off none)
  ]
  | inr some ↦ elim (cases_eq (level n) 1) [
    | inl on ↦ elim (cases_lt (f some.0) (f n)) [
      | inl less ↦ inr (n, omega arith, on, one_more f level n n (omega arith) (λ p h other. let below = some.3 p h other in omega (arith, below, less)))
      | inr more ↦ inr (some.0, omega (arith, some.1), some.2, one_more f level n some.0 more some.3)
    ]
    | inr off ↦ inr (some.0, omega (arith, some.1), some.2, but_last f level n some.0 off some.3)
  ]
]

-- where a place isn't on level 0, not all are
one_at_most : (b : Bool) → cond {A = ℕ} b 1 0 ≤ 1
one_at_most true = omega arith
one_at_most false = omega arith

all_at_most : (level : ℕ → ℕ) (n : ℕ) → places_on level 0 n ≤ n
all_at_most level zero = omega arith
all_at_most level (suc n) = omega (arith, all_at_most level n, one_at_most (level n == 0))

pub not_all : (level : ℕ → ℕ) (q n : ℕ) → q < n → (level q ≡ 0 → ⊥) → places_on level 0 n < n
not_all level q zero h off = absurd (omega (arith, h))
not_all level q (suc n) h off = elim (cases_eq q n) [
  | inl same ↦
      let none : cond {A = ℕ} (level n == 0) 1 0 ≡ 0 = ap (λ t. cond {A = ℕ} t 1 0) (ne_eqb (level n) 0 (λ z. off (ap level same ∙ z))) in
      omega (arith, all_at_most level n, none)
  | inr other ↦ (let before = not_all level q n (omega arith) off in omega (arith, before, one_at_most (level n == 0)))
]

pub planned_least : (steps : ℕ) (book : BookCosts) (list other : List Action) → PlannedIsLeast steps book list other
planned_least steps book list other is dearer_write dearer_read member =
    let n = places_used list in
    let level = is.level in
    let f : ℕ → ℕ = saving list is.fast is.slow in
    let has = planned_levels steps book list is in
    elim (greatest_of f level n) [
      | inl none ↦
          multistage_least steps book 0 is.fast is.slow level list other is.two dearer_write dearer_read has
          (record { above = λ p h on. omega arith; below = λ p h on. absurd (none p h on); full = inl refl }) member
      | inr some ↦
          multistage_least steps book (f some.0) is.fast is.slow level list other is.two dearer_write dearer_read has
          (record {
            above = λ p h on. elim (is.planned.order p some.0 h some.1 on some.2) [ inl less ↦ omega (arith, less) | inr tie ↦ omega (arith, tie.0) ];
            below = some.3;
            full = inr (let few = not_all level some.0 n some.1 (λ off. absurd (omega (arith, off, some.2))) in omega (arith, is.planned.many, few));
          }) member
    ]
