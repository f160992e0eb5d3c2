-- There is a planned list wherever there is a plan.
use Rattle.std.proofs.Common.{◌≡◌, ◌==◌, ◌⊎◌, ℕ, zero, suc, ◌+◌, ◌<◌, ◌≤◌, min, cond, List, refl, sym, ap, subst, ◌∙◌, inl, inr, arith, eq-eqb}
use Rattle.std.proofs.lemmas.Bool.{cases_eq, cases_lt, ne_eqb}
use Rattle.plan_types.specs.declared.action.Action.{Action}
use Rattle.level_book.specs.declared.book.Level.{Level}
use Rattle.level_book.specs.BookCosts.{BookCosts, room, total_room}
use Rattle.revolve_gen.specs.Places.{places_on}
use Rattle.revolve_gen.specs.Stack.{places_used, placed}
use Rattle.revolve_gen.specs.Multistage.{saving}
use Rattle.revolve_gen.specs.RevolveList.{revolve}
use Rattle.revolve_gen.proofs.MultistageValidity.{two_levels}
use Rattle.revolve_gen.proofs.StackPlaces.{levels_free, used_same}
use Rattle.multistage_gen.specs.MultistageList.{ComesBefore, PlanExists}
use Rattle.multistage_gen.proofs.ClassMembership.{saving_same}

-- ---- how many places are on level 0

same_on : (f g : ℕ → ℕ) (n : ℕ) → ((p : ℕ) → p < n → f p ≡ g p) → places_on f 0 n ≡ places_on g 0 n
same_on f g zero same = refl
same_on f g (suc n) same =
    let before = same_on f g n (λ p h. same p (omega (arith, h))) in
    let here : cond {A = ℕ} (f n == 0) 1 0 ≡ cond {A = ℕ} (g n == 0) 1 0 = ap (λ l. cond {A = ℕ} (l == 0) 1 0) (same n (omega arith)) in
    omega (arith, before, here)

all_on : (level : ℕ → ℕ) (n : ℕ) → ((p : ℕ) → p < n → level p ≡ 0) → places_on level 0 n ≡ n
all_on level zero all = refl
all_on level (suc n) all =
    let before = all_on level n (λ p h. all p (omega (arith, h))) in
    let here : cond {A = ℕ} (level n == 0) 1 0 ≡ 1 = ap (λ l. cond {A = ℕ} (l == 0) 1 0) (all n (omega arith)) in
    omega (arith, before, here)

none_on : (n : ℕ) → places_on (λ _. 1) 0 n ≡ 0
none_on zero = refl
none_on (suc n) = let before = none_on n in omega (arith, before)

-- one place more on level 0
abbrev moved : (ℕ → ℕ) → ℕ → ℕ → ℕ
moved level q p = cond (p == q) 0 (level p)

moved_here : (level : ℕ → ℕ) (q : ℕ) → moved level q q ≡ 0
moved_here level q = ap (λ t. cond {A = ℕ} t 0 (level q)) (eq-eqb q q refl)

moved_other : (level : ℕ → ℕ) (q p : ℕ) → (p ≡ q → ⊥) → moved level q p ≡ level p
moved_other level q p other = ap (λ t. cond {A = ℕ} t 0 (level p)) (ne_eqb p q other)

one_more_on : (level : ℕ → ℕ) (q n : ℕ) → q < n → level q ≡ 1 → places_on (moved level q) 0 n ≡ places_on level 0 n + 1
one_more_on level q zero low at = absurd (omega (arith, low))
one_more_on level q (suc n) low at = elim (cases_eq q n) [
  | inl same ↦
      let before = same_on (moved level q) level n (λ p h. moved_other level q p (λ e. absurd (omega (arith, h, e, same)))) in
      let new : cond {A = ℕ} (moved level q n == 0) 1 0 ≡ 1 = ap (λ l. cond {A = ℕ} (l == 0) 1 0) (ap (moved level q) (sym same) ∙ moved_here level q) in
      let old : cond {A = ℕ} (level n == 0) 1 0 ≡ 0 = ap (λ l. cond {A = ℕ} (l == 0) 1 0) (ap level (sym same) ∙ at) in
      omega (arith, before, new, old)
  | inr other ↦
      let before = one_more_on level q n (omega (arith, low, other)) at in
      let here : cond {A = ℕ} (moved level q n == 0) 1 0 ≡ cond {A = ℕ} (level n == 0) 1 0 = ap (λ l. cond {A = ℕ} (l == 0) 1 0) (moved_other level q n (λ e. other (sym e))) in
      omega (arith, before, here)
]

-- ---- a choice of places, each of which comes before those that aren't chosen

module _ (B : ℕ → ℕ → Type 0) (one_way : (p q : ℕ) → p < q → B p q ⊎ B q p) (chain : (p q r : ℕ) → B p q → B q r → B p r) where
  record IsChoice (n r : ℕ) (level : ℕ → ℕ) : Type 0 where
    known : (p : ℕ) → p < n → level p < 2
    many : places_on level 0 n ≡ r
    order : (p q : ℕ) → p < n → q < n → level p ≡ 0 → level q ≡ 1 → B p q

  -- no place is on level 1, or one there comes before the others there
  abbrev Best : (ℕ → ℕ) → ℕ → Type 0
  Best level n =
      ((p : ℕ) → p < n → level p ≡ 1 → ⊥)
      ⊎ ((q : ℕ) × (q < n) × (level q ≡ 1) × ((p : ℕ) → p < n → level p ≡ 1 → (p ≡ q) ⊎ B q p))

  best_of : (level : ℕ → ℕ) (n : ℕ) → Best level n
  best_of level zero = inl (λ p h at. absurd (omega (arith, h)))
  best_of level (suc n) = elim (best_of level n) [
    | inl none ↦ elim (cases_eq (level n) 1) [
      | inl on ↦ inr (n, omega arith, on, λ p h at. elim (cases_eq p n) [ inl same ↦ inl same | inr other ↦ absurd (none p (omega (arith, h, other)) at) ])
      | inr off ↦ inl (λ p h at. elim (cases_eq p n) [ inl same ↦ off (ap level (sym same) ∙ at) | inr other ↦ none p (omega (arith, h, other)) at ])
    ]
    | inr some ↦ elim (cases_eq (level n) 1) [
      | inl on ↦ elim (one_way some.0 n some.1) [
        | inl first ↦ inr (
          some.0,
          omega (arith, some.1),
          some.2,
          λ p h at. elim (cases_eq p n) [
            | inl same ↦ inr (subst (λ x. B some.0 x) (sym same) first)
            | inr other ↦ some.3 p (omega (arith, h, other)) at
          ],
        )
        | inr last ↦ inr (
          n,
          omega arith,
          on,
          λ p h at. elim (cases_eq p n) [
            | inl same ↦ inl same
            | inr other ↦ elim (some.3 p (omega (arith, h, other)) at) [
              | inl is ↦ inr (subst (λ x. B n x) (sym is) last)
              | inr behind ↦ inr (chain n some.0 p last behind)
            ]
          ],
        )
      ]
      | inr off ↦ inr (
        some.0,
        omega (arith, some.1),
        some.2,
        λ p h at. elim (cases_eq p n) [
          | inl same ↦ absurd (off (ap level (sym same) ∙ at))
          | inr other ↦ some.3 p (omega (arith, h, other)) at
        ],
      )
    ]
  ]

  -- the best place that isn't chosen is chosen too
  chosen_more : (n r : ℕ) (level : ℕ → ℕ) (q : ℕ) → IsChoice n r level → q < n → level q ≡ 1 → ((p : ℕ) → p < n → level p ≡ 1 → (p ≡ q) ⊎ B q p) → IsChoice n (suc r) (moved level q)
  chosen_more n r level q is low at best = record {
    known = λ p h. elim (cases_eq p q) [
      | inl same ↦ (let e = ap (moved level q) same ∙ moved_here level q in omega (arith, e))
      | inr other ↦ (let e = moved_other level q p other in let k = is.known p h in omega (arith, e, k))
    ];
    many = let more = one_more_on level q n low at in let old = is.many in omega (arith, more, old);
    order = λ p s h g zero_p one_s.
        let apart : s ≡ q → ⊥ = λ same. let e = ap (moved level q) same ∙ moved_here level q in absurd (omega (arith, e, one_s)) in
        let stays = moved_other level q s apart in
        elim (cases_eq p q) [
          | inl same ↦ elim (best s g (sym stays ∙ one_s)) [
            | inl is_q ↦ absurd (apart is_q)
            | inr behind ↦ subst (λ x. B x s) (sym same) behind
          ]
          | inr other ↦ is.order p s h g (sym (moved_other level q p other) ∙ zero_p) (sym stays ∙ one_s)
        ];
  }

  choice_of : (n r : ℕ) → r ≤ n → (level : ℕ → ℕ) × IsChoice n r level
  choice_of n zero few = (λ _. 1, record { known = λ p h. omega arith; many = none_on n; order = λ p q h g z o. absurd (omega (arith, z)) })
  choice_of n (suc r) few =
      let before = choice_of n r (omega (arith, few)) in
      let level = before.0 in
      let is = before.1 in
      elim (best_of level n) [
        | inl none ↦
            let all = all_on level n (λ p h. let k = is.known p h in elim (cases_eq (level p) 1) [ inl on ↦ absurd (none p h on) | inr off ↦ omega (arith, k, off) ]) in
            let many = is.many in
            absurd (omega (arith, all, many, few))
        | inr some ↦ (moved level some.0, chosen_more n r level some.0 is some.1 some.2 some.3)
      ]

-- ---- places by what they save

either_first : (list : List Action) (fast slow : Level) (p q : ℕ) → p < q → ComesBefore list fast slow p q ⊎ ComesBefore list fast slow q p
either_first list fast slow p q less = elim (cases_lt (saving list fast slow p) (saving list fast slow q)) [
  | inl more ↦ inr (inl more)
  | inr most ↦ elim (cases_lt (saving list fast slow q) (saving list fast slow p)) [
    | inl more ↦ inl (inl more)
    | inr same ↦ inl (inr (omega (arith, most, same), less))
  ]
]

in_turn : (list : List Action) (fast slow : Level) (p q r : ℕ) → ComesBefore list fast slow p q → ComesBefore list fast slow q r → ComesBefore list fast slow p r
in_turn list fast slow p q r (inl a) (inl b) = inl (omega (arith, a, b))
in_turn list fast slow p q r (inl a) (inr b) = inl (let e = b.0 in omega (arith, a, e))
in_turn list fast slow p q r (inr a) (inl b) = inl (let e = a.0 in omega (arith, b, e))
in_turn list fast slow p q r (inr a) (inr b) = inr (let x = a.0 in let y = b.0 in omega (arith, x, y), let x = a.1 in let y = b.1 in omega (arith, x, y))

same_order : (s t s' t' p q : ℕ) → s ≡ s' → t ≡ t' → (t' < s') ⊎ ((t' ≡ s') × (p < q)) → (t < s) ⊎ ((t ≡ s) × (p < q))
same_order s t s' t' p q e f (inl less) = inl (omega (arith, e, f, less))
same_order s t s' t' p q e f (inr tie) = inr (f ∙ tie.0 ∙ sym e, tie.1)

-- ---- the list

pub plan_exists : (steps : ℕ) (book : BookCosts) → PlanExists steps book
plan_exists steps book two plan =
    let levels = two_levels book.levels two in
    let fast = levels.0 in
    let slow = levels.1 in
    let c = total_room book steps in
    let base = revolve (λ _. 0) steps c in
    let n = places_used base in
    let choice = choice_of (ComesBefore base fast slow) (either_first base fast slow) (in_turn base fast slow) n (min (room book 0 steps) n) (omega arith) in
    let level = choice.0 in
    let is = choice.1 in
    let list = revolve level steps c in
    let same : placed level 0 base ≡ list = levels_free steps c level (λ _. 0) in
    let used : places_used list ≡ n = ap places_used (sym same) ∙ used_same level base in
    let saves : (p : ℕ) → saving list fast slow p ≡ saving base fast slow p = λ p. ap (λ (l : List Action). saving l fast slow p) (sym same) ∙ saving_same level base fast slow p in (
      list,
      record {
        fast = fast;
        slow = slow;
        two = levels.2;
        plan = plan;
        level = level;
        planned = record {
          is = refl;
          known = λ p h. is.known p (omega (arith, h, used));
          many = ap (places_on level 0) used ∙ is.many ∙ ap (min (room book 0 steps)) (sym used);
          order = λ p q h g z o.
              same_order (saving list fast slow p) (saving list fast slow q) (saving base fast slow p) (saving base fast slow q) p q (saves p) (saves q)
              (is.order p q (omega (arith, h, used)) (omega (arith, g, used)) z o);
        };
      },
    )
