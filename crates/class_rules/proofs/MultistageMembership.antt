-- A list is in the multistage class, and its places have levels, or it isn't.
use Rattle.std.proofs.Common.{◌≡◌, ◌↔◌, ◌⊎◌, ℕ, zero, suc, ◌+◌, ◌-◌, ◌<◌, ◌≤◌, List, [], ◌∷◌, ◌++◌, length, length-append, get_or, refl, sym, ap, subst, ◌∙◌, inl, inr, arith}
use Rattle.std.proofs.lemmas.Bool.{cases_lt, cases_eq}
use Rattle.std.proofs.lemmas.List.{get_or_default, get_or_append_left, get_or-append_right}
use Rattle.plan_types.specs.declared.action.Keep.TheVariants.{Nothing, Store, Tape}
use Rattle.plan_types.specs.declared.action.Dest.TheVariants.{Work, Level}
use Rattle.plan_types.specs.declared.action.Action.{Action}
use Rattle.plan_types.specs.declared.action.Action.TheVariants.{Forward, Reverse, Copy, Move, EndForward, EndReverse}
use Rattle.level_book.specs.declared.book.Slots.{Slots}
use Rattle.level_book.specs.declared.book.Slots.TheVariants.{Count, Unlimited}
use Rattle.level_book.specs.BookCosts.{BookCosts, slots_of, total_room}
use Rattle.revolve_gen.specs.Places.{places_on}
use Rattle.revolve_gen.specs.Plans.{HasPlan}
use Rattle.revolve_gen.specs.declared.stack.StackStep.{StackStep}
use Rattle.revolve_gen.specs.declared.stack.StackStep.TheVariants.{Push, Read, Pop, Stay}
use Rattle.revolve_gen.specs.Stack.{stack_step, held_after, place, on_level, placed}
use Rattle.revolve_gen.specs.Multistage.{HasPlaces, IsMultistage}
use Rattle.revolve_gen.specs.RevolveList.{revolve_list}
use Rattle.class_rules.specs.PlaceLevels.{HasPlaceLevels}
use Rattle.class_rules.specs.LevelInference.{level_named, Agrees, AreTheLevels, Fit}
use Rattle.class_rules.proofs.ClassByLevels.{not_in_class, in_class, fits_in_class, levelled_in_class}
use Rattle.class_rules.proofs.RevolveComparison.{Walked, walk_start, too_long, too_short, walk_end, other_action, other_level, walk_noted, walk_stayed}

stays_or_moves : (s : StackStep) → (s ≡ Stay) ⊎ (s ≡ Stay → ⊥)
stays_or_moves Push = inr (λ e. cc)
stays_or_moves Read = inr (λ e. cc)
stays_or_moves Pop = inr (λ e. cc)
stays_or_moves Stay = inl refl

low_place : (h : ℕ) (s : StackStep) → place h s ≤ h
low_place h Push = omega arith
low_place h Read = omega arith
low_place h Pop = omega arith
low_place h Stay = omega arith

-- one level more
agree_more : (levels : List ℕ) (p k : ℕ) (of : ℕ → ℕ) → p ≡ length levels → Agrees (levels ++ k ∷ []) of ↔ (Agrees levels of × (of p ≡ k))
agree_more levels p k of end =
    let long = length-append levels (k ∷ []) in
    let first : p - length levels ≡ 0 = omega (arith, end) in
    let here : get_or (levels ++ k ∷ []) p 0 ≡ k = get_or-append_right levels (k ∷ []) (length levels) p 0 refl (omega (arith, end)) ∙ ap (λ i. get_or (k ∷ []) i 0) first in (
      λ all. ((λ q low. all q (omega (arith, low, long)) ∙ get_or_append_left levels (k ∷ []) 0 q low), all p (omega (arith, end, long)) ∙ here),
      λ both q low. elim (cases_lt q (length levels)) [
        | inl before ↦ both.0 q before ∙ sym (get_or_append_left levels (k ∷ []) 0 q before)
        | inr last ↦
            let same : q ≡ p = omega (arith, last, low, long, end) in
            let P : ℕ → Type 0 = λ x. of x ≡ get_or (levels ++ k ∷ []) x 0 in
            subst P (sym same) (both.1 ∙ sym here)
      ],
    )

-- the same, where the place's level was found before
agree_still : (levels : List ℕ) (p k : ℕ) (of : ℕ → ℕ) → p < length levels → get_or levels p 0 ≡ k → Agrees levels of ↔ (Agrees levels of × (of p ≡ k))
agree_still levels p k of low is = (λ all. (all, all p low ∙ is), λ both. both.0)

-- ---- what is so or isn't

abbrev IsKnown : Type 0 → Type 0
IsKnown P = P ⊎ (P → ⊥)

at_most : (m n : ℕ) → IsKnown (m ≤ n)
at_most m n = elim (cases_lt n m) [ inl more ↦ inr (λ h. absurd (omega (arith, more, h))) | inr le ↦ inl le ]

-- two actions are one, or they aren't
two_numbers : {X : Type 0} (make : ℕ → ℕ → X) (a b c d : ℕ) → (make a b ≡ make c d → (a ≡ c) × (b ≡ d)) → IsKnown (make a b ≡ make c d)
two_numbers make a b c d apart = elim (cases_eq a c) [
  | inr other ↦ inr (λ e. other (apart e).0)
  | inl first ↦ elim (cases_eq b d) [
    | inr other ↦ inr (λ e. other (apart e).1)
    | inl second ↦ inl (λ i. make (first i) (second i))
  ]
]

three_numbers : {X : Type 0} (make : ℕ → ℕ → ℕ → X) (a b c x y z : ℕ) → (make a b c ≡ make x y z → (a ≡ x) × (b ≡ y) × (c ≡ z)) → IsKnown (make a b c ≡ make x y z)
three_numbers make a b c x y z apart = elim (cases_eq a x) [
  | inr other ↦ inr (λ e. other (apart e).0)
  | inl first ↦ elim (cases_eq b y) [
    | inr other ↦ inr (λ e. other (apart e).1)
    | inl second ↦ elim (cases_eq c z) [
      | inr other ↦ inr (λ e. other (apart e).2)
      | inl third ↦ inl (λ i. make (first i) (second i) (third i))
    ]
  ]
]

one_action : (a b : Action) → IsKnown (a ≡ b)
one_action (Forward a b Nothing) (Forward c d Nothing) = two_numbers (λ a b. Forward a b Nothing) a b c d (λ e. (cc, cc))
one_action (Forward a b (Store k)) (Forward c d (Store j)) = three_numbers (λ a b k. Forward a b (Store k)) a b k c d j (λ e. (cc, cc, cc))
one_action (Forward a b Tape) (Forward c d Tape) = two_numbers (λ a b. Forward a b Tape) a b c d (λ e. (cc, cc))
one_action (Reverse a b) (Reverse c d) = two_numbers (λ a b. Reverse a b) a b c d (λ e. (cc, cc))
one_action (Copy n k Work) (Copy m j Work) = two_numbers (λ n k. Copy n k Work) n k m j (λ e. (cc, cc))
one_action (Copy n k (Level l)) (Copy m j (Level i)) = three_numbers (λ n k l. Copy n k (Level l)) n k l m j i (λ e. (cc, cc, cc))
one_action (Move n k Work) (Move m j Work) = two_numbers (λ n k. Move n k Work) n k m j (λ e. (cc, cc))
one_action (Move n k (Level l)) (Move m j (Level i)) = three_numbers (λ n k l. Move n k (Level l)) n k l m j i (λ e. (cc, cc, cc))
one_action EndForward EndForward = inl refl
one_action EndReverse EndReverse = inl refl
one_action a b = inr (λ e. cc)

-- ---- a list beside the list of Revolve

-- it is the base with levels of its places, or with none
abbrev Levelled : List Action → List Action → Type 0
Levelled base list = ((found : List ℕ) × AreTheLevels base list found) ⊎ ((of : ℕ → ℕ) → list ≡ placed of 0 base → ⊥)

module _ (base list : List Action) where
  walk : (rest : List Action) (i held : ℕ) (levels : List ℕ) → Walked base list i held rest levels → Levelled base list
  walk [] i held levels w = elim (cases_lt i (length list)) [
    | inl within ↦ inr (λ of e. too_long base list i held [] levels w refl within of e)
    | inr past ↦ inl (levels, walk_end base list i held [] levels w refl past)
  ]
  walk (m ∷ later) i held levels w = elim (cases_lt i (length list)) [
    | inr past ↦ inr (λ of e. too_short base list i held (m ∷ later) later m levels w refl past of e)
    | inl within ↦
        let a = get_or list i m in
        let at : a ≡ get_or list i a = get_or_default list i m a within in
        elim (one_action (on_level (level_named a) m) a) [
          | inr differs ↦ inr (λ of e. other_action base list i held (m ∷ later) later a m levels w refl within at differs of e)
          | inl same ↦ elim (stays_or_moves (stack_step m)) [
            | inl stays ↦ walk later (i + 1) (held_after held (stack_step m)) levels (walk_stayed base list i held (m ∷ later) later a m levels w refl within at same stays)
            | inr moves ↦
                let p = place held (stack_step m) in
                let near = w.near in
                let low = low_place held (stack_step m) in
                elim (cases_lt p (length levels)) [
                  | inl old ↦ elim (cases_eq (get_or levels p 0) (level_named a)) [
                    | inl known ↦
                        walk later (i + 1) (held_after held (stack_step m)) levels
                        (walk_noted base list i held (m ∷ later) later a m levels w refl within at levels same moves (omega (arith, old)) (λ other. agree_still levels p (level_named a) other old known))
                    | inr differs ↦ inr (λ of e. other_level base list i held (m ∷ later) later a m levels w refl within at same moves (λ other all is. differs (sym (all p old) ∙ is)) of e)
                  ]
                  | inr new ↦
                      let end : p ≡ length levels = omega (arith, near, low, new) in
                      let long = length-append levels (level_named a ∷ []) in
                      walk later (i + 1) (held_after held (stack_step m)) (levels ++ level_named a ∷ [])
                      (walk_noted base list i held (m ∷ later) later a m levels w refl within at (levels ++ level_named a ∷ []) same moves (omega (arith, end, long)) (λ other. agree_more levels p (level_named a) other end))
                ]
          ]
        ]
  ]

  levelled : Levelled base list
  levelled = walk base 0 0 [] (walk_start base list [] refl)

-- ---- whether the levels have slots for their places

has_places : (slots : Slots) (n : ℕ) → IsKnown (HasPlaces slots n)
has_places (Count s) n = at_most n s
has_places Unlimited n = inl tt

all_low : (levels : List ℕ) (n : ℕ) → IsKnown ((p : ℕ) → p < n → get_or levels p 0 < 2)
all_low levels zero = inl (λ p h. absurd (omega (arith, h)))
all_low levels (suc n) = elim (all_low levels n) [
  | inr other ↦ inr (λ all. other (λ p h. all p (omega (arith, h))))
  | inl before ↦ elim (at_most (suc (get_or levels n 0)) 2) [
    | inr other ↦ inr (λ all. other (all n (omega arith)))
    | inl here ↦ inl (λ p h. elim (cases_lt p n) [
      | inl lt ↦ before p lt
      | inr ge ↦ let e : n ≡ p = omega (arith, ge, h) in let P : ℕ → Type 0 = λ x. get_or levels x 0 < 2 in subst P e here
    ])
  ]
]

fit_known : (slots : List Slots) (levels : List ℕ) → IsKnown (Fit slots levels)
fit_known slots levels =
    let on : ℕ → ℕ = λ k. places_on (λ p. get_or levels p 0) k (length levels) in
    elim (all_low levels (length levels)) [
      | inr other ↦ inr (λ fit. other fit.known)
      | inl low ↦ elim (has_places (get_or slots 0 (Count 0)) (on 0)) [
        | inr other ↦ inr (λ fit. other (fit.room 0 (omega arith)))
        | inl first ↦ elim (has_places (get_or slots 1 (Count 0)) (on 1)) [
          | inr other ↦ inr (λ fit. other (fit.room 1 (omega arith)))
          | inl second ↦ inl (record { known = low; room = λ k h. on_two (λ k. HasPlaces (get_or slots k (Count 0)) (on k)) k h first second })
        ]
      ]
    ]
  where
    on_two : (P : ℕ → Type 0) (k : ℕ) → k < 2 → P 0 → P 1 → P k
    on_two P zero h first second = first
    on_two P (suc zero) h first second = second
    on_two P (suc (suc k)) h first second = absurd (omega (arith, h))

-- ---- the class

-- the levels of the places, or the list isn't in the class
pub levels_or_not : (steps : ℕ) (book : BookCosts) (list : List Action) → ((levels : List ℕ) × HasPlaceLevels steps book list levels) ⊎ (IsMultistage steps book list → ⊥)
levels_or_not steps book list =
    let base = revolve_list steps book in
    elim (cases_eq (length book.levels) 2) [
      | inr other ↦ inr (λ is. other is.two)
      | inl two ↦ elim (plan_known steps (total_room book steps)) [
        | inr other ↦ inr (λ is. other is.plan)
        | inl plan ↦ elim (levelled base list) [
          | inr none ↦ inr (λ is. not_in_class steps book list base [] refl none is)
          | inl found ↦ elim (fit_known (slots_of book) found.0) [
            | inr other ↦ inr (λ is. other (fits_in_class steps book list base found.0 refl found.1 is))
            | inl fit ↦ inl (found.0, in_class steps book list base found.0 refl two plan found.1 fit)
          ]
        ]
      ]
    ]
  where
    plan_known : (steps c : ℕ) → IsKnown (HasPlan steps c)
    plan_known steps c = elim (at_most 2 steps) [
      | inr few ↦ inl (λ more. absurd (few more))
      | inl more ↦ elim (at_most 1 c) [ inl some ↦ inl (λ _. some) | inr none ↦ inr (λ plan. none (plan more)) ]
    ]

pub has_place_levels : (steps : ℕ) (book : BookCosts) (list : List Action) → IsMultistage steps book list → (levels : List ℕ) × HasPlaceLevels steps book list levels
has_place_levels steps book list is = elim (levels_or_not steps book list) [ inl found ↦ found | inr other ↦ absurd (other is) ]

pub multistage_or_not : (steps : ℕ) (book : BookCosts) (list : List Action) → IsMultistage steps book list ⊎ (IsMultistage steps book list → ⊥)
multistage_or_not steps book list = elim (levels_or_not steps book list) [ inl found ↦ inl (levelled_in_class steps book list found.0 found.1) | inr other ↦ inr other ]
