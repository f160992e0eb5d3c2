-- The threshold of a list of the multistage class, and the first place that it doesn't fit.
use Rattle.std.proofs.Common.{◌≡◌, ◌⊎◌, ℕ, ◌<◌, ◌≤◌, List, [], ◌∷◌, length, fold, get_or, refl, sym, ap, subst, ◌∙◌, inl, inr, arith}
use Rattle.std.proofs.lemmas.Bool.{cases_eq, cases_lt}
use Rattle.std.proofs.lemmas.Grind.{same_number_lists}
use Rattle.plan_types.specs.declared.action.Action.{Action}
use Rattle.level_book.specs.declared.book.Level.{Level}
use Rattle.level_book.specs.declared.book.Slots.{Slots}
use Rattle.level_book.specs.declared.book.Slots.TheVariants.{Count, Unlimited}
use Rattle.level_book.specs.BookCosts.{BookCosts, slots_of, least, both, room, total_room}
use Rattle.revolve_gen.specs.Places.{places_on}
use Rattle.revolve_gen.specs.Stack.{places_used}
use Rattle.revolve_gen.specs.Multistage.{saving, IsMultistage}
use Rattle.multistage_gen.specs.Threshold.{MeetsThreshold, AreSavings}
use Rattle.class_rules.specs.PlaceLevels.{HasPlaceLevels}
use Rattle.class_rules.proofs.ClassByLevels.{levelled_in_class, places_same}
use Rattle.class_rules.proofs.MultistageMembership.{has_place_levels}
use Rattle.multistage_gen.specs.Plan.{Plan, IsPlaced}
use Rattle.multistage_gen.specs.MultistageList.{IsPlan, IsMultistageList}
use Rattle.multistage_gen.proofs.ClassMembership.{planned_levels}
use Rattle.multistage_gen.proofs.Exchange.{first_fits}
use Rattle.multistage_gen.proofs.LeastCost.{not_all}
use Rattle.table_clauses.specs.declared.entry.Entry.{Entry}
use Rattle.revolve_gen.proofs.StackPlaces.{uses_its_slots}
use Rattle.bound_cert.specs.Verdicts.{IsFirstOn}
use Rattle.bound_cert.specs.Thresholds.{AreOn, FitsThreshold, Misfits, StandsBefore, IsFirstMisfit, IsGreatestSlow, IsThresholdOf}

-- the places of a list have one list of levels at most
pub same_levels : (steps : ℕ) (book : BookCosts) (list : List Action) (levels other : List ℕ) → HasPlaceLevels steps book list levels → HasPlaceLevels steps book list other → levels ≡ other
same_levels steps book list levels other has also =
    same_number_lists levels other (has.count ∙ sym also.count) (λ p h. also.only (λ q. get_or levels q 0) has.placed p (let a = has.count in let b = also.count in omega arith))

same_fast : (levels : List Level) (fast slow fast' slow' : Level) → levels ≡ fast ∷ slow ∷ [] → levels ≡ fast' ∷ slow' ∷ [] → fast ≡ fast'
same_fast levels fast slow fast' slow' a b = let e : fast ∷ slow ∷ [] ≡ fast' ∷ slow' ∷ [] = sym a ∙ b in cc

same_slow : (levels : List Level) (fast slow fast' slow' : Level) → levels ≡ fast ∷ slow ∷ [] → levels ≡ fast' ∷ slow' ∷ [] → slow ≡ slow'
same_slow levels fast slow fast' slow' a b = let e : fast ∷ slow ∷ [] ≡ fast' ∷ slow' ∷ [] = sym a ∙ b in cc

module _ (threshold steps : ℕ) (book : BookCosts) (list : List Action) where
  -- what doesn't fit by some levels of the book and of the places doesn't by others, since they are the same
  moved : (fast slow fast' slow' : Level) (levels levels' : List ℕ) → AreOn steps book list fast slow levels → AreOn steps book list fast' slow' levels' → (e : Entry) →
      Misfits threshold steps book list fast slow levels e → Misfits threshold steps book list fast' slow' levels' e
  moved fast slow fast' slow' levels levels' on on' e m =
      let f = same_fast book.levels fast slow fast' slow' on.two on'.two in
      let s = same_slow book.levels fast slow fast' slow' on.two on'.two in
      let l = same_levels steps book list levels levels' on.has on'.has in
      subst (λ (ls : List ℕ). Misfits threshold steps book list fast' slow' ls e) l
      (subst (λ (b : Level). Misfits threshold steps book list fast' b levels e) s
      (subst (λ (a : Level). Misfits threshold steps book list a slow levels e) f m))

  -- where the threshold meets the places, it fits at each entry
  meets_fits : (fast slow : Level) (levels : List ℕ) → AreOn steps book list fast slow levels → MeetsThreshold threshold steps book fast slow (λ p. get_or levels p 0) list →
      (e : Entry) → Misfits threshold steps book list fast slow levels e → ⊥
  meets_fits fast slow levels on meets e m =
      let count = on.has.count in
      elim m.2 [
        | inl below ↦ (let h = below.2 in let least = meets.above e.free (omega arith) below.3 in omega (arith, least, below.4))
        | inr (inl above) ↦ (let h = above.2 in let most = meets.below e.free (omega arith) above.3 in omega (arith, most, above.4))
        | inr (inr short) ↦ elim meets.full [
          | inl none ↦ short.3 none
          | inr all ↦ omega (arith, short.4, ap (places_on (λ p. get_or levels p 0) 0) count ∙ all)
        ]
      ]

  abbrev misfit_at : ℕ → ℕ → ℕ → Entry
  misfit_at clause level place = record { table = 4; level = level; free = place; steps = 0; clause = clause }

  -- where it fits at each entry, it meets the places
  fits_meets : (fast slow : Level) (levels : List ℕ) → AreOn steps book list fast slow levels → ((e : Entry) → Misfits threshold steps book list fast slow levels e → ⊥) →
      MeetsThreshold threshold steps book fast slow (λ p. get_or levels p 0) list
  fits_meets fast slow levels on none =
      let count = on.has.count in
      record {
        above = λ p h at. elim (cases_lt (saving list fast slow p) threshold) [
          | inl less ↦ absurd (none (misfit_at 21 0 p) (refl, refl, inl (refl, refl, omega arith, at, less)))
          | inr more ↦ more
        ];
        below = λ p h at. elim (cases_lt threshold (saving list fast slow p)) [
          | inl less ↦ absurd (none (misfit_at 22 1 p) (refl, refl, inr (inl (refl, refl, omega arith, at, less))))
          | inr more ↦ more
        ];
        full = elim (cases_eq threshold 0) [
          | inl none_saved ↦ inl none_saved
          | inr some ↦ elim (cases_lt (places_on (λ p. get_or levels p 0) 0 (length levels)) (room book 0 steps)) [
            | inl short ↦ absurd (none (misfit_at 23 0 0) (refl, refl, inr (inr (refl, refl, refl, some, short))))
            | inr all ↦
                let most = first_fits steps book (λ p. get_or levels p 0) list on.has.plan on.has.placed in
                inr (omega (arith, all, most, ap (places_on (λ p. get_or levels p 0) 0) count))
          ]
        ];
      }

  -- the fields of an entry at which it doesn't fit are told by the clause and the place
  level_of : (fast slow : Level) (levels : List ℕ) (a b : Entry) → Misfits threshold steps book list fast slow levels a → Misfits threshold steps book list fast slow levels b → a.clause ≡ b.clause → a.level ≡ b.level
  level_of fast slow levels a b x y e = elim x.2 [
    | inl p ↦ elim y.2 [
      | inl q ↦ p.1 ∙ sym q.1
      | inr (inl q) ↦ absurd (omega (arith, p.0, q.0, e))
      | inr (inr q) ↦ absurd (omega (arith, p.0, q.0, e))
    ]
    | inr (inl p) ↦ elim y.2 [
      | inl q ↦ absurd (omega (arith, p.0, q.0, e))
      | inr (inl q) ↦ p.1 ∙ sym q.1
      | inr (inr q) ↦ absurd (omega (arith, p.0, q.0, e))
    ]
    | inr (inr p) ↦ elim y.2 [
      | inl q ↦ absurd (omega (arith, p.0, q.0, e))
      | inr (inl q) ↦ absurd (omega (arith, p.0, q.0, e))
      | inr (inr q) ↦ p.1 ∙ sym q.1
    ]
  ]

  one_entry : (fast slow : Level) (levels : List ℕ) (a b : Entry) → Misfits threshold steps book list fast slow levels a → Misfits threshold steps book list fast slow levels b →
      (StandsBefore a b → ⊥) → (StandsBefore b a → ⊥) → a ≡ b
  one_entry fast slow levels a b x y not_before not_behind =
      let clauses : a.clause ≡ b.clause = elim (cases_lt a.clause b.clause) [
        | inl less ↦ absurd (not_before (inl less))
        | inr more ↦ elim (cases_lt b.clause a.clause) [ inl less ↦ absurd (not_behind (inl less)) | inr same ↦ omega arith ]
      ] in
      let places : a.free ≡ b.free = elim (cases_lt a.free b.free) [
        | inl less ↦ absurd (not_before (inr (clauses, less)))
        | inr more ↦ elim (cases_lt b.free a.free) [ inl less ↦ absurd (not_behind (inr (sym clauses, less))) | inr same ↦ omega arith ]
      ] in
      let tables : a.table ≡ b.table = x.0 ∙ sym y.0 in
      let stretches : a.steps ≡ b.steps = x.1 ∙ sym y.1 in
      let levels_are : a.level ≡ b.level = level_of fast slow levels a b x y clauses in
      λ i. record { table = tables i; level = levels_are i; free = places i; steps = stretches i; clause = clauses i }

  -- there is one first entry at most, and none where the threshold fits
  pub one_misfit : (a b : Entry) → IsFirstMisfit threshold steps book list a → IsFirstMisfit threshold steps book list b → a ≡ b
  one_misfit a b x y =
      let there = moved y.fast y.slow x.fast x.slow y.levels x.levels y.are_on x.are_on b y.misfits in
      let back = moved x.fast x.slow y.fast y.slow x.levels y.levels x.are_on y.are_on a x.misfits in
      one_entry x.fast x.slow x.levels a b x.misfits there (λ before. y.none_before a before back) (λ behind. x.none_before b behind there)

  pub fits_or_misfits : FitsThreshold threshold steps book list → (e : Entry) → IsFirstMisfit threshold steps book list e → ⊥
  fits_or_misfits fits e first =
      meets_fits fits.fast fits.slow fits.levels fits.are_on fits.meets e
      (moved first.fast first.slow fits.fast fits.slow first.levels fits.levels first.are_on fits.are_on e first.misfits)

  pub fitting : (fast slow : Level) (levels : List ℕ) → AreOn steps book list fast slow levels → ((e : Entry) → Misfits threshold steps book list fast slow levels e → ⊥) → FitsThreshold threshold steps book list
  fitting fast slow levels on none = record { fast = fast; slow = slow; levels = levels; are_on = on; meets = fits_meets fast slow levels on none }

-- both put the list into the class
pub fits_in_class : (threshold steps : ℕ) (book : BookCosts) (list : List Action) → FitsThreshold threshold steps book list → IsMultistage steps book list
fits_in_class threshold steps book list fits = levelled_in_class steps book list fits.levels fits.are_on.has

pub misfits_in_class : (threshold steps : ℕ) (book : BookCosts) (list : List Action) (e : Entry) → IsFirstMisfit threshold steps book list e → IsMultistage steps book list
misfits_in_class threshold steps book list e first = levelled_in_class steps book list first.levels first.are_on.has

-- ---- what is found over the places

module _ (threshold steps : ℕ) (book : BookCosts) (list : List Action) (fast slow : Level) (levels savings : List ℕ) (on : AreOn steps book list fast slow levels) (are : AreSavings list fast slow savings) where
  abbrev Misfit : Entry → Type 0
  Misfit = Misfits threshold steps book list fast slow levels

  abbrev Below : ℕ → Type 0
  Below p = get_or savings p 0 < threshold

  abbrev Above : ℕ → Type 0
  Above p = threshold < get_or savings p 0

  abbrev NoneOn : ℕ → (ℕ → Type 0) → Type 0
  NoneOn level Holds = (p : ℕ) → p < length levels → get_or levels p 0 ≡ level → Holds p → ⊥

  saves : (p : ℕ) → p < length levels → get_or savings p 0 ≡ saving list fast slow p
  saves p h = let count = on.has.count in are.each p (omega arith)

  pub below_first : (p : ℕ) (e : Entry) → e ≡ misfit_at threshold steps book list 21 0 p → IsFirstOn 0 levels Below p → Misfit e × ((other : Entry) → StandsBefore other e → Misfit other → ⊥)
  below_first p e is first = subst (λ (e : Entry). Misfit e × ((other : Entry) → StandsBefore other e → Misfit other → ⊥)) (sym is) (here, none)
    where
      here : Misfit (misfit_at threshold steps book list 21 0 p)
      here = (refl, refl, inl (refl, refl, first.within, first.on, (let s = saves p first.within in let h = first.holds in omega arith)))

      none : (other : Entry) → StandsBefore other (misfit_at threshold steps book list 21 0 p) → Misfit other → ⊥
      none other (inl less) (t, z, inl x) = omega (arith, less, x.0)
      none other (inl less) (t, z, inr (inl x)) = omega (arith, less, x.0)
      none other (inl less) (t, z, inr (inr x)) = omega (arith, less, x.0)
      none other (inr tie) (t, z, inl x) = first.none_before other.free tie.1 x.3 (let s = saves other.free x.2 in let h = x.4 in omega arith)
      none other (inr tie) (t, z, inr (inl x)) = omega (arith, tie.0, x.0)
      none other (inr tie) (t, z, inr (inr x)) = omega (arith, tie.0, x.0)

  pub above_first : (p : ℕ) (e : Entry) → e ≡ misfit_at threshold steps book list 22 1 p → NoneOn 0 Below → IsFirstOn 1 levels Above p → Misfit e × ((other : Entry) → StandsBefore other e → Misfit other → ⊥)
  above_first p e is below first = subst (λ (e : Entry). Misfit e × ((other : Entry) → StandsBefore other e → Misfit other → ⊥)) (sym is) (here, none)
    where
      here : Misfit (misfit_at threshold steps book list 22 1 p)
      here = (refl, refl, inr (inl (refl, refl, first.within, first.on, (let s = saves p first.within in let h = first.holds in omega arith))))

      none : (other : Entry) → StandsBefore other (misfit_at threshold steps book list 22 1 p) → Misfit other → ⊥
      none other before (t, z, inl x) = below other.free x.2 x.3 (let s = saves other.free x.2 in let h = x.4 in omega arith)
      none other (inl less) (t, z, inr (inl x)) = omega (arith, less, x.0)
      none other (inl less) (t, z, inr (inr x)) = omega (arith, less, x.0)
      none other (inr tie) (t, z, inr (inl x)) = first.none_before other.free tie.1 x.3 (let s = saves other.free x.2 in let h = x.4 in omega arith)
      none other (inr tie) (t, z, inr (inr x)) = omega (arith, tie.0, x.0)

  pub short_first : (e : Entry) → e ≡ misfit_at threshold steps book list 23 0 0 → NoneOn 0 Below → NoneOn 1 Above → (threshold ≡ 0 → ⊥) → places_on (λ p. get_or levels p 0) 0 (length levels) < room book 0 steps →
      Misfit e × ((other : Entry) → StandsBefore other e → Misfit other → ⊥)
  short_first e is below above some few = subst (λ (e : Entry). Misfit e × ((other : Entry) → StandsBefore other e → Misfit other → ⊥)) (sym is) ((refl, refl, inr (inr (refl, refl, refl, some, few))), none)
    where
      none : (other : Entry) → StandsBefore other (misfit_at threshold steps book list 23 0 0) → Misfit other → ⊥
      none other before (t, z, inl x) = below other.free x.2 x.3 (let s = saves other.free x.2 in let h = x.4 in omega arith)
      none other before (t, z, inr (inl x)) = above other.free x.2 x.3 (let s = saves other.free x.2 in let h = x.4 in omega arith)
      none other (inl less) (t, z, inr (inr x)) = omega (arith, less, x.0)
      none other (inr tie) (t, z, inr (inr x)) = omega (arith, tie.1)

  pub none_misfit : NoneOn 0 Below → NoneOn 1 Above → (threshold ≡ 0) ⊎ (room book 0 steps ≤ places_on (λ p. get_or levels p 0) 0 (length levels)) → (e : Entry) → Misfit e → ⊥
  none_misfit below above full e (t, z, inl x) = below e.free x.2 x.3 (let s = saves e.free x.2 in let h = x.4 in omega arith)
  none_misfit below above full e (t, z, inr (inl x)) = above e.free x.2 x.3 (let s = saves e.free x.2 in let h = x.4 in omega arith)
  none_misfit below above (inl none) e (t, z, inr (inr x)) = x.3 none
  none_misfit below above (inr all) e (t, z, inr (inr x)) = omega (arith, x.4, all)

-- the two levels of a book
pub two_levels : (levels : List Level) → length levels ≡ 2 → (fast : Level) × (slow : Level) × (levels ≡ fast ∷ slow ∷ [])
two_levels [] two = absurd (omega arith)
two_levels (a ∷ []) two = absurd (omega arith)
two_levels (a ∷ b ∷ []) two = (a, b, refl)
two_levels (a ∷ b ∷ c ∷ rest) two = absurd (omega arith)

-- a list of the class has no more places than steps
least_few : (s : Slots) (steps : ℕ) → least s steps ≤ steps
least_few (Count n) steps = omega arith
least_few Unlimited steps = omega arith

pub few_places : (steps : ℕ) (book : BookCosts) (list : List Action) (levels : List ℕ) → HasPlaceLevels steps book list levels → length levels ≤ steps
few_places steps book list levels has =
    let used : places_used list ≤ total_room book steps =
    subst (λ (l : List Action). places_used l ≤ total_room book steps) (sym has.placed.is) (uses_its_slots steps (total_room book steps) (λ p. get_or levels p 0) has.plan) in
    let room_few = least_few (fold both (Count 0) (slots_of book)) steps in
    let count = has.count in
    omega arith

-- ---- the planned list

planned_over : (steps : ℕ) (book : BookCosts) (list : List Action) (is : IsMultistageList steps book list) (fast slow : Level) → book.levels ≡ fast ∷ slow ∷ [] → IsPlan steps book fast slow is.level list
planned_over steps book list is fast slow two =
    subst (λ (b : Level). IsPlan steps book fast b is.level list) (same_slow book.levels is.fast is.slow fast slow is.two two)
    (subst (λ (a : Level). IsPlan steps book a is.slow is.level list) (same_fast book.levels is.fast is.slow fast slow is.two two) is.planned)

-- the most that a place on level 1 would save fits the places of the planned list
pub planned_fits : (threshold steps : ℕ) (book : BookCosts) (list : List Action) → IsThresholdOf threshold steps book list → IsMultistageList steps book list → FitsThreshold threshold steps book list
planned_fits threshold steps book list of is =
    let level : ℕ → ℕ = λ p. get_or of.levels p 0 in
    let plan = planned_over steps book list is of.fast of.slow of.are_on.two in
    let count = of.are_on.has.count in
    let same : (p : ℕ) → p < places_used list → is.level p ≡ level p = λ p h. of.are_on.has.only is.level (planned_levels steps book list is) p (omega arith) in
    let most = of.greatest.most in
    record {
      fast = of.fast;
      slow = of.slow;
      levels = of.levels;
      are_on = of.are_on;
      meets = record {
        above = λ p h at. elim of.greatest.taken [
          | inl none ↦ omega arith
          | inr q ↦
              let hq : q.0 < places_used list = let h = q.1 in omega arith in
              elim (plan.order p q.0 h hq (same p h ∙ at) (same q.0 hq ∙ q.2)) [ inl less ↦ (let e = q.3 in omega arith) | inr tie ↦ (let e = q.3 in omega (arith, tie.0)) ]
        ];
        below = λ p h at. most p (omega arith) at;
        full = elim of.greatest.taken [
          | inl none ↦ inl none
          | inr q ↦
              let hq : q.0 < places_used list = let h = q.1 in omega arith in
              let few = not_all level q.0 (places_used list) hq (λ z. let on = q.2 in omega arith) in
              let many = plan.many in
              let moved_count = places_same is.level level 0 (places_used list) same in
              inr (omega arith)
        ];
      };
    }

-- a list has one threshold at most
at_most : (threshold other : ℕ) (list : List Action) (fast slow : Level) (levels : List ℕ) → IsGreatestSlow threshold list fast slow levels → IsGreatestSlow other list fast slow levels → threshold ≤ other
at_most threshold other list fast slow levels x y = elim x.taken [
  | inl none ↦ omega arith
  | inr p ↦ (let most = y.most p.0 p.1 p.2 in let e = p.3 in omega arith)
]

pub one_threshold : (steps : ℕ) (book : BookCosts) (list : List Action) (threshold other : ℕ) → IsThresholdOf threshold steps book list → IsThresholdOf other steps book list → threshold ≡ other
one_threshold steps book list threshold other x y =
    let f = same_fast book.levels x.fast x.slow y.fast y.slow x.are_on.two y.are_on.two in
    let s = same_slow book.levels x.fast x.slow y.fast y.slow x.are_on.two y.are_on.two in
    let l = same_levels steps book list x.levels y.levels x.are_on.has y.are_on.has in
    let moved_x : IsGreatestSlow threshold list y.fast y.slow y.levels =
    subst (λ (ls : List ℕ). IsGreatestSlow threshold list y.fast y.slow ls) l
    (subst (λ (b : Level). IsGreatestSlow threshold list y.fast b x.levels) s
    (subst (λ (a : Level). IsGreatestSlow threshold list a x.slow x.levels) f x.greatest)) in
    let up = at_most threshold other list y.fast y.slow y.levels moved_x y.greatest in
    let down = at_most other threshold list y.fast y.slow y.levels y.greatest moved_x in
    omega arith

-- ---- the places of a plan

pub placed_member : (steps : ℕ) (book : BookCosts) (plan : Plan) → IsPlaced steps book plan → IsMultistage steps book plan.actions
placed_member steps book plan is = record { two = is.two; plan = is.has; level = λ p. get_or plan.levels p 0; levels = is.levels }

pub placed_levels : (steps : ℕ) (book : BookCosts) (plan : Plan) → IsPlaced steps book plan → HasPlaceLevels steps book plan.actions plan.levels
placed_levels steps book plan is =
    let of = has_place_levels steps book plan.actions (placed_member steps book plan is) in
    let count = of.1.count in
    let also = is.count in
    record {
      two = is.two;
      plan = is.has;
      count = is.count;
      placed = is.levels;
      only = λ level levels p h. of.1.only level levels p (omega arith) ∙ sym (of.1.only (λ p. get_or plan.levels p 0) is.levels p (omega arith));
    }

-- the most that a place of the plan on the slower level would save is its threshold
pub plan_threshold : (threshold steps : ℕ) (book : BookCosts) (plan : Plan) → IsPlaced steps book plan →
    ((list : List Action) (fast slow : Level) → AreSavings list fast slow plan.savings → IsGreatestSlow threshold list fast slow plan.levels) →
    IsThresholdOf threshold steps book plan.actions
plan_threshold threshold steps book plan is most =
    let two = two_levels book.levels is.two in
    record {
      fast = two.0;
      slow = two.1;
      levels = plan.levels;
      are_on = record { two = two.2; has = placed_levels steps book plan is };
      greatest = most plan.actions two.0 two.1 (is.savings two.0 two.1 two.2);
    }
