-- The class, by the levels that were found.
use Rattle.std.proofs.Common.{◌≡◌, ◌==◌, ℕ, zero, suc, ◌<◌, cond, List, [], ◌∷◌, length, map, get_or, Option, Some, None, MatchOption, refl, sym, ap, subst, ◌∙◌, arith}
use Rattle.std.specs.List.{slice_get}
use Rattle.plan_types.specs.declared.action.Action.{Action}
use Rattle.level_book.specs.declared.book.Level.{Level}
use Rattle.level_book.specs.declared.book.Slots.TheVariants.{Count}
use Rattle.level_book.specs.BookCosts.{BookCosts, slots_of, total_room}
use Rattle.revolve_gen.specs.Places.{places_on, level_at}
use Rattle.revolve_gen.specs.Plans.{HasPlan}
use Rattle.revolve_gen.specs.Stack.{places_used, placed}
use Rattle.revolve_gen.specs.Multistage.{HasPlaces, HasLevels, IsMultistage}
use Rattle.revolve_gen.specs.RevolveList.{revolve_list}
use Rattle.revolve_gen.proofs.StackPlaces.{levels_free, used_same}
use Rattle.class_rules.specs.PlaceLevels.{HasPlaceLevels}
use Rattle.class_rules.specs.LevelInference.{AreTheLevels, Fit}

-- the slots of a level of the book
slots_at : (levels : List Level) (k : ℕ) (level : Level) → slice_get levels k ≡ Some level → get_or (map (λ (level : Level). level.slots) levels) k (Count 0) ≡ level.slots
slots_at [] k level e = cc
slots_at (first ∷ rest) zero level e = let same : first ≡ level = cc in ap (λ (level : Level). level.slots) same
slots_at (first ∷ rest) (suc k) level e = slots_at rest k level e

-- what is said of a level, by its slots and the number of its places
room_at : (book : BookCosts) (levels : List ℕ) (k n : ℕ) (level : Level) → slice_get book.levels k ≡ Some level → n ≡ places_on (λ p. get_or levels p 0) k (length levels) →
    HasPlaces level.slots n ≡ HasPlaces (get_or (slots_of book) k (Count 0)) (places_on (λ p. get_or levels p 0) k (length levels))
room_at book levels k n level at on = λ i. HasPlaces (sym (slots_at book.levels k level at) i) (on i)

pub fits_at : (book : BookCosts) (levels : List ℕ) (k n : ℕ) (level : Level) → slice_get book.levels k ≡ Some level → n ≡ places_on (λ p. get_or levels p 0) k (length levels) →
    k < 2 → Fit (slots_of book) levels → HasPlaces level.slots n
fits_at book levels k n level at on h is = subst (λ (T : Type 0). T) (sym (room_at book levels k n level at on)) (is.room k h)

each : (book : BookCosts) (levels : List ℕ) (first second : Level) (fast slow : ℕ) → slice_get book.levels 0 ≡ Some first → slice_get book.levels 1 ≡ Some second →
    fast ≡ places_on (λ p. get_or levels p 0) 0 (length levels) → slow ≡ places_on (λ p. get_or levels p 0) 1 (length levels) → HasPlaces first.slots fast → HasPlaces second.slots slow →
    (k : ℕ) → k < 2 → HasPlaces (get_or (slots_of book) k (Count 0)) (places_on (λ p. get_or levels p 0) k (length levels))
each book levels first second fast slow at_first at_second on_fast on_slow f s zero h = subst (λ (T : Type 0). T) (room_at book levels 0 fast first at_first on_fast) f
each book levels first second fast slow at_first at_second on_fast on_slow f s (suc zero) h = subst (λ (T : Type 0). T) (room_at book levels 1 slow second at_second on_slow) s
each book levels first second fast slow at_first at_second on_fast on_slow f s (suc (suc k)) h = absurd (omega arith)

pub fits : (book : BookCosts) (levels : List ℕ) (first second : Level) (fast slow : ℕ) → slice_get book.levels 0 ≡ Some first → slice_get book.levels 1 ≡ Some second →
    fast ≡ places_on (λ p. get_or levels p 0) 0 (length levels) → slow ≡ places_on (λ p. get_or levels p 0) 1 (length levels) →
    ((p : ℕ) → p < length levels → get_or levels p 0 < 2) → HasPlaces first.slots fast → HasPlaces second.slots slow → Fit (slots_of book) levels
fits book levels first second fast slow at_first at_second on_fast on_slow known f s = record { known = known; room = each book levels first second fast slow at_first at_second on_fast on_slow f s }

abbrev one_at : ℕ → ℕ → ℕ
one_at k l = cond (l == k) 1 0

pub places_same : (level other : ℕ → ℕ) (k n : ℕ) → ((p : ℕ) → p < n → level p ≡ other p) → places_on level k n ≡ places_on other k n
places_same level other k zero same = refl
places_same level other k (suc n) same =
    let so_far = places_same level other k n (λ p h. same p (omega arith)) in
    let here = ap (one_at k) (same n (omega arith)) in
    omega arith

-- a list whose places have levels is in the class
pub levelled_in_class : (steps : ℕ) (book : BookCosts) (list : List Action) (levels : List ℕ) → HasPlaceLevels steps book list levels → IsMultistage steps book list
levelled_in_class steps book list levels has = record { two = has.two; plan = has.plan; level = λ p. get_or levels p 0; levels = has.placed }

module _ (steps : ℕ) (book : BookCosts) (list base : List Action) (levels : List ℕ) (base_is : base ≡ revolve_list steps book) where
  from_levels : (level : ℕ → ℕ) → HasLevels steps book level list → list ≡ placed level 0 base
  from_levels level has = has.is ∙ sym (levels_free steps (total_room book steps) level (level_at (slots_of book))) ∙ ap (placed level 0) (sym base_is)

  from_class : (is : IsMultistage steps book list) → list ≡ placed is.level 0 base
  from_class is = from_levels is.level is.levels

  pub not_in_class : ((level : ℕ → ℕ) → list ≡ placed level 0 base → ⊥) → IsMultistage steps book list → ⊥
  not_in_class none is = none is.level (from_class is)

  used_of : (level : ℕ → ℕ) → list ≡ placed level 0 base → AreTheLevels base list levels → places_used list ≡ length levels
  used_of level e are = ap places_used e ∙ used_same level base ∙ sym are.many

  pub in_class : length book.levels ≡ 2 → HasPlan steps (total_room book steps) → AreTheLevels base list levels → Fit (slots_of book) levels → HasPlaceLevels steps book list levels
  in_class two plan are fit =
      let level : ℕ → ℕ = λ p. get_or levels p 0 in
      let e = (are.same level).1 (λ p h. refl) in
      let used = used_of level e are in
      record {
        two = two;
        plan = plan;
        count = sym used;
        placed = record {
          is = e ∙ ap (placed level 0) base_is ∙ levels_free steps (total_room book steps) level (level_at (slots_of book));
          known = λ p h. fit.known p (omega arith);
          room = λ k h. subst (λ n. HasPlaces (get_or (slots_of book) k (Count 0)) (places_on level k n)) (sym used) (fit.room k h);
        };
        only = λ other has. (are.same other).0 (from_levels other has);
      }

  pub fits_in_class : AreTheLevels base list levels → IsMultistage steps book list → Fit (slots_of book) levels
  fits_in_class are is =
      let level : ℕ → ℕ = λ p. get_or levels p 0 in
      let e = from_class is in
      let used = used_of is.level e are in
      let agrees = (are.same is.level).0 e in
      record {
        known = λ p h. (let k = is.levels.known p (omega arith) in let a = agrees p h in omega arith);
        room = λ k h.
            subst (λ n. HasPlaces (get_or (slots_of book) k (Count 0)) n) (places_same is.level level k (length levels) agrees)
            (subst (λ n. HasPlaces (get_or (slots_of book) k (Count 0)) (places_on is.level k n)) used (is.levels.room k h));
      }

pub at_some : {X : Type 0} (o : Option X) (x : X) (P : Type 0) (Q : X → Type 0) → o ≡ Some x → MatchOption o P Q → Q x
at_some {X} o x P Q e m = subst (λ (o : Option X). MatchOption o P Q) e m

pub at_none : {X : Type 0} (o : Option X) (P : Type 0) (Q : X → Type 0) → o ≡ None → MatchOption o P Q → P
at_none {X} o P Q e m = subst (λ (o : Option X). MatchOption o P Q) e m
