-- The planned list, and that it is in the class.
use Rattle.std.proofs.Common.{◌≡◌, ◌⊎◌, ℕ, zero, suc, ◌+◌, ◌-◌, ◌*◌, ◌<◌, ◌≤◌, min, List, [], ◌∷◌, length, map, fold, get_or, sym, ap, subst, ◌∙◌, inl, inr, arith}
use Rattle.plan_types.specs.declared.action.Action.{Action}
use Rattle.level_book.specs.declared.book.Level.{Level}
use Rattle.level_book.specs.declared.book.Slots.{Slots}
use Rattle.level_book.specs.declared.book.Slots.TheVariants.{Count, Unlimited}
use Rattle.level_book.specs.BookCosts.{BookCosts, least, both, slots_of, room, total_room}
use Rattle.revolve_gen.specs.Places.{places_on, level_at}
use Rattle.revolve_gen.specs.Plans.{HasPlan}
use Rattle.revolve_gen.specs.Stack.{times, places_used, placed}
use Rattle.revolve_gen.specs.Multistage.{HasPlaces, HasLevels, IsMultistage, saving}
use Rattle.revolve_gen.specs.RevolveList.{revolve, revolve_list}
use Rattle.revolve_gen.proofs.RevolveRules.{revolve_counted}
use Rattle.revolve_gen.proofs.StackPlaces.{levels_free, uses_its_slots, written_same, read_same, used_same}
use Rattle.revolve_gen.proofs.MultistageValidity.{on_both, two_levels}
use Rattle.multistage_gen.specs.Plan.{IsPlaced}
use Rattle.multistage_gen.specs.MultistageList.{IsPlan, IsMultistageList}
use Rattle.multistage_gen.specs.Threshold.{AreSavings}
use Rattle.multistage_gen.specs.Ranks.{ArePlanned}

pub revolve_short : (level : ℕ → ℕ) (steps c : ℕ) → HasPlan steps c → steps ≤ 1000000 → length (revolve level steps c) ≤ 16777216
revolve_short level zero c plan few = omega arith
revolve_short level (suc n) c plan few = let e = (revolve_counted level (suc n) c plan).actions (omega arith) in omega arith

pub saving_same : (level : ℕ → ℕ) (list : List Action) (fast slow : Level) (p : ℕ) → saving (placed level 0 list) fast slow p ≡ saving list fast slow p
saving_same level list fast slow p =
    λ i. times p (written_same level 0 list i) * (slow.write - fast.write) + times p (read_same level 0 list i) * (slow.read - fast.read)

order_same : (s t s' t' p q : ℕ) → s' ≡ s → t' ≡ t → (t < s) ⊎ ((t ≡ s) × (p < q)) → (t' < s') ⊎ ((t' ≡ s') × (p < q))
order_same s t s' t' p q e f (inl less) = inl (omega arith)
order_same s t s' t' p q e f (inr tie) = inr (f ∙ tie.0 ∙ sym e, tie.1)

-- the list of Revolve with the planned levels is planned
pub placed_plan : (steps : ℕ) (book : BookCosts) (fast slow : Level) (levels : List ℕ) (list : List Action) → list ≡ revolve_list steps book →
    ArePlanned (room book 0 steps) list fast slow levels → IsPlan steps book fast slow (λ p. get_or levels p 0) (placed (λ p. get_or levels p 0) 0 list)
placed_plan steps book fast slow levels list e are =
    let level : ℕ → ℕ = λ p. get_or levels p 0 in
    let used = used_same level list in
    record {
      is = ap (placed level 0) e ∙ levels_free steps (total_room book steps) level (level_at (slots_of book));
      known = λ p h. are.known p (omega arith);
      many = subst (λ n. places_on level 0 n ≡ min (room book 0 steps) n) (sym used) are.many;
      order = λ p q hp hq f g. order_same (saving list fast slow p) (saving list fast slow q) _ _ p q (saving_same level list fast slow p) (saving_same level list fast slow q)
          (are.order p q (omega arith) (omega arith) f g);
    }

-- the places on level 0 fit there, and the others on level 1
fits_first : (s : Slots) (steps used n : ℕ) → n ≡ min (least s steps) used → HasPlaces s n
fits_first (Count s) steps used n e = omega arith
fits_first Unlimited steps used n e = tt

fits_second : (s t : Slots) (steps used n m : ℕ) → n ≡ min (least s steps) used → n + m ≡ used → used ≤ least (both (both (Count 0) s) t) steps → HasPlaces t m
fits_second (Count s) (Count t) steps used n m e all fits = omega arith
fits_second Unlimited (Count t) steps used n m e all fits = omega arith
fits_second s Unlimited steps used n m e all fits = tt

two_cases : (P : ℕ → Type 0) → P 0 → P 1 → (k : ℕ) → k < 2 → P k
two_cases P a b zero h = a
two_cases P a b (suc zero) h = b
two_cases P a b (suc (suc k)) h = absurd (omega arith)

-- a planned list has its levels
pub plan_levels : (steps : ℕ) (book : BookCosts) (fast slow : Level) (level : ℕ → ℕ) (list : List Action) → book.levels ≡ fast ∷ slow ∷ [] → HasPlan steps (total_room book steps) →
    IsPlan steps book fast slow level list → HasLevels steps book level list
plan_levels steps book fast slow level list two has plan =
    let used = places_used list in
    let slots_are : slots_of book ≡ fast.slots ∷ slow.slots ∷ [] = ap (map (λ (level : Level). level.slots)) two in
    let many : places_on level 0 used ≡ min (least fast.slots steps) used = plan.many ∙ ap (λ slots. min (least (get_or slots 0 (Count 0)) steps) used) slots_are in
    let room_is = ap (λ slots. least (fold both (Count 0) slots) steps) slots_are in
    let fits : used ≤ least (both (both (Count 0) fast.slots) slow.slots) steps = omega (arith, ap places_used plan.is, uses_its_slots steps (total_room book steps) level has) in
    let first = fits_first fast.slots steps used _ many in
    let second = fits_second fast.slots slow.slots steps used _ (places_on level 1 used) many (on_both level used plan.known) fits in
    let each : (k : ℕ) → k < 2 → HasPlaces (get_or (fast.slots ∷ slow.slots ∷ []) k (Count 0)) (places_on level k used) = two_cases (λ k. HasPlaces (get_or (fast.slots ∷ slow.slots ∷ []) k (Count 0)) (places_on level k used)) first second in
    record {
      is = plan.is;
      known = plan.known;
      room = λ k h. subst (λ slots. HasPlaces (get_or slots k (Count 0)) (places_on level k used)) (sym slots_are) (each k h);
    }

pub planned_levels : (steps : ℕ) (book : BookCosts) (list : List Action) (is : IsMultistageList steps book list) → HasLevels steps book is.level list
planned_levels steps book list is = plan_levels steps book is.fast is.slow is.level list is.two is.plan is.planned

pub planned_in_class : (steps : ℕ) (book : BookCosts) (list : List Action) → IsMultistageList steps book list → IsMultistage steps book list
planned_in_class steps book list is = record { two = ap length is.two; plan = is.plan; level = is.level; levels = planned_levels steps book list is }

-- ---- the places of a plan

saves_same : (level : ℕ → ℕ) (list : List Action) (fast slow : Level) (savings : List ℕ) → AreSavings list fast slow savings → AreSavings (placed level 0 list) fast slow savings
saves_same level list fast slow savings are =
    let used = used_same level list in
    record {
      count = are.count ∙ sym used;
      each = λ p h. are.each p (omega arith) ∙ sym (saving_same level list fast slow p);
    }

module _ (steps : ℕ) (book : BookCosts) (levels savings : List ℕ) (list : List Action) (is : list ≡ revolve_list steps book) (two : length book.levels ≡ 2) (has : HasPlan steps (total_room book steps))
    (planned : (fast slow : Level) → book.levels ≡ fast ∷ slow ∷ [] → ArePlanned (room book 0 steps) list fast slow levels) where
  abbrev level : ℕ → ℕ
  level p = get_or levels p 0

  pub plan_list : IsMultistageList steps book (placed level 0 list)
  plan_list =
      let both_levels = two_levels book.levels two in
      record {
        fast = both_levels.0;
        slow = both_levels.1;
        two = both_levels.2;
        plan = has;
        level = level;
        planned = placed_plan steps book both_levels.0 both_levels.1 levels list is (planned both_levels.0 both_levels.1 both_levels.2);
      }

  pub plan_places : length levels ≡ places_used list → ((fast slow : Level) → book.levels ≡ fast ∷ slow ∷ [] → AreSavings list fast slow savings) →
      IsPlaced steps book (record { levels = levels; savings = savings; actions = placed level 0 list })
  plan_places count saves =
      let both_levels = two_levels book.levels two in
      let plan = placed_plan steps book both_levels.0 both_levels.1 levels list is (planned both_levels.0 both_levels.1 both_levels.2) in
      record {
        two = two;
        has = has;
        count = count ∙ sym (used_same level list);
        levels = plan_levels steps book both_levels.0 both_levels.1 level (placed level 0 list) both_levels.2 has plan;
        savings = λ fast slow e. saves_same level list fast slow savings (saves fast slow e);
      }
