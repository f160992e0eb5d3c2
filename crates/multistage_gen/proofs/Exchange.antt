-- No list of the multistage class costs less than one whose places meet a threshold. The lists of the class are one list with
-- other levels, and the cost is compared place by place.
use Rattle.std.proofs.Common.{◌≡◌, ◌==◌, ◌⊎◌, ℕ, zero, suc, ◌+◌, ◌-◌, ◌*◌, ◌<◌, ◌≤◌, cond, List, [], ◌∷◌, fold, get_or, refl, sym, ap, subst, ◌∙◌, inl, inr, arith}
use Rattle.std.proofs.lemmas.Bool.{ne_eqb}
use Rattle.std.proofs.lemmas.List.Sums.{sum_by-cons}
use Rattle.plan_types.specs.declared.action.Keep.TheVariants.{Nothing, Store, Tape}
use Rattle.plan_types.specs.declared.action.Action.{Action}
use Rattle.plan_types.specs.declared.action.Action.TheVariants.{Forward, Reverse, Copy, Move, EndForward, EndReverse}
use Rattle.level_book.specs.declared.book.Level.{Level}
use Rattle.level_book.specs.declared.book.Slots.{Slots}
use Rattle.level_book.specs.declared.book.Slots.TheVariants.{Count, Unlimited}
use Rattle.level_book.specs.BookCosts.{BookCosts, least, both, slots_of, room, total_room}
use Rattle.level_book.specs.CostFold.{steps_of, is_reversed, forward, reversed, cost}
use Rattle.revolve_gen.specs.Places.{places_on}
use Rattle.revolve_gen.specs.Plans.{HasPlan}
use Rattle.revolve_gen.specs.Stack.{stack_step, held_after, place, written, read, times, places_used, on_level, placed}
use Rattle.revolve_gen.specs.Multistage.{HasPlaces, HasLevels, place_cost, saving, sum_below, either}
use Rattle.revolve_gen.proofs.StackPlaces.{levels_free, uses_its_slots, written_same, read_same, used_same}
use Rattle.revolve_gen.proofs.Costs.{below_same, by_places}
use Rattle.revolve_gen.proofs.MultistageValidity.{on_both}
use Rattle.multistage_gen.specs.Threshold.{LeastOfTheMultistage}

-- a place's number by its level: on level 0 the first, else the second
abbrev chosen : ℕ → ℕ → ℕ → ℕ
chosen zero x y = x
chosen (suc l) x y = y

-- With t for each place on level 0, a place costs least where it stands by a: on level 0 if it saves t there or more, else if it
-- saves t or less.
one_place : (t f s a b : ℕ) → (a ≡ 0 → t + f ≤ s) → (0 < a → s ≤ t + f) →
    chosen a f s + t * chosen a 1 0 ≤ chosen b f s + t * chosen b 1 0
one_place t f s zero zero above under = omega arith
one_place t f s zero (suc b) above under = let h = above refl in omega arith
one_place t f s (suc a) zero above under = let h = under (omega arith) in omega arith
one_place t f s (suc a) (suc b) above under = omega arith

-- the exchange: the same of all places together
exchange : (n t : ℕ) (fast slow a b : ℕ → ℕ) →
    ((p : ℕ) → p < n → a p ≡ 0 → t + fast p ≤ slow p) → ((p : ℕ) → p < n → 0 < a p → slow p ≤ t + fast p) →
    sum_below n (λ p. chosen (a p) (fast p) (slow p)) + t * sum_below n (λ p. chosen (a p) 1 0)
    ≤ sum_below n (λ p. chosen (b p) (fast p) (slow p)) + t * sum_below n (λ p. chosen (b p) 1 0)
exchange zero t fast slow a b above under = omega arith
exchange (suc n) t fast slow a b above under =
    let rest = exchange n t fast slow a b (λ p h. above p (omega arith)) (λ p h. under p (omega arith)) in
    let last = one_place t (fast n) (slow n) (a n) (b n) (above n (omega arith)) (under n (omega arith)) in
    omega arith

-- the places on level 0, added up
on_first : (l : ℕ) → cond (l == 0) 1 0 ≡ chosen l 1 0
on_first zero = refl
on_first (suc l) = ap (λ c. cond c 1 0) (ne_eqb (suc l) 0 (λ i. absurd (omega arith)))

places_first : (level : ℕ → ℕ) (n : ℕ) → places_on level 0 n ≡ sum_below n (λ p. chosen (level p) 1 0)
places_first level zero = refl
places_first level (suc n) = let others = places_first level n in let last = on_first (level n) in omega arith

-- other levels change neither the forward steps of a list nor how many it reverses
steps_here : (k : ℕ) (a : Action) → steps_of (on_level k a) ≡ steps_of a
steps_here k (Forward from to Nothing) = refl
steps_here k (Forward from to (Store j)) = refl
steps_here k (Forward from to Tape) = refl
steps_here k (Reverse from to) = refl
steps_here k (Copy n from to) = refl
steps_here k (Move n from to) = refl
steps_here k EndForward = refl
steps_here k EndReverse = refl

reversed_here : (k : ℕ) (a : Action) → is_reversed (on_level k a) ≡ is_reversed a
reversed_here k (Forward from to Nothing) = refl
reversed_here k (Forward from to (Store j)) = refl
reversed_here k (Forward from to Tape) = refl
reversed_here k (Reverse from to) = refl
reversed_here k (Copy n from to) = refl
reversed_here k (Move n from to) = refl
reversed_here k EndForward = refl
reversed_here k EndReverse = refl

forward_same : (level : ℕ → ℕ) (h : ℕ) (list : List Action) → forward (placed level h list) ≡ forward list
forward_same level h [] = refl
forward_same level h (a ∷ rest) =
    let next = held_after h (stack_step a) in
    let k = level (place h (stack_step a)) in
    sum_by-cons steps_of (on_level k a) (placed level next rest)
    ∙ (λ i. steps_here k a i + forward_same level next rest i)
    ∙ sym (sum_by-cons steps_of a rest)

reversed_same : (level : ℕ → ℕ) (h : ℕ) (list : List Action) → reversed (placed level h list) ≡ reversed list
reversed_same level h [] = refl
reversed_same level h (a ∷ rest) =
    let next = held_after h (stack_step a) in
    let k = level (place h (stack_step a)) in
    sum_by-cons (λ b. cond (is_reversed b) 1 0) (on_level k a) (placed level next rest)
    ∙ (λ i. cond (reversed_here k a i) 1 0 + reversed_same level next rest i)
    ∙ sym (sum_by-cons (λ b. cond (is_reversed b) 1 0) a rest)

-- nor what a place costs on a level
place_cost_same : (level : ℕ → ℕ) (list : List Action) (l : Level) (p : ℕ) → place_cost (placed level 0 list) l p ≡ place_cost list l p
place_cost_same level list l p = λ i. times p (written_same level 0 list i) * l.write + times p (read_same level 0 list i) * l.read

place_cost_chosen : (list : List Action) (fast slow : Level) (k p : ℕ) → place_cost list (either fast slow k) p ≡ chosen k (place_cost list fast p) (place_cost list slow p)
place_cost_chosen list fast slow zero p = refl
place_cost_chosen list fast slow (suc k) p = refl

-- what a place saves on the faster level is what it costs more on the slower one
product : (m f s : ℕ) → f ≤ s → m * f + m * (s - f) ≡ m * s
product m f s h = let e : f + (s - f) ≡ s = omega arith in (omega arith) ∙ ap (λ x. m * x) e

saves : (list : List Action) (fast slow : Level) (p : ℕ) → fast.write ≤ slow.write → fast.read ≤ slow.read →
    place_cost list fast p + saving list fast slow p ≡ place_cost list slow p
saves list fast slow p h g =
    let w = product (times p (written 0 list)) fast.write slow.write h in
    let r = product (times p (read 0 list)) fast.read slow.read g in
    omega arith

-- how many places can be on a level
least_within : (slots : Slots) (steps : ℕ) → least slots steps ≤ steps
least_within (Count s) steps = omega arith
least_within Unlimited steps = omega arith

fit : (slots : Slots) (places steps : ℕ) → HasPlaces slots places → places ≤ steps → places ≤ least slots steps
fit (Count s) places steps h g = omega arith
fit Unlimited places steps h g = g

-- where the threshold is 0 or x is all that can be, y counts no more than x by it
times_le : (t x y : ℕ) → x ≤ y → t * x ≤ t * y
times_le t x y h = let e : x + (y - x) ≡ y = omega arith in let f = ap (λ z. t * z) e in omega arith

weighed : (t x y r : ℕ) → (t ≡ 0) ⊎ (x ≡ r) → y ≤ r → t * y ≤ t * x
weighed t x y r (inl none) h = (let e = ap (λ z. z * y) none in omega arith)
weighed t x y r (inr full) h = times_le t y x (omega arith)

-- a list of the class that differs from another in its levels: which places it uses, and its cost by the places of the other
record IsRelevelled (book : BookCosts) (fast slow : Level) (list : List Action) (level : ℕ → ℕ) (other : List Action) : Type 0 where
  used : places_used other ≡ places_used list
  costs : cost other book ≡ forward list * book.forward + reversed list * book.reverse
      + sum_below (places_used list) (λ p. chosen (level p) (place_cost list fast p) (place_cost list slow p))

relevelled : (steps : ℕ) (book : BookCosts) (fast slow : Level) (level new : ℕ → ℕ) (list other : List Action) → book.levels ≡ fast ∷ slow ∷ [] →
    HasLevels steps book level list → HasLevels steps book new other → IsRelevelled book fast slow list new other
relevelled steps book fast slow level new list other two has other_has =
    let n = places_used list in
    let moved : placed new 0 list ≡ other = ap (placed new 0) has.is ∙ levels_free steps (total_room book steps) new level ∙ sym other_has.is in
    let used : places_used other ≡ n = ap places_used (sym moved) ∙ used_same new list in
    let ahead = ap forward (sym moved) ∙ forward_same new 0 list in
    let back = ap reversed (sym moved) ∙ reversed_same new 0 list in
    let places = ap (λ m. sum_below m (λ p. place_cost other (either fast slow (new p)) p)) used
    ∙ below_same n _ _ (λ p _. ap (λ l. place_cost l (either fast slow (new p)) p) (sym moved)
    ∙ place_cost_same new list (either fast slow (new p)) p ∙ place_cost_chosen list fast slow (new p) p) in
    record {
      used = used;
      costs = by_places steps book fast slow new other two other_has ∙ (λ i. ahead i * book.forward + back i * book.reverse + places i);
    }

-- level 0 has room for as many places as stand on it
pub first_fits : (steps : ℕ) (book : BookCosts) (level : ℕ → ℕ) (list : List Action) → HasPlan steps (total_room book steps) → HasLevels steps book level list →
    places_on level 0 (places_used list) ≤ room book 0 steps
first_fits steps book level list plan has =
    let c = total_room book steps in
    let n = places_used list in
    let few : n ≤ steps = omega (arith, ap places_used has.is, uses_its_slots steps c level plan, least_within (fold both (Count 0) (slots_of book)) steps) in
    fit (get_or (slots_of book) 0 (Count 0)) (places_on level 0 n) steps (has.room 0 (omega arith)) (omega (arith, on_both level n has.known))

pub multistage_least : (steps : ℕ) (book : BookCosts) → LeastOfTheMultistage steps book
multistage_least steps book t fast slow level list other two dearer_write dearer_read has meets member =
    let n = places_used list in
    let f = place_cost list fast in
    let s = place_cost list slow in
    let b = member.level in
    let mine = relevelled steps book fast slow level level list list two has has in
    let theirs = relevelled steps book fast slow level b list other two has member.levels in
    let above : (p : ℕ) → p < n → level p ≡ 0 → t + f p ≤ s p = λ p h on.
    omega (arith, saves list fast slow p dearer_write dearer_read, meets.above p h on) in
    let under : (p : ℕ) → p < n → 0 < level p → s p ≤ t + f p = λ p h on.
    let known = has.known p h in omega (arith, saves list fast slow p dearer_write dearer_read, meets.below p h (omega arith)) in
    let fits : places_on b 0 n ≤ room book 0 steps = subst (λ m. places_on b 0 m ≤ room book 0 steps) theirs.used (first_fits steps book b other member.plan member.levels) in
    omega (
      arith,
      mine.costs,
      theirs.costs,
      exchange n t f s level b above under,
      weighed t (places_on level 0 n) (places_on b 0 n) (room book 0 steps) meets.full fits,
      ap (λ z. t * z) (places_first level n),
      ap (λ z. t * z) (places_first b n),
    )
