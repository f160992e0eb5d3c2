-- A list of the class is valid: the places that it doesn't use are put where there are slots left.
use Rattle.std.proofs.Common.{◌≡◌, ◌==◌, ◌⊎◌, ℕ, zero, suc, ◌+◌, ◌-◌, ◌<◌, ◌≤◌, min, Bool, cond, nat_lt, List, [], ◌∷◌, map, fold, length, get_or, refl, sym, ap, subst, ◌∙◌, inl, inr, arith}
use Rattle.std.proofs.lemmas.Bool.{cases_lt, cases_eq, eq-eqb, lt-ltb, le-ltb}
use Rattle.plan_types.specs.declared.action.Keep.TheVariants.{Nothing, Store, Tape}
use Rattle.plan_types.specs.declared.action.Action.{Action}
use Rattle.plan_types.specs.declared.action.Action.TheVariants.{Forward, Reverse, Copy, Move, EndForward, EndReverse}
use Rattle.level_book.specs.declared.book.Level.{Level}
use Rattle.level_book.specs.declared.book.Slots.{Slots}
use Rattle.level_book.specs.declared.book.Slots.TheVariants.{Count, Unlimited}
use Rattle.level_book.specs.BookCosts.{BookCosts, least, both, slots_of, total_room}
use Rattle.level_book.specs.Valid.{Valid}
use Rattle.revolve_gen.specs.Places.{places_on, HasMore, IsRoomy}
use Rattle.revolve_gen.specs.Stack.{stack_step, held_after, place, place_written, place_read, written, read, enough, places_used, on_level, placed}
use Rattle.revolve_gen.specs.Multistage.{HasPlaces, MultistageIsValid}
use Rattle.revolve_gen.specs.RevolveList.{revolve}
use Rattle.revolve_gen.proofs.StackPlaces.{levels_free, first_of_both, second_of_both}
use Rattle.revolve_gen.proofs.RevolveValidity.{revolve_valid}

-- an action, where its place has one level by both
same_here : (top : ℕ) (level other : ℕ → ℕ) (h : ℕ) (a : Action) → ((p : ℕ) → p < top → level p ≡ other p) →
    enough (place_written h (stack_step a)) ≤ top → enough (place_read h (stack_step a)) ≤ top →
    on_level (level (place h (stack_step a))) a ≡ on_level (other (place h (stack_step a))) a
same_here top level other h (Forward from to Nothing) same w r = refl
same_here top level other h (Forward from to (Store k)) same w r = ap (λ l. Forward from to (Store l)) (same h (omega arith))
same_here top level other h (Forward from to Tape) same w r = refl
same_here top level other h (Reverse from to) same w r = refl
same_here top level other h (Copy n from to) same w r = ap (λ l. on_level l (Copy n from to)) (same (h - 1) (omega arith))
same_here top level other h (Move n from to) same w r = ap (λ l. on_level l (Move n from to)) (same (h - 1) (omega arith))
same_here top level other h EndForward same w r = refl
same_here top level other h EndReverse same w r = refl

-- levels that agree on the places that a list uses
pub placed_same : (top : ℕ) (level other : ℕ → ℕ) (h : ℕ) (list : List Action) → ((p : ℕ) → p < top → level p ≡ other p) →
    enough (written h list) ≤ top → enough (read h list) ≤ top → placed level h list ≡ placed other h list
placed_same top level other h [] same w r = refl
placed_same top level other h (a ∷ rest) same w r =
    let s = stack_step a in
    let next = held_after h s in
    let here = same_here top level other h a same (first_of_both (place_written h s) (written next rest) top w) (first_of_both (place_read h s) (read next rest) top r) in
    let later = placed_same top level other next rest same (second_of_both (place_written h s) (written next rest) top w) (second_of_both (place_read h s) (read next rest) top r) in
    λ i. here i ∷ later i

-- The levels of the used places; behind them as many places on level 0 as are free there, and the others on level 1.
abbrev extended : (ℕ → ℕ) → ℕ → ℕ → ℕ → ℕ
extended level used free p = cond (nat_lt p used) (level p) (cond (nat_lt (p - used) free) 0 1)

at_used : (level : ℕ → ℕ) (used free p : ℕ) → p < used → extended level used free p ≡ level p
at_used level used free p h = ap (λ t. cond t (level p) (cond (nat_lt (p - used) free) 0 1)) (lt-ltb p used h)

at_free : (level : ℕ → ℕ) (used free p : ℕ) → used ≤ p → p - used < free → extended level used free p ≡ 0
at_free level used free p h g =
    ap (λ t. cond t (level p) (cond (nat_lt (p - used) free) 0 1)) (le-ltb p used h) ∙ ap (λ t. cond t 0 1) (lt-ltb (p - used) free g)

at_last : (level : ℕ → ℕ) (used free p : ℕ) → used ≤ p → free ≤ p - used → extended level used free p ≡ 1
at_last level used free p h g =
    ap (λ t. cond t (level p) (cond (nat_lt (p - used) free) 0 1)) (le-ltb p used h) ∙ ap (λ t. cond t 0 1) (le-ltb (p - used) free g)

abbrev one_if : Bool → ℕ
one_if t = cond t 1 0

-- how many of the first places are on a level
on_used : (level : ℕ → ℕ) (used free k p : ℕ) → p ≤ used → places_on (extended level used free) k p ≡ places_on level k p
on_used level used free k zero h = refl
on_used level used free k (suc p) h =
    let so_far = on_used level used free k p (omega arith) in
    let here = ap (λ l. one_if (l == k)) (at_used level used free p (omega arith)) in
    omega arith

on_fast : (level : ℕ → ℕ) (used free d : ℕ) → places_on (extended level used free) 0 (d + used) ≡ places_on level 0 used + min d free
on_fast level used free zero =
    let e : zero + used ≡ used = omega arith in
    ap (places_on (extended level used free) 0) e ∙ on_used level used free 0 used (omega arith) ∙ omega arith
on_fast level used free (suc d) =
    let e : suc d + used ≡ suc (d + used) = omega arith in
    let so_far = on_fast level used free d in
    ap (places_on (extended level used free) 0) e ∙ elim (cases_lt d free) [
      | inl lt ↦ (let here = ap (λ l. one_if (l == 0)) (at_free level used free (d + used) (omega arith) (omega arith)) in omega arith)
      | inr ge ↦ (let here = ap (λ l. one_if (l == 0)) (at_last level used free (d + used) (omega arith) (omega arith)) in omega arith)
    ]

on_slow : (level : ℕ → ℕ) (used free d : ℕ) → places_on (extended level used free) 1 (d + used) ≡ places_on level 1 used + (d - free)
on_slow level used free zero =
    let e : zero + used ≡ used = omega arith in
    ap (places_on (extended level used free) 1) e ∙ on_used level used free 1 used (omega arith) ∙ omega arith
on_slow level used free (suc d) =
    let e : suc d + used ≡ suc (d + used) = omega arith in
    let so_far = on_slow level used free d in
    ap (places_on (extended level used free) 1) e ∙ elim (cases_lt d free) [
      | inl lt ↦ (let here = ap (λ l. one_if (l == 1)) (at_free level used free (d + used) (omega arith) (omega arith)) in omega arith)
      | inr ge ↦ (let here = ap (λ l. one_if (l == 1)) (at_last level used free (d + used) (omega arith) (omega arith)) in omega arith)
    ]

-- a place on a level is one more there
pub on_grows : (level : ℕ → ℕ) (k p n : ℕ) → p < n → level p ≡ k → places_on level k p < places_on level k n
on_grows level k p zero h e = absurd (omega arith)
on_grows level k p (suc n) h e = elim (cases_eq p n) [
  | inl same ↦
      let here = ap one_if (eq-eqb (level n) k (ap level (sym same) ∙ e)) in
      let there = ap (places_on level k) same in
      omega arith
  | inr other ↦ (let more = on_grows level k p n (omega arith) e in omega arith)
]

one_each : (l : ℕ) → l < 2 → one_if (l == 0) + one_if (l == 1) ≡ 1
one_each zero h = refl
one_each (suc zero) h = refl
one_each (suc (suc l)) h = absurd (omega arith)

pub on_both : (level : ℕ → ℕ) (n : ℕ) → ((p : ℕ) → p < n → level p < 2) → places_on level 0 n + places_on level 1 n ≡ n
on_both level zero known = refl
on_both level (suc n) known =
    let so_far = on_both level n (λ p h. known p (omega arith)) in
    let here = one_each (level n) (known n (omega arith)) in
    omega arith

has_more : (s : Slots) (n m : ℕ) → n < m → HasPlaces s m → HasMore s n
has_more (Count s) n m less has = omega arith
has_more Unlimited n m less has = tt

-- at a level that is known
more_at : (slots : List Slots) (level : ℕ → ℕ) (p k : ℕ) → level p ≡ k → HasMore (get_or slots k (Count 0)) (places_on level k p) → HasMore (get_or slots (level p) (Count 0)) (places_on level (level p) p)
more_at slots level p k e h =
    let P : ℕ → Type 0 = λ j. HasMore (get_or slots j (Count 0)) (places_on level j p) in
    subst P (sym e) h

-- what is asked of the free places: the first of them fit on level 0, and the others on level 1
record HasRest (fast slow : Slots) (level : ℕ → ℕ) (used free room : ℕ) : Type 0 where
  on_first : (d : ℕ) → d < free → d + used < room → HasMore fast (places_on level 0 used + d)
  on_second : (d : ℕ) → free ≤ d → d + used < room → HasMore slow (places_on level 1 used + (d - free))

below_two : (k : ℕ) → k < 2 → (k ≡ 0) ⊎ (k ≡ 1)
below_two zero h = inl refl
below_two (suc zero) h = inr refl
below_two (suc (suc k)) h = absurd (omega arith)

two_roomy : (fast slow : Slots) (level : ℕ → ℕ) (used free room : ℕ) → ((p : ℕ) → p < used → level p < 2) →
    ((k : ℕ) → k < 2 → HasPlaces (get_or (fast ∷ slow ∷ []) k (Count 0)) (places_on level k used)) → HasRest fast slow level used free room →
    IsRoomy (fast ∷ slow ∷ []) (extended level used free) room
two_roomy fast slow level used free room known has rest =
    let slots = fast ∷ slow ∷ [] in
    let ext = extended level used free in
    let first = λ (p : ℕ) (h : p < room) (past : used ≤ p) (lt : p - used < free).
    let d = p - used in
    let e : d + used ≡ p = omega arith in
    let n : places_on ext 0 p ≡ places_on level 0 used + d = sym (ap (places_on ext 0) e) ∙ on_fast level used free d ∙ omega arith in
    let m : HasMore (get_or slots (ext p) (Count 0)) (places_on ext (ext p) p) =
    more_at slots ext p 0 (at_free level used free p past lt) (subst (HasMore fast) (sym n) (rest.on_first d lt (omega arith))) in
    m in
    let second = λ (p : ℕ) (h : p < room) (past : used ≤ p) (ge : free ≤ p - used).
    let d = p - used in
    let e : d + used ≡ p = omega arith in
    let n : places_on ext 1 p ≡ places_on level 1 used + (d - free) = sym (ap (places_on ext 1) e) ∙ on_slow level used free d in
    let m : HasMore (get_or slots (ext p) (Count 0)) (places_on ext (ext p) p) =
    more_at slots ext p 1 (at_last level used free p past ge) (subst (HasMore slow) (sym n) (rest.on_second d ge (omega arith))) in
    m in
    record {
      known = λ p h. elim (cases_lt p used) [
        | inl within ↦ (let e = at_used level used free p within in let k = known p within in omega arith)
        | inr past ↦ elim (cases_lt (p - used) free) [
          | inl lt ↦ (let e = at_free level used free p past lt in omega arith)
          | inr ge ↦ (let e = at_last level used free p past ge in omega arith)
        ]
      ];
      more = λ p h. elim (cases_lt p used) [
        | inl within ↦
            let k = level p in
            let n = on_used level used free k p (omega arith) in
            let more = has_more (get_or slots k (Count 0)) (places_on level k p) (places_on level k used) (on_grows level k p used within refl) (has k (known p within)) in
            more_at slots ext p k (at_used level used free p within) (subst (HasMore (get_or slots k (Count 0))) (sym n) more)
        | inr past ↦ elim (cases_lt (p - used) free) [
          | inl lt ↦ first p h past lt
          | inr ge ↦ second p h past ge
        ]
      ];
    }

-- how many of the free places go on level 0
abbrev free_for : Slots → ℕ → ℕ → ℕ
free_for (Count s) on room = s - on
free_for Unlimited on room = room

rest_of : (fast slow : Slots) (level : ℕ → ℕ) (used room : ℕ) → places_on level 0 used + places_on level 1 used ≡ used →
    HasPlaces fast (places_on level 0 used) → HasPlaces slow (places_on level 1 used) →
    ((s t : ℕ) → fast ≡ Count s → slow ≡ Count t → room ≤ s + t) →
    HasRest fast slow level used (free_for fast (places_on level 0 used) room) room
rest_of (Count s) (Count t) level used room all f g bound = let b = bound s t refl refl in record {
  on_first = λ d lt h. omega arith;
  on_second = λ d ge h. omega arith;
}
rest_of (Count s) Unlimited level used room all f g bound = record {
  on_first = λ d lt h. omega arith;
  on_second = λ d ge h. tt;
}
rest_of Unlimited slow level used room all f g bound = record {
  on_first = λ d lt h. tt;
  on_second = λ d ge h. absurd (omega arith);
}

room_bound : (book : BookCosts) (steps : ℕ) (fast slow : Level) → book.levels ≡ fast ∷ slow ∷ [] → (s t : ℕ) → fast.slots ≡ Count s → slow.slots ≡ Count t → total_room book steps ≤ s + t
room_bound book steps fast slow two s t e f =
    let room = ap (λ ls. least (fold both (Count 0) (map (λ (level : Level). level.slots) ls)) steps) two in
    let counted : least (both (both (Count 0) fast.slots) slow.slots) steps ≡ least (both (both (Count 0) (Count s)) (Count t)) steps = λ i. least (both (both (Count 0) (e i)) (f i)) steps in
    omega arith

pub two_levels : (levels : List Level) → length levels ≡ 2 → (fast : Level) × (slow : Level) × (levels ≡ fast ∷ slow ∷ [])
two_levels [] e = absurd (omega arith)
two_levels (fast ∷ []) e = absurd (omega arith)
two_levels (fast ∷ slow ∷ []) e = (fast, slow, refl)
two_levels (fast ∷ slow ∷ more ∷ others) e = absurd (omega arith)

pub multistage_valid : (steps : ℕ) (book : BookCosts) → MultistageIsValid steps book
multistage_valid steps book list is =
    let two = two_levels book.levels is.two in
    let fast = two.0 in
    let slow = two.1 in
    let slots_are : slots_of book ≡ fast.slots ∷ slow.slots ∷ [] = ap (map (λ (level : Level). level.slots)) two.2 in
    let used = places_used list in
    let room = total_room book steps in
    let level = is.level in
    let has : (k : ℕ) → k < 2 → HasPlaces (get_or (fast.slots ∷ slow.slots ∷ []) k (Count 0)) (places_on level k used) =
    λ k h. subst (λ slots. HasPlaces (get_or slots k (Count 0)) (places_on level k used)) slots_are (is.levels.room k h) in
    let ext = extended level used (free_for fast.slots (places_on level 0 used) room) in
    let roomy = two_roomy fast.slots slow.slots level used (free_for fast.slots (places_on level 0 used) room) room is.levels.known has
    (rest_of fast.slots slow.slots level used room (on_both level used is.levels.known) (has 0 (omega arith)) (has 1 (omega arith)) (room_bound book steps fast slow two.2)) in
    let agree = placed_same used ext level 0 list (λ p h. at_used level used (free_for fast.slots (places_on level 0 used) room) p h)
    (first_of_both (written 0 list) (read 0 list) used (omega arith)) (second_of_both (written 0 list) (read 0 list) used (omega arith)) in
    let same : revolve ext steps room ≡ list =
    sym (levels_free steps room ext level) ∙ ap (placed ext 0) (sym is.levels.is) ∙ agree ∙ ap (placed level 0) is.levels.is ∙ levels_free steps room level level ∙ sym is.levels.is in
    let valid : Valid steps (fast.slots ∷ slow.slots ∷ []) list = subst (λ l. Valid steps (fast.slots ∷ slow.slots ∷ []) l) same (revolve_valid steps (fast.slots ∷ slow.slots ∷ []) ext room roomy is.plan) in
    subst (λ slots. Valid steps slots list) (sym slots_are) valid
