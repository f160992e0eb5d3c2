-- What is held on the way: the first i stretches have their images on level 1, and the stack of a stretch is on level 0.
use Rattle.std.proofs.Common.{◌≡◌, ◌==◌, ℕ, zero, suc, ◌+◌, ◌-◌, ◌*◌, ◌<◌, ◌≤◌, Bool, true, false, cond, nat_lt, List, length, get_or, map, refl, sym, ap, subst, inl, inr, arith, add-one}
use Rattle.std.specs.FinSet as set
use Rattle.std.proofs.lemmas.Bool.{cases_lt, lt-ltb, le-ltb}
use Rattle.level_book.specs.declared.book.Slots.{Slots}
use Rattle.level_book.specs.declared.book.Slots.TheVariants.{Count, Unlimited}
use Rattle.level_book.specs.BookCosts.{least}
use Rattle.revolve_gen.specs.Places.{places_on, HasMore, IsRoomy}
use Rattle.revolve_gen.proofs.HeldImages.{Images, stored, Holds, holds_more}
use Rattle.revolve_gen.proofs.RevolveValidity.{none_held}
use Rattle.disk_gen.specs.Plans.{HasSlots}

-- the levels of the places: the first i on level 1, and the others on level 0
abbrev pub level_to : ℕ → ℕ → ℕ
level_to i p = cond (nat_lt p i) 1 0

pub below_i : (i p : ℕ) → p < i → level_to i p ≡ 1
below_i i p h = ap (λ t. cond t 1 0) (lt-ltb p i h)

pub from_i : (i p : ℕ) → i ≤ p → level_to i p ≡ 0
from_i i p h = ap (λ t. cond t 1 0) (le-ltb p i h)

one_if_le : (t : Bool) → cond t 1 0 ≤ 1
one_if_le true = omega arith
one_if_le false = omega arith

places_few : (level : ℕ → ℕ) (k p : ℕ) → places_on level k p ≤ p
places_few level k zero = omega arith
places_few level k (suc p) = omega (arith, places_few level k p, one_if_le (level p == k))

places_fast : (i p : ℕ) → places_on (level_to i) 0 p ≤ p - i
places_fast i zero = omega arith
places_fast i (suc p) = elim (cases_lt p i) [
  | inl lt ↦ (let here : cond {A = ℕ} (level_to i p == 0) 1 0 ≡ 0 = ap (λ l. cond (l == 0) 1 0) (below_i i p lt) in omega (arith, places_fast i p))
  | inr ge ↦ omega (arith, places_fast i p, one_if_le (level_to i p == 0))
]

places_same : (level other : ℕ → ℕ) (k n : ℕ) → ((p : ℕ) → p < n → level p ≡ other p) → places_on level k n ≡ places_on other k n
places_same level other k zero e = refl
places_same level other k (suc n) e =
    let so_far = places_same level other k n (λ p h. e p (omega arith)) in
    let here : cond {A = ℕ} (level n == k) 1 0 ≡ cond (other n == k) 1 0 = ap (λ l. cond (l == k) 1 0) (e n (omega arith)) in
    omega arith

holds_same : (slots : List Slots) (level other : ℕ → ℕ) (n : ℕ) (h : Images) (b : ℕ) → ((p : ℕ) → p < n → level p ≡ other p) → Holds slots level n h b → Holds slots other n h b
holds_same slots level other n h b e is = record {
  count = is.count;
  few = λ k. omega (arith, is.few k, places_same level other k n e);
  none = is.none;
}

-- the images of the first i stretches
abbrev pub kept : List Slots → ℕ → ℕ → Images
kept slots period zero = map (λ _. set.empty) slots
kept slots period (suc i) = stored (kept slots period i) (i * period) 1

pub kept_slow : (slots : List Slots) (period i : ℕ) → length slots ≡ 2 → 1 ≤ period → Holds slots (λ _. 1) i (kept slots period i) (i * period)
kept_slow slots period zero two some =
    let P : ℕ → Type 0 = Holds slots (λ _. 1) 0 (map (λ _. set.empty) slots) in
    let none : 0 ≡ 0 * period = omega arith in
    subst P none (none_held slots (λ _. 1))
kept_slow slots period (suc i) two some =
    let P : ℕ → Type 0 = λ n. Holds slots (λ _. 1) n (kept slots period (suc i)) (suc i * period) in
    subst P (add-one i) (holds_more slots (λ _. 1) i (kept slots period i) (i * period) (suc i * period) (kept_slow slots period i two some) (omega arith) (omega arith))

pub kept_holds : (slots : List Slots) (period i : ℕ) → length slots ≡ 2 → 1 ≤ period → Holds slots (level_to i) i (kept slots period i) (i * period)
kept_holds slots period i two some = holds_same slots (λ _. 1) (level_to i) i (kept slots period i) (i * period) (λ p h. sym (below_i i p h)) (kept_slow slots period i two some)

-- the levels have room for the images and the stack
more_of : (s : Slots) (n m : ℕ) → HasSlots s n → m < n → HasMore s m
more_of (Count s) n m has h = omega (arith, has)
more_of Unlimited n m has h = tt

pub room_slots : (s : Slots) (steps : ℕ) → HasSlots s (least s steps)
room_slots (Count s) steps = omega arith
room_slots Unlimited steps = tt

pub fewer_slots : (s : Slots) (n m : ℕ) → HasSlots s n → m ≤ n → HasSlots s m
fewer_slots (Count s) n m has h = omega (arith, has)
fewer_slots Unlimited n m has h = tt

pub slow_roomy : (slots : List Slots) (i : ℕ) → length slots ≡ 2 → HasSlots (get_or slots 1 (Count 0)) i → IsRoomy slots (λ _. 1) i
slow_roomy slots i two slow = record {
  known = λ p h. omega arith;
  more = λ p h. more_of (get_or slots 1 (Count 0)) i (places_on (λ _. 1) 1 p) slow (omega (arith, places_few (λ _. 1) 1 p));
}

pub roomy : (slots : List Slots) (i c : ℕ) → length slots ≡ 2 → HasSlots (get_or slots 1 (Count 0)) i → HasSlots (get_or slots 0 (Count 0)) c → IsRoomy slots (level_to i) (i + c)
roomy slots i c two slow fast =
    let P : ℕ → ℕ → Type 0 = λ p k. HasMore (get_or slots k (Count 0)) (places_on (level_to i) k p) in
    record {
      known = λ p h. elim (cases_lt p i) [
        | inl lt ↦ omega (arith, below_i i p lt)
        | inr ge ↦ omega (arith, from_i i p ge)
      ];
      more = λ p h. elim (cases_lt p i) [
        | inl lt ↦ subst (P p) (sym (below_i i p lt)) (more_of (get_or slots 1 (Count 0)) i (places_on (level_to i) 1 p) slow (omega (arith, places_few (level_to i) 1 p)))
        | inr ge ↦ subst (P p) (sym (from_i i p ge)) (more_of (get_or slots 0 (Count 0)) c (places_on (level_to i) 0 p) fast (omega (arith, places_fast i p)))
      ];
    }
