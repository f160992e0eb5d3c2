-- The places of a book's slots in their order.
use Rattle.std.proofs.Common.{◌≡◌, ℕ, zero, suc, ◌+◌, ◌-◌, ◌<◌, ◌≤◌, ◌==◌, Bool, true, false, cond, nat_lt, List, [], ◌∷◌, length, min, sum_by, fold, get_or, refl, sym, ap, subst, inl, inr, arith}
use Rattle.std.proofs.lemmas.Bool.{cases_lt}
use Rattle.std.proofs.lemmas.Bool.Decides.{nat_tests}
use Rattle.std.proofs.lemmas.List.Sums.{sum_by-cons}
use Rattle.level_book.specs.declared.book.Slots.{Slots}
use Rattle.level_book.specs.declared.book.Slots.TheVariants.{Count, Unlimited}
use Rattle.level_book.specs.BookCosts.{BookCosts, both, least, slots_of, total_room}
use Rattle.revolve_gen.specs.Places.{level_at, places_on, HasMore, IsRoomy}
use Rattle.revolve_gen.specs.Laws.{BookIsRoomy}

-- the slots of a level, as many as there are steps where it is unlimited
abbrev room_for : ℕ → Slots → ℕ
room_for steps (Count slots) = slots
room_for steps Unlimited = steps

unlimited_stays : (slots : List Slots) → fold both Unlimited slots ≡ Unlimited
unlimited_stays [] = refl
unlimited_stays (first ∷ rest) = unlimited_stays rest

-- the room of all levels is the lesser of the steps and of the sum of the levels' slots
room_from : (steps a : ℕ) (slots : List Slots) → least (fold both (Count a) slots) steps ≡ min steps (a + sum_by (room_for steps) slots)
room_from steps a [] = omega arith
room_from steps a (Count s ∷ slots) = omega (arith, room_from steps (a + s) slots, sum_by-cons (room_for steps) (Count s) slots)
room_from steps a (Unlimited ∷ slots) =
    omega (arith, ap (λ s. least s steps) (unlimited_stays slots), sum_by-cons (room_for steps) Unlimited slots)

room_is : (steps : ℕ) (book : BookCosts) → total_room book steps ≡ min steps (sum_by (room_for steps) (slots_of book))
room_is steps book = omega (arith, room_from steps 0 (slots_of book))

-- the level of a place below the slots of the first level, and past them
pub at_first : (s : ℕ) (slots : List Slots) (p : ℕ) → p < s → level_at (Count s ∷ slots) p ≡ 0
at_first s slots p h = let e : nat_lt p s ≡ true = grind (arith, nat_tests) in ap (λ t. cond t 0 (suc (level_at slots (p - s)))) e

pub at_later : (s : ℕ) (slots : List Slots) (p : ℕ) → s ≤ p → level_at (Count s ∷ slots) p ≡ suc (level_at slots (p - s))
at_later s slots p h = let e : nat_lt p s ≡ false = grind (arith, nat_tests) in ap (λ t. cond t 0 (suc (level_at slots (p - s)))) e

known_at : (steps : ℕ) (slots : List Slots) (p : ℕ) → p < sum_by (room_for steps) slots → level_at slots p < length slots
known_at steps [] p h = absurd (omega arith)
known_at steps (Count s ∷ slots) p h = elim (cases_lt p s) [
  | inl lt ↦ omega (arith, at_first s slots p lt)
  | inr ge ↦ omega (arith, at_later s slots p ge, known_at steps slots (p - s) (omega (arith, sum_by-cons (room_for steps) (Count s) slots)))
]
known_at steps (Unlimited ∷ slots) p h = omega arith

abbrev one_if : Bool → ℕ
one_if t = cond t 1 0

same_here : (a b k : ℕ) → a ≡ b → one_if (a == k) ≡ one_if (b == k)
same_here a b k e = ap (λ a. one_if (a == k)) e

before : (k : ℕ) → one_if (0 == suc k) ≡ 0
before k = grind (arith, nat_tests)

past : (n : ℕ) → one_if (suc n == 0) ≡ 0
past n = grind (arith, nat_tests)

-- the places on the first level are no more than its slots, and those on a later one are that many fewer
on_first : (s : ℕ) (slots : List Slots) (p : ℕ) → places_on (level_at (Count s ∷ slots)) 0 p ≤ min p s
on_first s slots zero = omega arith
on_first s slots (suc p) = elim (cases_lt p s) [
  | inl lt ↦ omega (arith, on_first s slots p, same_here _ _ 0 (at_first s slots p lt))
  | inr ge ↦ omega (arith, on_first s slots p, same_here _ _ 0 (at_later s slots p ge), past (level_at slots (p - s)))
]

later : (n k : ℕ) → one_if (suc n == suc k) ≡ one_if (n == k)
later n k = grind (arith, nat_tests)

on_later : (s : ℕ) (slots : List Slots) (k p : ℕ) → places_on (level_at (Count s ∷ slots)) (suc k) p ≡ places_on (level_at slots) k (p - s)
on_later s slots k zero = ap (places_on (level_at slots) k) (none s)
  where
    none : (s : ℕ) → 0 ≡ 0 - s
    none s = omega arith
on_later s slots k (suc p) = elim (cases_lt p s) [
  | inl lt ↦
      let e : p - s ≡ suc p - s = omega arith in
      omega (arith, on_later s slots k p, same_here _ _ (suc k) (at_first s slots p lt), before k, ap (places_on (level_at slots) k) e)
  | inr ge ↦
      let e : suc (p - s) ≡ suc p - s = omega arith in
      omega (arith, on_later s slots k p, same_here _ _ (suc k) (at_later s slots p ge), later (level_at slots (p - s)) k, ap (places_on (level_at slots) k) e)
]

-- no level has more places than its slots
abbrev Suffices : Slots → ℕ → Type 0
Suffices (Count s) n = n ≤ s
Suffices Unlimited n = Unit {0}

suffices_none : (s : Slots) → Suffices s 0
suffices_none (Count s) = omega arith
suffices_none Unlimited = tt

on_unlimited : (slots : List Slots) (k p : ℕ) → places_on (level_at (Unlimited ∷ slots)) (suc k) p ≡ 0
on_unlimited slots k zero = refl
on_unlimited slots k (suc p) = omega (arith, on_unlimited slots k p, before k)

enough : (slots : List Slots) (k p : ℕ) → k < length slots → Suffices (get_or slots k (Count 0)) (places_on (level_at slots) k p)
enough [] k p h = absurd (omega arith)
enough (Count s ∷ slots) zero p h = omega (arith, on_first s slots p)
enough (Count s ∷ slots) (suc k) p h = subst (Suffices (get_or slots k (Count 0))) (sym (on_later s slots k p)) (enough slots k (p - s) (omega arith))
enough (Unlimited ∷ slots) zero p h = tt
enough (Unlimited ∷ slots) (suc k) p h = subst (Suffices (get_or slots k (Count 0))) (sym (on_unlimited slots k p)) (suffices_none (get_or slots k (Count 0)))

more_of : (s : Slots) (n : ℕ) → Suffices s (suc n) → HasMore s n
more_of (Count s) n h = h
more_of Unlimited n h = tt

-- a place is one of those on its level
counted_in : (level : ℕ → ℕ) (p : ℕ) → places_on level (level p) (suc p) ≡ suc (places_on level (level p) p)
counted_in level p = omega (arith, here (level p))
  where
    here : (k : ℕ) → one_if (k == k) ≡ 1
    here k = grind (arith, nat_tests)

-- so many places, and fewer, of all slots
roomy_below : (steps room : ℕ) (slots : List Slots) → room ≤ sum_by (room_for steps) slots → IsRoomy slots (level_at slots) room
roomy_below steps room slots le = record {
  known = λ p h. known_at steps slots p (omega arith);
  more = λ p h.
      let k = level_at slots p in
      let known = known_at steps slots p (omega arith) in
      more_of (get_or slots k (Count 0)) (places_on (level_at slots) k p)
      (subst (Suffices (get_or slots k (Count 0))) (counted_in (level_at slots) p) (enough slots k (suc p) known));
}

pub book_roomy : (steps : ℕ) (book : BookCosts) → BookIsRoomy steps book
book_roomy steps book = roomy_below steps (total_room book steps) (slots_of book) (omega (arith, room_is steps book))
