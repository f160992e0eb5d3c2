-- The level of a place is the first whose slots, together with those of the levels before it, are more than the place.
use Rattle.std.proofs.Common.{◌≡◌, ℕ, zero, suc, ◌+◌, ◌-◌, ◌≤◌, List, [], ◌∷◌, length, take, fold, sym, subst, inl, inr, arith}
use Rattle.std.proofs.lemmas.Bool.{cases_lt}
use Rattle.level_book.specs.declared.book.Slots.{Slots}
use Rattle.level_book.specs.declared.book.Slots.TheVariants.{Count, Unlimited}
use Rattle.level_book.specs.BookCosts.{both}
use Rattle.revolve_gen.specs.Places.{level_at, HasMore, first_slots}
use Rattle.revolve_gen.specs.Laws.{IsFirstLevel, LevelAtIsFirst}
use Rattle.revolve_gen.proofs.SlotPlaces.{at_first, at_later}

-- slots without a limit are more than each place
unlimited_more : (slots : List Slots) (p : ℕ) → HasMore (fold both Unlimited slots) p
unlimited_more [] p = tt
unlimited_more (first ∷ slots) p = unlimited_more slots p

-- s slots more are more than a place that is s later
more_later : (s a b p q : ℕ) (slots : List Slots) → b ≡ s + a → q ≡ s + p → HasMore (fold both (Count a) slots) p → HasMore (fold both (Count b) slots) q
more_later s a b p q [] slots_are place_is more = omega (arith, more)
more_later s a b p q (Count t ∷ slots) slots_are place_is more = more_later s (a + t) (b + t) p q slots (omega arith) place_is more
more_later s a b p q (Unlimited ∷ slots) slots_are place_is more = unlimited_more slots q

-- and s slots fewer are more than one that is s earlier
more_earlier : (s a b p q : ℕ) (slots : List Slots) → b ≡ s + a → q ≡ s + p → HasMore (fold both (Count b) slots) q → HasMore (fold both (Count a) slots) p
more_earlier s a b p q [] slots_are place_is more = omega (arith, more)
more_earlier s a b p q (Count t ∷ slots) slots_are place_is more = more_earlier s (a + t) (b + t) p q slots (omega arith) place_is more
more_earlier s a b p q (Unlimited ∷ slots) slots_are place_is more = unlimited_more slots p

-- no levels have no slots
none_before : (slots : List Slots) (p k : ℕ) → k ≤ 0 → HasMore (first_slots slots k) p → ⊥
none_before slots p zero low more = omega (arith, more)
none_before slots p (suc k) low more = omega (arith, low)

-- the first level of a list of which the first has s slots, for a place past them
behind : (s : ℕ) (slots : List Slots) (p level : ℕ) → s ≤ p → IsFirstLevel slots (p - s) level → IsFirstLevel (Count s ∷ slots) p (suc level)
behind s slots p level past is = record {
  known = let known = is.known in omega (arith, known);
  enough = more_later s 0 (0 + s) (p - s) p (take (suc level) slots) (omega arith) (omega arith) is.enough;
  none = earlier;
}
  where
    earlier : (k : ℕ) → k ≤ suc level → HasMore (first_slots (Count s ∷ slots) k) p → ⊥
    earlier zero low more = omega (arith, more)
    earlier (suc k) low more = is.none k (omega arith) (more_earlier s 0 (0 + s) (p - s) p (take k slots) (omega arith) (omega arith) more)

pub first_level : (slots : List Slots) (p : ℕ) → LevelAtIsFirst slots p
first_level [] p more = absurd (omega (arith, more))
first_level (Count s ∷ slots) p more = elim (cases_lt p s) [
  | inl lt ↦
      let is : IsFirstLevel (Count s ∷ slots) p 0 = record { known = omega arith; enough = omega (arith, lt); none = none_before (Count s ∷ slots) p } in
      subst (IsFirstLevel (Count s ∷ slots) p) (sym (at_first s slots p lt)) is
  | inr ge ↦
      let is = first_level slots (p - s) (more_earlier s 0 (0 + s) (p - s) p (take (length slots) slots) (omega arith) (omega (arith, ge)) more) in
      subst (IsFirstLevel (Count s ∷ slots) p) (sym (at_later s slots p ge)) (behind s slots p (level_at slots (p - s)) ge is)
]
first_level (Unlimited ∷ slots) p more = record { known = omega arith; enough = tt; none = none_before (Unlimited ∷ slots) p }
