-- The slots of a book's levels, added up one by one.
use Rattle.std.proofs.Common.{◌≡◌, ℕ, zero, suc, ◌+◌, ◌≤◌, List, [], ◌∷◌, length, take, drop, Some, slice_get, refl, sym, ◌∙◌, ap, subst}
use Rattle.std.specs.List.{fold, AllByRecursion}
use Rattle.std.specs.Option.{option_map}
use Rattle.std.proofs.lemmas.List.{take_all, length-map, take-append-drop}
use Rattle.std.proofs.lemmas.List.Sums.{fold_more, fold-append}
use Rattle.std.proofs.lemmas.Option.{slice_get-map, slice_get_within, get_or_from_slice_get}
use Rattle.level_book.specs.declared.book.Level.{Level}
use Rattle.level_book.specs.declared.book.Slots.{Slots}
use Rattle.level_book.specs.declared.book.Slots.TheVariants.{Count, Unlimited}
use Rattle.level_book.specs.BookCosts.{BookCosts, IsLevelWithinLimits, both, slots_of}

-- a level of a list that is within limits is within them
pub within_at : (levels : List Level) (k : ℕ) (level : Level) → AllByRecursion IsLevelWithinLimits levels → slice_get levels k ≡ Some level → IsLevelWithinLimits level
within_at [] k level within here = cc
within_at (first ∷ rest) zero level within here = let same : first ≡ level = cc in let P : Level → Type 0 = IsLevelWithinLimits in subst P same within.0
within_at (first ∷ rest) (suc k) level within here = within_at rest k level within.1 here

-- the slots of the first levels
abbrev pub slots_so_far : BookCosts → ℕ → Slots
slots_so_far book k = fold both (Count 0) (take k (slots_of book))

slots_at : (book : BookCosts) (k : ℕ) (level : Level) → slice_get book.levels k ≡ Some level → slice_get (slots_of book) k ≡ Some level.slots
slots_at book k level here = slice_get-map (λ (l : Level). l.slots) book.levels k ∙ ap (option_map (λ (l : Level). l.slots)) here

-- one level more adds its slots
pub slots_more : (book : BookCosts) (k : ℕ) (level : Level) → slice_get book.levels k ≡ Some level → slots_so_far book (k + 1) ≡ both (slots_so_far book k) level.slots
slots_more book k level here =
    let at = slots_at book k level here in
    fold_more both (Count 0) (slots_of book) k level.slots (slice_get_within (slots_of book) k level.slots at)
    ∙ ap (both (slots_so_far book k)) (get_or_from_slice_get (slots_of book) k level.slots level.slots at)

-- slots without a limit stay so
unlimited_stays : (slots : List Slots) → fold both Unlimited slots ≡ Unlimited
unlimited_stays [] = refl
unlimited_stays (first ∷ rest) = unlimited_stays rest

-- where a level is unlimited, so are all levels together
pub unlimited_all : (book : BookCosts) (k : ℕ) → slots_so_far book k ≡ Unlimited → fold both (Count 0) (slots_of book) ≡ Unlimited
unlimited_all book k here =
    ap (fold both (Count 0)) (sym (take-append-drop k (slots_of book)))
    ∙ fold-append both (Count 0) (take k (slots_of book)) (drop k (slots_of book))
    ∙ ap (λ slots. fold both slots (drop k (slots_of book))) here
    ∙ unlimited_stays (drop k (slots_of book))

-- all levels
pub slots_all : (book : BookCosts) (k : ℕ) → length book.levels ≤ k → slots_so_far book k ≡ fold both (Count 0) (slots_of book)
slots_all book k past = ap (fold both (Count 0)) (take_all k (slots_of book) (rw length-map past))
