-- A level of a store.
use Rattle.image_store.proofs.Common.{◌≡◌, ℕ, ◌<◌, List, [], length, take, Option, Some, None, IsSome, refl, sym, ◌∙◌, ap, subst, true≢false, ◌≤◌, ◌+◌, zero, suc, ◌++◌, ◌∷◌, get_or, arith, take_more, take_all, get_or-map, length-map, none-some, nat_cmp, BookCosts, slots_of, least, room, Images, pair_at, ShelfState, level_of, no_pairs, no_pairs_on, IsKeptAs, LevelStands, LevelAlone}
use Rattle.std.specs.FinMap as finmap
use Rattle.level_book.specs.declared.book.Slots.{Slots}
use Rattle.level_book.specs.declared.book.Slots.TheVariants.{Count}
use Rattle.level_book.specs.declared.book.Level.{Level}
use Rattle.image_store.specs.declared.shelf.Kept.{Kept}
use Rattle.image_store.proofs.SlotAllocation.{no_pair}

-- a store that is made level by level
pub made_more : (book : BookCosts) (steps i : ℕ) → i < length book.levels →
    take (i + 1) (no_pairs_on (slots_of book) steps) ≡ take i (no_pairs_on (slots_of book) steps) ++ no_pairs steps (room book i steps) ∷ []
made_more book steps i within =
    let f : Slots → ShelfState = λ s. no_pairs steps (least s steps) in
    let slots : Level → Slots = λ l. l.slots in
    let low : i < length (slots_of book) = omega (arith, length-map book.levels slots) in
    let low' : i < length (no_pairs_on (slots_of book) steps) = omega (arith, low, length-map (slots_of book) f) in
    let at : get_or (no_pairs_on (slots_of book) steps) i (f (Count 0)) ≡ f (get_or (slots_of book) i (Count 0)) = get_or-map f (slots_of book) i (Count 0) (f (Count 0)) low in
    take_more (no_pairs_on (slots_of book) steps) i (f (Count 0)) low' ∙ ap (λ (x : ShelfState). take i (no_pairs_on (slots_of book) steps) ++ x ∷ []) at

pub made_all : (book : BookCosts) (steps i : ℕ) → length book.levels ≤ i → take i (no_pairs_on (slots_of book) steps) ≡ no_pairs_on (slots_of book) steps
made_all book steps i past =
    let f : Slots → ShelfState = λ s. no_pairs steps (least s steps) in
    let slots : Level → Slots = λ l. l.slots in
    take_all i (no_pairs_on (slots_of book) steps) (omega (arith, past, length-map book.levels slots, length-map (slots_of book) f))

pub none_at : (slots : List Slots) (steps k n : ℕ) → pair_at (level_of (no_pairs_on slots steps) k).pairs n ≡ None
none_at [] steps k n = refl
none_at (s ∷ slots) steps zero n = no_pair (steps + 1) n
none_at (s ∷ slots) steps (suc k) n = none_at slots steps k n

abbrev no_images : Images
no_images = finmap.empty

-- it stands for the empty map
pub stands_empty : (slots : List Slots) (steps k : ℕ) (images : Images) → LevelStands (level_of (no_pairs_on slots steps) k) (Some images) no_images
stands_empty slots steps k images = record {
  own = λ a b ka kb at_a at_b e. absurd (none-some ka (sym (none_at slots steps k a) ∙ at_a));
  each = λ n. subst (λ (o : Option Kept). IsKeptAs images o (finmap.get no_images n)) (sym (none_at slots steps k n))
      (subst (λ (b : Option (List ℕ)). IsKeptAs images None b) (sym (finmap.get-empty nat_cmp n)) tt);
}

pub alone_empty : (slots : List Slots) (steps k : ℕ) → LevelAlone (level_of (no_pairs_on slots steps) k) (Some no_images)
alone_empty slots steps k slot some = absurd (true≢false (sym (subst IsSome (finmap.get-empty nat_cmp slot) some)))
