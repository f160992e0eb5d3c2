-- Nested lists, front by front: what is left is what is still to be reversed.
use Rattle.std.proofs.Common.{◌≡◌, ℕ, List, [], ◌∷◌, ◌++◌, sym, ap, subst}
use Rattle.plan_types.specs.declared.action.Keep.TheVariants.{Nothing, Store, Tape}
use Rattle.plan_types.specs.declared.action.Dest.TheVariants.{Work, Level}
use Rattle.plan_types.specs.declared.action.Action.{Action}
use Rattle.plan_types.specs.declared.action.Action.TheVariants.{Forward, Reverse, Copy, Move, EndForward, EndReverse}
use Rattle.level_book.specs.declared.book.Slots.{Slots}
use Rattle.level_book.specs.Configuration.{Configuration, start}
use Rattle.level_book.specs.Valid.{Leads}
use Rattle.level_book.specs.NestedClass.{Image, IsNestedFrom, older_than_newest}

-- with another number that is the same
same_left : (left other : ℕ) (images : List Image) (list : List Action) → other ≡ left → IsNestedFrom left images list → IsNestedFrom other images list
same_left left other images list same nested = subst (λ n. IsNestedFrom n images list) (sym same) nested

nested_on : (steps : ℕ) (slots : List Slots) (b c : Configuration) (images : List Image) (front rest : List Action) → IsNestedFrom b.reverse images (front ++ rest) →
    Leads steps slots b front c → (later : List Image) × IsNestedFrom c.reverse later rest
nested_on steps slots b c images [] rest nested leads = (images, same_left b.reverse c.reverse images rest (ap (λ (x : Configuration). x.reverse) leads) nested)
nested_on steps slots b c images (Forward from to Nothing ∷ front) rest nested leads =
    nested_on steps slots leads.0 c images front rest (same_left b.reverse leads.0.reverse images (front ++ rest) (ap (λ (x : Configuration). x.reverse) leads.1.2) nested) leads.2
nested_on steps slots b c images (Forward from to Tape ∷ front) rest nested leads =
    nested_on steps slots leads.0 c images front rest (same_left b.reverse leads.0.reverse images (front ++ rest) (ap (λ (x : Configuration). x.reverse) leads.1.5) nested) leads.2
nested_on steps slots b c images (Forward from to (Store k) ∷ front) rest nested leads =
    let more = record { position = from; level = k } ∷ images in
    nested_on steps slots leads.0 c more front rest (same_left b.reverse leads.0.reverse more (front ++ rest) (ap (λ (x : Configuration). x.reverse) leads.1.3) nested.1) leads.2
nested_on steps slots b c images (Reverse from to ∷ front) rest nested leads =
    nested_on steps slots leads.0 c images front rest (same_left to leads.0.reverse images (front ++ rest) (ap (λ (x : Configuration). x.reverse) leads.1.5) nested) leads.2
nested_on steps slots b c images (Copy n k Work ∷ front) rest nested leads =
    nested_on steps slots leads.0 c images front rest (same_left b.reverse leads.0.reverse images (front ++ rest) (ap (λ (x : Configuration). x.reverse) leads.1.2) nested.1) leads.2
nested_on steps slots b c images (Copy n k (Level j) ∷ front) rest nested leads = absurd nested
nested_on steps slots b c images (Move n k Work ∷ front) rest nested leads =
    let fewer = older_than_newest images in
    nested_on steps slots leads.0 c fewer front rest (same_left b.reverse leads.0.reverse fewer (front ++ rest) (ap (λ (x : Configuration). x.reverse) leads.1.2) nested.2) leads.2
nested_on steps slots b c images (Move n k (Level j) ∷ front) rest nested leads = absurd nested
nested_on steps slots b c images (EndForward ∷ front) rest nested leads =
    nested_on steps slots leads.0 c images front rest (same_left b.reverse leads.0.reverse images (front ++ rest) (ap (λ (x : Configuration). x.reverse) leads.1.3) nested) leads.2
nested_on steps slots b c images (EndReverse ∷ front) rest nested leads =
    nested_on steps slots leads.0 c images front rest (same_left b.reverse leads.0.reverse images (front ++ rest) (ap (λ (x : Configuration). x.reverse) leads.1.3) nested) leads.2

pub left_is : (steps : ℕ) (slots : List Slots) (front rest : List Action) (c : Configuration) → IsNestedFrom steps [] (front ++ rest) →
    Leads steps slots (start steps slots) front c → (images : List Image) × IsNestedFrom c.reverse images rest
left_is steps slots front rest c nested leads = nested_on steps slots (start steps slots) c [] front rest nested leads
